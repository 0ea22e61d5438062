-- `table::Table::empty` meets its contract: none of its numbers counts.
use Rattle.table.specs.Inner.{map_of, entries}
use mathlib.Core.Path.{refl}
use Rattle.table.proofs.sorted.Table.empty.Goals as goal

pub returns : goal.returns
unfolding map_of entries
returns c = λ words image. refl
