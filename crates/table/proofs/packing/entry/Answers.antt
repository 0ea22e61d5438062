-- `table::entry` meets its contract: the numbers fit, so no sum wraps, and a source is the bit that stands for it.
use mathlib.Core.Path.{◌≡◌, refl}
use denote.Enum.Declared.{tag_of}
use Rattle.table.specs.contracts.packing.Source.{the_type}
use Rattle.table.specs.declared.packing.Source.{Source}
use Rattle.table.specs.declared.packing.Source.TheVariants.{Words, Image}
use Rattle.table.specs.Inner.{bit_of, packed}
use Rattle.table.proofs.packing.entry.Goals as goal

tag_is : (source : Source) → tag_of the_type source ≡ bit_of source
tag_is Words = refl
tag_is Image = refl

pub returns : goal.returns
unfolding packed
returns c = rw (tag_is c.args.source)
