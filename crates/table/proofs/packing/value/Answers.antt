-- `table::value` meets its contract.
use Rattle.table.specs.Inner.{value_of}
use Rattle.table.proofs.packing.value.Goals as goal

pub returns : goal.returns
unfolding value_of
returns c = c.part.ensures
