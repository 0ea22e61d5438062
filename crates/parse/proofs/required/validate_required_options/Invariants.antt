-- `parse::required::validate_required_options` meets its contract: what is missing from the place reached is what is missing from the beginning.
use Prim.Native.Nat.{◌-◌}
use lib.ListN.{length}
use Rattle.table.specs.Inner.{map_of}
use Rattle.parse.proofs.Definitions.{Searched}
use Rattle.parse.proofs.required.validate_required_options.Given as goal

abbrev pub invariant-loop-at : goal.invariant-loop-at
invariant-loop-at l = Searched l.node (map_of l.words l.node l.options) l.from l.at

abbrev pub decreases-loop-at : goal.decreases-loop-at
decreases-loop-at l = length l.node - l.at
