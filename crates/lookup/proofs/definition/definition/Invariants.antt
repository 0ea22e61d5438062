-- `lookup::definition::definition` meets its contract: the answer from the place reached, with the option found before, is the answer from the beginning.
use Rattle.lookup.proofs.Matches.{answer_at}
use Rattle.lookup.specs.Inner.{has_asked}
use Rattle.lookup.specs.Definitions.{defined}
use Prim.Native.Nat.{◌-◌}
use mathlib.Core.Path.{◌≡◌}
use lib.ListN.{length}
use Rattle.lookup.proofs.definition.definition.Given as goal

abbrev pub invariant-loop-at : goal.invariant-loop-at
invariant-loop-at l = answer_at (has_asked l.asked) l.image l.option l.at ≡ defined (has_asked l.asked) l.image l.from

abbrev pub decreases-loop-at : goal.decreases-loop-at
decreases-loop-at l = length l.image - l.at
