-- `lookup::seek::seek` meets its contract: the search from the place reached gives what the search from the beginning gives.
use Rattle.lookup.specs.Searches.{wanted, ended_by}
use Rattle.lookup.specs.Spots.{spot}
use Prim.Native.Nat.{◌-◌}
use mathlib.Core.Path.{◌≡◌}
use lib.ListN.{length}
use Rattle.lookup.proofs.seek.seek.Given as goal

abbrev pub invariant-loop-at : goal.invariant-loop-at
invariant-loop-at l = spot (wanted l.sought l.key) (ended_by l.sought) l.image l.at ≡ spot (wanted l.sought l.key) (ended_by l.sought) l.image l.from

abbrev pub decreases-loop-at : goal.decreases-loop-at
decreases-loop-at l = length l.image - l.at
