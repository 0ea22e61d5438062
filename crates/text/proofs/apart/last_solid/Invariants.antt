-- `text::apart::last_solid` meets its contract. The end found so far, or the last solid piece of what is left, gives the end.
use Rattle.text.proofs.WhiteRuns.{reach, solid_length}
use Prim.Native.Nat.{◌+◌, ◌≤◌, ◌-◌}
use mathlib.Core.Path.{◌≡◌}
use lib.ListN.{length, drop}
use Rattle.text.proofs.apart.last_solid.Given as goal

abbrev pub invariant-loop-seen : goal.invariant-loop-seen
invariant-loop-seen l = (l.at ≤ length l.s) × (reach l.end l.at (solid_length (drop l.at l.s)) ≡ l.from + solid_length (drop l.from l.s))

abbrev pub decreases-loop-seen : goal.decreases-loop-seen
decreases-loop-seen l = length l.s - l.at
