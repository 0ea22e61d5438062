-- `words::step::ordinary_end` meets its contract. What is passed is a run, inside quotes or not.
use Rattle.words.specs.Inner.{Run}
use Prim.Native.Nat.{◌≤◌, ◌-◌}
use mathlib.Core.Bool.{Bool}
use lib.ListN.{length}
use Rattle.words.proofs.step.ordinary_end.Given as goal

abbrev pub invariant-loop-n : goal.invariant-loop-n
invariant-loop-n l = (l.at ≤ length l.line) × ((quotes : Bool) → Run l.line l.start quotes l.at)

abbrev pub decreases-loop-n : goal.decreases-loop-n
decreases-loop-n l = length l.line - l.at
