-- `words::step::run_end` meets its contract. What is passed is a run; it stops where the next character is not taken.
use Rattle.words.specs.Inner.{Run}
use Prim.Native.Nat.{◌-◌}
use lib.ListN.{length}
use Rattle.words.proofs.step.run_end.Given as goal

abbrev pub invariant-loop-at : goal.invariant-loop-at
invariant-loop-at l = Run l.line l.start l.quotes l.at

abbrev pub decreases-loop-at : goal.decreases-loop-at
decreases-loop-at l = length l.line - l.at
