-- `table::sorted::shift` meets its contract. The loop carries the element that the last store displaced (`Shift`).
use Rattle.table.proofs.Shifting.{Shift}
use Rattle.table.proofs.sorted.shift.Given as goal

abbrev pub invariant-loop-x : goal.invariant-loop-x
invariant-loop-x l = Shift l.e l.initial.entries l.entries l.moved l.x-index
