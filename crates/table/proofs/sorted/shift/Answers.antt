-- `table::sorted::shift` meets its contract. The loop carries the element that the last store displaced (`Shift`).
use Rattle.table.proofs.Shifting.{shift_turn, shift_end}
use native.Mathlib.Omega.{arith}
use mathlib.Core.Path.{refl}
use Rattle.table.proofs.sorted.shift.Goals as goal

pub loop-x-init : goal.loop-x-init
loop-x-init c = record { bytes = refl; next = refl }

pub loop-x-preserved : goal.loop-x-preserved
loop-x-preserved c = shift_turn c.args.e c.args.entries.now _ _ _ _ _ (omega arith) c.loop-x.invariant c.replace-moved.ensures.after c.replace-moved.ensures.value

pub returns : goal.returns
returns c = shift_end c.args.e c.args.entries.now _ _ _ (omega arith) (omega arith) c.loop-x.invariant
