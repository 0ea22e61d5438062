-- `history::forgetting::clear_slots` meets its contract. In the order of the entries the slots from start up to i are zeros.
use Prim.Native.Nat.{◌*◌, ◌-◌}
use mathlib.Core.Path.{◌≡◌}
use Rattle.buffer.specs.Lend.{zeros}
use Rattle.buffer.specs.Write.{over_at}
use Rattle.history.specs.Slots.{turned}
use Rattle.history.proofs.forgetting.clear_slots.Given as goal

abbrev pub invariant-loop-i : goal.invariant-loop-i
invariant-loop-i l = turned l.first l.slots ≡ over_at (zeros (256 * (l.i - l.start))) (turned l.first l.initial.slots) (256 * l.start)
