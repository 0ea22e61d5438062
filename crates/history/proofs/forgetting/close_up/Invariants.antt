-- `history::forgetting::close_up` meets its contract. In the order of the entries those from end up to source have moved.
use Prim.Native.Nat.{◌*◌, ◌-◌}
use mathlib.Core.Path.{◌≡◌}
use lib.ListN.{take, drop}
use Rattle.buffer.specs.Write.{over_at}
use Rattle.history.specs.Slots.{turned}
use Rattle.history.proofs.forgetting.close_up.Given as goal

abbrev pub invariant-loop-source : goal.invariant-loop-source
invariant-loop-source l =
    turned l.first l.slots ≡ over_at (take (256 * (l.source - l.end)) (drop (256 * l.end) (turned l.first l.initial.slots))) (turned l.first l.initial.slots) (256 * l.start)
