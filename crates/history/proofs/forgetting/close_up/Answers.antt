-- `history::forgetting::close_up` meets its contract. In the order of the entries those from end up to source have moved.
use native.Mathlib.Omega.{arith}
use Prim.Native.Nat.{ℕ, ◌*◌, ◌-◌}
use mathlib.Core.Path.{◌≡◌, ap, ◌∙◌}
use lib.ListN.{take, drop}
use Rattle.buffer.specs.Write.{over_at}
use Rattle.history.specs.Slots.{turned}
use Rattle.history.proofs.Turned.{length_turned, after_below}
use Rattle.history.proofs.Closing.{none_copied, move_turn}
use Rattle.history.proofs.forgetting.close_up.Goals as goal

pub loop-source-init : goal.loop-source-init
loop-source-init c =
    none_copied (256 * (c.args.end - c.args.end)) (drop (256 * c.args.end) (turned c.args.first c.args.slots.now)) (turned c.args.first c.args.slots.now) (256 * c.args.start) (omega arith)

pub copy_slot-requires : goal.copy_slot-requires
copy_slot-requires c =
    let a = after_below c.args.first c.loop-source.source in
    let b = after_below c.args.first (c.loop-source.source - (c.args.end - c.args.start)) in
    (c.loop-source.auto.slots ∙ c.requires.0, omega arith, omega arith)

pub loop-source-preserved : goal.loop-source-preserved
loop-source-preserved c =
    move_turn c.args.first (turned c.args.first c.args.slots.now) c.requires.1 (length_turned c.args.first c.args.slots.now ∙ c.requires.0) c.loop-source.slots _ c.args.start c.args.end c.loop-source.source (c.loop-source.source - (c.args.end - c.args.start)) _ _ (c.loop-source.auto.slots ∙ c.requires.0) c.requires.2 c.loop-source.auto.source (omega arith) (omega arith) c.loop-source.invariant c.slot_after.ensures c.slot_after-in-loop-source.ensures c.copy_slot.ensures

pub returns : goal.returns
returns c =
    let view = turned c.args.first c.args.slots.now in
    let e : c.loop-source.source ≡ c.args.count = omega arith in
    c.loop-source.invariant ∙ ap (λ (n : ℕ). over_at (take (256 * (n - c.args.end)) (drop (256 * c.args.end) view)) view (256 * c.args.start)) e
