-- `history::forgetting::clear_slots` meets its contract. In the order of the entries the slots from start up to i are zeros.
use native.Mathlib.Omega.{arith}
use Prim.Native.Nat.{ℕ, ◌*◌, ◌-◌}
use mathlib.Core.Path.{◌≡◌, refl, ap, ◌∙◌}
use Rattle.buffer.specs.Lend.{zeros}
use Rattle.buffer.specs.Write.{over_at}
use Rattle.history.specs.Slots.{turned}
use Rattle.history.proofs.Turned.{length_turned, after_below}
use Rattle.history.proofs.Layouts.{none_cleared}
use Rattle.history.proofs.Closing.{wipe_turn}
use Rattle.history.proofs.forgetting.clear_slots.Goals as goal

pub loop-i-init : goal.loop-i-init
loop-i-init c =
    none_cleared (256 * (c.args.start - c.args.start)) (turned c.args.first c.args.slots.now) (256 * c.args.start) (omega arith)

pub overflow_add-next : goal.overflow_add-next
overflow_add-next c =
    let b = after_below c.args.first c.loop-i.i in
    omega arith

pub clear-requires : goal.clear-requires
clear-requires c =
    let b = after_below c.args.first c.loop-i.i in
    (omega arith, omega arith)

pub loop-i-preserved : goal.loop-i-preserved
loop-i-preserved c =
    wipe_turn c.args.first (turned c.args.first c.args.slots.now) c.requires.1 (length_turned c.args.first c.args.slots.now ∙ c.requires.0) c.loop-i.slots _ c.args.start c.loop-i.i c.place_of-at.result _ (c.loop-i.auto.slots ∙ c.requires.0) c.loop-i.auto.i (omega arith) c.place_of-at.ensures refl c.loop-i.invariant c.clear.ensures

pub returns : goal.returns
returns c =
    let e : c.loop-i.i ≡ c.args.end = omega arith in
    c.loop-i.invariant ∙ ap (λ (n : ℕ). over_at (zeros (256 * (n - c.args.start))) (turned c.args.first c.args.slots.now) (256 * c.args.start)) e
