-- `history::testing::is_good` meets its contract.
use Rattle.history.proofs.States.{bad_size, bad_first, bad_count, bad_place}
use Rattle.history.proofs.Judging.{good_is}
use mathlib.Core.Path.{sym, ◌∙◌}
use native.Mathlib.Omega.{arith}
use Rattle.buffer.specs.Numbers.{Bytes}
use Rattle.history.proofs.testing.is_good.Goals as goal
use Rattle.history.proofs.testing.is_good.Goals.{then-slots-ne-SLOTS-via-then-slots-ne-SLOTS, then-slots-ne-SLOTS-via-else-slots-ne-SLOTS+then-history-ge-MOST, then-slots-ne-SLOTS-via-else-slots-ne-SLOTS+else-history-ge-MOST+then-history-gt-MOST, then-slots-ne-SLOTS-via-else-slots-ne-SLOTS+else-history-ge-MOST+else-history-gt-MOST+then-history}

pub returns-then-slots-ne-SLOTS : goal.returns-then-slots-ne-SLOTS
returns-then-slots-ne-SLOTS c =
    elim c.then-slots-ne-SLOTS.branch [
      | then-slots-ne-SLOTS-via-then-slots-ne-SLOTS w ↦ sym (bad_size _ c.args.slots.now w.if-slots-ne-SLOTS.true)
      | then-slots-ne-SLOTS-via-else-slots-ne-SLOTS+then-history-ge-MOST w ↦ sym (bad_first c.args.history c.args.slots.now w.if-slots-ne-SLOTS.false (omega arith))
      | then-slots-ne-SLOTS-via-else-slots-ne-SLOTS+else-history-ge-MOST+then-history-gt-MOST w ↦ sym (bad_count c.args.history c.args.slots.now w.if-slots-ne-SLOTS.false (omega arith) (omega arith))
      | then-slots-ne-SLOTS-via-else-slots-ne-SLOTS+else-history-ge-MOST+else-history-gt-MOST+then-history w ↦ sym (bad_place c.args.history c.args.slots.now w.if-slots-ne-SLOTS.false (omega arith) (omega arith) (omega arith))
    ]

pub returns : goal.returns
unfolding Bytes
returns c =
    c.are_good.ensures
    ∙ good_is c.args.history c.args.slots.now (λ i. omega (arith, (c.type_inv.slots i).fits)) c.if-slots-ne-SLOTS.false (omega arith) (omega arith) (omega arith)
