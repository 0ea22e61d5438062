-- `history::testing::are_good` meets its contract. What is still to judge and to add up, from entry k on, is what there was.
use mathlib.Core.Path.{◌≡◌, sym, ◌∙◌}
use Prim.Native.Nat.{◌-◌, ◌+◌}
use native.Mathlib.Omega.{arith}
use borrow.Author.Tests.{ne_eqb}
use Rattle.history.proofs.Turned.{after_below, after_before}
use Rattle.history.proofs.Passing.{judges_begin, tallies_begin, judges_bad, judges_repeated, judges_on, tallies_on, judges_end, tallies_end, next_after}
use Rattle.history.proofs.Judging.{tallied_not, tallied_other, tallied_so}
use Rattle.history.proofs.testing.are_good.Goals as goal
use Rattle.history.proofs.testing.are_good.Goals.{then-not-is_good_slot-via-then-not-is_good_slot, then-not-is_good_slot-via-else-not-is_good_slot+then-is_repeated}

pub loop-k-init : goal.loop-k-init
loop-k-init c = let e = after_before c.args.first 0 (omega arith) in (omega arith, omega arith, judges_begin _ _ _, omega arith, tallies_begin _ _ _)

pub is_good_slot-requires : goal.is_good_slot-requires
is_good_slot-requires c =
    let b = after_below c.args.first c.loop-k.k in omega arith

pub is_repeated-requires : goal.is_repeated-requires
is_repeated-requires c =
    let b = after_below c.args.first c.loop-k.k in let d = after_below c.args.first (c.loop-k.k - 1) in (omega arith, omega arith)

pub returns-then-not-is_good_slot : goal.returns-then-not-is_good_slot
returns-then-not-is_good_slot c =
    elim c.then-not-is_good_slot.branch [
      | then-not-is_good_slot-via-then-not-is_good_slot w ↦
          sym (tallied_not _ c.args.total _ (judges_bad c.args.first c.args.slots.now c.requires.1 c.requires.0 c.args.count c.loop-k.k _ _ c.requires.2 c.loop-k-test.true c.loop-k.invariant.0 c.loop-k.invariant.1 c.loop-k.invariant.2 (sym c.is_good_slot.ensures ∙ w.if-not-is_good_slot.true)))
      | then-not-is_good_slot-via-else-not-is_good_slot+then-is_repeated w ↦
          sym (tallied_not _ c.args.total _ (judges_repeated c.args.first c.args.slots.now c.requires.1 c.requires.0 c.args.count c.loop-k.k _ _ c.requires.2 c.loop-k-test.true c.loop-k.invariant.0 c.loop-k.invariant.1 c.loop-k.invariant.2 (sym c.is_good_slot.ensures ∙ w.if-not-is_good_slot.false) (sym w.is_repeated.ensures ∙ w.if-is_repeated.true)))
    ]

pub next_place-at-requires : goal.next_place-at-requires
next_place-at-requires c =
    let b = after_below c.args.first c.loop-k.k in omega arith

pub loop-k-preserved : goal.loop-k-preserved
loop-k-preserved c =
    let on = judges_on c.args.first c.args.slots.now c.requires.1 c.requires.0 c.args.count c.loop-k.k _ _ c.requires.2 c.loop-k-test.true c.loop-k.invariant.0 c.loop-k.invariant.1 c.loop-k.invariant.2 (sym c.is_good_slot.ensures ∙ c.if-not-is_good_slot.false) (sym c.is_repeated.ensures ∙ c.if-is_repeated.false) in let more = tallies_on c.args.first c.args.slots.now c.requires.1 c.requires.0 c.args.count c.loop-k.k _ _ c.requires.2 c.loop-k-test.true c.loop-k.invariant.0 c.loop-k.invariant.1 _ c.loop-k.sum c.byte_at-sum.ensures.byte (omega arith) c.loop-k.invariant.4 in let here : c.loop-k.k + 1 - 1 ≡ c.loop-k.k = omega arith in (c.next_place-at.ensures ∙ next_after c.args.first c.loop-k.k _ c.loop-k.invariant.0, rw here c.loop-k.invariant.0, on, omega arith, more)

pub returns-then-sum-total : goal.returns-then-sum-total
returns-then-sum-total c =
    let tallies = tallies_end c.args.first c.args.slots.now c.args.count c.loop-k.k c.loop-k.sum c.loop-k-test.false c.loop-k.invariant.4 in c.is_rest_clear.ensures ∙ judges_end c.args.first c.args.slots.now c.requires.1 c.requires.0 c.args.count c.loop-k.k c.loop-k-test.false c.loop-k.auto.k-end c.loop-k.invariant.2 ∙ sym (tallied_so c.args.count c.args.total _ (sym c.if-sum-total.true ∙ tallies))

pub returns-else-sum-total : goal.returns-else-sum-total
returns-else-sum-total c =
    ne_eqb _ _ c.if-sum-total.false ∙ sym (tallied_other c.args.count c.args.total _ (λ e. c.if-sum-total.false (tallies_end _ _ _ _ _ c.loop-k-test.false c.loop-k.invariant.4 ∙ sym e)))
