-- `history::adding::offer` meets its contract.
use mathlib.Core.Path.{sym, ◌∙◌}
use native.Mathlib.Omega.{arith}
use Rattle.history.proofs.Turned.{after_below}
use Rattle.history.proofs.Journals.{good_total}
use Rattle.history.proofs.States.{good_has, dropped_within, offered_old, offered_more, offered_full}
use Rattle.history.proofs.adding.offer.Goals as goal

pub overflow_add-grown : goal.overflow_add-grown
overflow_add-grown c =
    let g = (good_total c.args.history c.args.slots.now c.requires.slots_value).1 in omega arith

pub returns-then-not-is_new : goal.returns-then-not-is_new
returns-then-not-is_new c =
    offered_old c.args.history c.args.slots.now c.args.text.now c.requires.slots_value (sym c.is_new.ensures ∙ c.if-not-is_new.true)

pub overflow_sub-total : goal.overflow_sub-total
overflow_sub-total c =
    let d = dropped_within c.args.history c.args.slots.now c.args.text.now c.requires.slots_value _ _ c.place_of-at.ensures c.byte_at.ensures.byte in omega arith

pub store-requires : goal.store-requires
store-requires c =
    let g = good_has c.args.history c.args.slots.now c.requires.slots_value in let s = g.size in let b = after_below c.args.history.first c.args.history.count in (c.requires.text_len_bound, omega arith)

pub returns-then-count-lt-MOST : goal.returns-then-count-lt-MOST
returns-then-count-lt-MOST c =
    rw c.store.ensures (offered_more c.args.history c.args.slots.now c.args.text.now c.requires.slots_value _ _ c.place_of-at.ensures c.byte_at.ensures.byte (sym c.is_new.ensures ∙ c.if-not-is_new.false) c.requires.text_len_bound c.if-count-lt-MOST.true)

pub returns : goal.returns
returns c =
    rw (c.store.ensures, c.slot_after.ensures) (offered_full c.args.history c.args.slots.now c.args.text.now c.requires.slots_value _ _ c.place_of-at.ensures c.byte_at.ensures.byte (sym c.is_new.ensures ∙ c.if-not-is_new.false) c.requires.text_len_bound c.if-count-lt-MOST.false)
