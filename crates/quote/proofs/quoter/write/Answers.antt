-- `quote::quoter::write` meets its contract: each word is a write right after those before it; a bad word does not come up.
use Rattle.quote.proofs.Listing.{item_none}
use Rattle.quote.proofs.Laying.{laying_start, laying_end, word_room_lem, word_turn}
use Rattle.quote.proofs.Counting.{fine_word, word_within, word_formed, rest_start, rest_bad, rest_end, fine_turn}
use Rattle.quote.specs.Answer.{line_of}
use Rattle.buffer.proofs.Lending.{over_at_front}
use native.Mathlib.Omega.{arith}
use mathlib.Core.Path.{refl, sym, ◌∙◌}
use borrow.Enum.Refused.{opened}
use Rattle.quote.proofs.quoter.write.Goals as goal

pub loop-at-init : goal.loop-at-init
loop-at-init c = (refl, omega arith, c.requires.fine, laying_start _ _ _ _ (rest_start _))

pub returns-in_default : goal.returns-in_default
returns-in_default c =
    absurd (rest_bad c.args.words.now c.loop-at.n c.loop-at.at c.loop-at.invariant.2 c.loop-at-test.true (item_none _ _ (sym c.read_frame.ensures) (opened c.in_default.in_default-own.keys2)))

pub overflow_add-start : goal.overflow_add-start
overflow_add-start c =
    let f = word_within c.args.words.now c.loop-at.at _ (fine_word _ _ _ c.loop-at.invariant.2 (sym c.in-Frame.ensures)) in omega arith

pub overflow_add-end : goal.overflow_add-end
overflow_add-end c =
    let f = word_within c.args.words.now c.loop-at.at _ (fine_word _ _ _ c.loop-at.invariant.2 (sym c.in-Frame.ensures)) in omega arith

pub slice_bounds-push_word-start : goal.slice_bounds-push_word-start
slice_bounds-push_word-start c =
    let f = word_within c.args.words.now c.loop-at.at _ (fine_word _ _ _ c.loop-at.invariant.2 (sym c.in-Frame.ensures)) in omega arith

pub slice_bounds-push_word-end : goal.slice_bounds-push_word-end
slice_bounds-push_word-end c =
    let f = word_within c.args.words.now c.loop-at.at _ (fine_word _ _ _ c.loop-at.invariant.2 (sym c.in-Frame.ensures)) in omega arith

pub push_word-o-requires : goal.push_word-o-requires
push_word-o-requires c =
    let e = fine_word _ _ _ c.loop-at.invariant.2 (sym c.in-Frame.ensures) in
    let r = word_room_lem (line_of c.args.words.now) c.args.words.now c.args.out.now _ c.loop-at.n c.loop-at.at _ _ c.loop-at.invariant.3 c.loop-at.invariant.2 e c.requires.words_in_bounds in
    record { word_value = word_formed c.args.words.now c.loop-at.at _ e; word_in_bounds = omega (arith, r, c.loop-at.invariant.0) }

pub overflow_add-n : goal.overflow_add-n
overflow_add-n c =
    omega (arith, c.loop-at.invariant.1, c.loop-at-test.true)

pub loop-at-smaller : goal.loop-at-smaller
loop-at-smaller c =
    let f = word_within c.args.words.now c.loop-at.at _ (fine_word _ _ _ c.loop-at.invariant.2 (sym c.in-Frame.ensures)) in omega arith

pub loop-at-preserved : goal.loop-at-preserved
loop-at-preserved c =
    let e = fine_word _ _ _ c.loop-at.invariant.2 (sym c.in-Frame.ensures) in (
      c.push_word-o.auto.out ∙ c.loop-at.invariant.0,
      omega (arith, c.loop-at.invariant.1),
      fine_turn c.args.words.now c.loop-at.n c.loop-at.at c.loop-at.invariant.2 _ e,
      word_turn (line_of c.args.words.now) c.args.words.now c.args.out.now _ c.loop-at.n c.loop-at.at _ _ c.loop-at.invariant.3 c.loop-at.invariant.2 e c.requires.words_in_bounds _ _ c.push_word-o.ensures,
    )

pub returns : goal.returns
returns c =
    (laying_end _ _ _ _ _ _ c.loop-at.invariant.3 (rest_end c.args.words.now c.loop-at.n c.loop-at.at c.loop-at-test.false)).bytes ∙ over_at_front _ _
