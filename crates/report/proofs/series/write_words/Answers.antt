-- `report::series::write_words` meets its contract: a word goes to the place that it is read from, and to write the rest there is to write the whole.
use Rattle.report.proofs.Ahead.{ahead_start, ahead_end}
use Rattle.report.proofs.Words.{words_begin, words_end, word_within, word_short, word_size, word_lent, word_written}
use native.Mathlib.Omega.{arith}
use mathlib.Core.Path.{refl, sym, ◌∙◌}
use borrow.Enum.Refused.{opened}
use Rattle.report.proofs.series.write_words.Goals as goal

pub loop-at-init : goal.loop-at-init
loop-at-init c = ahead_start _ _ _ refl

pub returns-in_default : goal.returns-in_default
returns-in_default c =
    absurd (words_begin c.args.kind c.args.words.now c.loop-at.at _ c.requires.1 c.loop-at.invariant.count c.loop-at-test.true c.read_frame.ensures (opened c.in_default.in_default-own.keys2))

pub overflow_add-start : goal.overflow_add-start
overflow_add-start c =
    let w = word_within c.args.words.now c.loop-at.at _ _ (sym c.in-Frame.ensures) in omega arith

pub overflow_add-end : goal.overflow_add-end
overflow_add-end c =
    let w = word_within c.args.words.now c.loop-at.at _ _ (sym c.in-Frame.ensures) in omega arith

pub slice_bounds-write_frame-end : goal.slice_bounds-write_frame-end
slice_bounds-write_frame-end c =
    let w = word_within c.args.words.now c.loop-at.at _ _ (sym c.in-Frame.ensures) in omega arith

pub slice_bounds-write_frame-count-in-loop-at : goal.slice_bounds-write_frame-count-in-loop-at
slice_bounds-write_frame-count-in-loop-at c =
    omega (arith, c.loop-at.invariant.count, c.loop-at.invariant.same, c.requires.0)

pub slice_bounds-write_frame-start-in-loop-at : goal.slice_bounds-write_frame-start-in-loop-at
slice_bounds-write_frame-start-in-loop-at c =
    omega (arith, c.loop-at.invariant.count, c.loop-at.invariant.same, c.requires.0)

pub write_frame-at-requires : goal.write_frame-at-requires
write_frame-at-requires c =
    let e = sym c.in-Frame.ensures in
    (word_short c.args.words.now c.loop-at.at _ _ e (λ i. omega (arith, (c.shared_slice_known-1.given i).fits)), word_lent c.args.kind c.args.words.now c.args.out.now c.loop-at.at c.loop-at.out c.loop-at.invariant c.requires.0 _ _ e)

pub overflow_add-at : goal.overflow_add-at
overflow_add-at c =
    let e = sym c.in-Frame.ensures in
    let w = word_within c.args.words.now c.loop-at.at _ _ e in
    let s = c.write_frame-at.ensures.count ∙ word_size c.args.words.now c.loop-at.at _ _ e c.args.kind in
    omega arith

pub loop-at-smaller : goal.loop-at-smaller
loop-at-smaller c =
    let e = sym c.in-Frame.ensures in
    let s = c.write_frame-at.ensures.count ∙ word_size c.args.words.now c.loop-at.at _ _ e c.args.kind in
    omega (arith, s, c.loop-at-test.true)

pub loop-at-preserved : goal.loop-at-preserved
loop-at-preserved c =
    let e = sym c.in-Frame.ensures in
    word_written c.args.kind c.args.words.now c.args.out.now c.loop-at.at c.loop-at.out c.loop-at.invariant c.requires.0 _ _ e _ _ c.write_frame-at.ensures

pub returns : goal.returns
returns c =
    ahead_end _ _ _ _ _ c.loop-at.invariant (words_end c.args.kind c.args.words.now c.loop-at.at c.loop-at-test.false)
