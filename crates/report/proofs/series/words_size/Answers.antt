-- `report::series::words_size` meets its contract: a word takes as many bytes as it is read from, and what is left takes the rest.
use Rattle.report.proofs.Words.{words_begin, words_end, word_within, word_counted}
use Rattle.report.proofs.Ahead.{count_end}
use native.Mathlib.Omega.{arith}
use mathlib.Core.Path.{sym}
use borrow.Enum.Refused.{opened}
use Rattle.report.proofs.series.words_size.Goals as goal

pub loop-at-init : goal.loop-at-init
loop-at-init c = (omega arith, λ kind. omega arith)

pub returns-in_default : goal.returns-in_default
returns-in_default c =
    absurd (words_begin 0 c.args.words.now c.loop-at.at _ (c.requires) (c.loop-at.invariant.1 0) c.loop-at-test.true c.read_frame.ensures (opened c.in_default.in_default-own.keys2))

pub overflow_add-at : goal.overflow_add-at
overflow_add-at c =
    let w = word_within c.args.words.now c.loop-at.at _ _ (sym c.in-Frame.ensures) in omega arith

pub overflow_add-at-in-loop-at : goal.overflow_add-at-in-loop-at
overflow_add-at-in-loop-at c =
    let w = word_within c.args.words.now c.loop-at.at _ _ (sym c.in-Frame.ensures) in omega arith

pub loop-at-smaller : goal.loop-at-smaller
loop-at-smaller c =
    let w = word_within c.args.words.now c.loop-at.at _ _ (sym c.in-Frame.ensures) in omega arith

pub loop-at-preserved : goal.loop-at-preserved
loop-at-preserved c =
    let e = sym c.in-Frame.ensures in
    let w = word_within c.args.words.now c.loop-at.at _ _ e in
    (omega arith, λ kind. word_counted c.args.words.now c.loop-at.at _ _ e kind _ (c.loop-at.invariant.1 kind))

pub returns : goal.returns
returns c =
    (λ kind. count_end _ _ _ (words_end kind c.args.words.now c.loop-at.at c.loop-at-test.false) (c.loop-at.invariant.1 kind), c.loop-at.invariant.0)
