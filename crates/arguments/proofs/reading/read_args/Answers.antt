-- `arguments::arguments::read_args` meets its contract: the words still to come, from where the scan stands, lead where all of them lead.
use Prim.Native.Nat.{◌+◌, ◌≤◌}
use mathlib.Core.Path.{sym, ap}
use native.Mathlib.Omega.{arith}
use lib.ListN.{length}
use Rattle.frame.proofs.Series.{all_begin, texts_end, word_within}
use Rattle.arguments.specs.Inner.{definitions_at}
use Rattle.arguments.proofs.Walks.{args_start, args_turn, args_end, split_word}
use Rattle.arguments.specs.declared.standing.Stage.{Stage}
use Rattle.arguments.proofs.Moves.{fit_as, stage_starts, stage_apt}
use borrow.Enum.Refused.{opened}
use Rattle.arguments.proofs.reading.read_args.Goals as goal

pub loop-at-init : goal.loop-at-init
loop-at-init c =
    (args_start c.args.node.words.now c.args.node.image.now (definitions_at c.args.node.image.now c.args.node.from) c.args.start c.args.rest.now _ (stage_starts c.args.node.words.now c.args.node.image.now c.args.rest.now c.args.options.now c.args.flags.now _ c.start-stage.ensures) (stage_apt c.args.node.words.now c.args.node.image.now c.args.rest.now c.args.options.now c.args.flags.now _ c.start-stage.ensures) (ap (λ (s : Stage). s.kept) c.start-stage.ensures) c.requires.3, fit_as _ 0 _ (ap (λ (s : Stage). s.options) c.start-stage.ensures) (record { few = omega arith; full = c.requires.1 }), fit_as _ 0 _ (ap (λ (s : Stage). s.flags) c.start-stage.ensures) (record { few = omega arith; full = c.requires.2 }))

pub returns-in_default : goal.returns-in_default
returns-in_default c =
    absurd (all_begin c.args.node.words.now c.loop-at.at c.loop-at.invariant.0.ahead.frames c.loop-at-test.true _ c.read_frame.ensures (opened c.in_default.in_default-own.keys2))

pub word-stage-requires : goal.word-stage-requires
word-stage-requires c =
    let h : c.loop-at.at + 3 + c.in-Frame.length ≤ length c.args.node.words.now = word_within c.args.node.words.now c.loop-at.at _ _ (sym c.in-Frame.ensures) in
    record { word_there = ((_, (sym c.in-Frame.ensures)), split_word c.args.node.words.now c.loop-at.at _ _ (sym c.in-Frame.ensures) c.loop-at.invariant.0.ahead); word_asks = (c.loop-at.invariant.0.apt, omega arith, c.loop-at.invariant.1, c.loop-at.invariant.2) }

pub overflow_add-at : goal.overflow_add-at
overflow_add-at c =
    let h : c.loop-at.at + 3 + c.in-Frame.length ≤ length c.args.node.words.now = word_within c.args.node.words.now c.loop-at.at _ _ (sym c.in-Frame.ensures) in
    omega arith

pub overflow_add-at-in-loop-at : goal.overflow_add-at-in-loop-at
overflow_add-at-in-loop-at c =
    let h : c.loop-at.at + 3 + c.in-Frame.length ≤ length c.args.node.words.now = word_within c.args.node.words.now c.loop-at.at _ _ (sym c.in-Frame.ensures) in
    omega arith

pub loop-at-smaller : goal.loop-at-smaller
loop-at-smaller c =
    let h : c.loop-at.at + 3 + c.in-Frame.length ≤ length c.args.node.words.now = word_within c.args.node.words.now c.loop-at.at _ _ (sym c.in-Frame.ensures) in
    omega arith

pub loop-at-preserved : goal.loop-at-preserved
loop-at-preserved c =
    (args_turn c.args.node.words.now c.args.node.image.now (definitions_at c.args.node.image.now c.args.node.from) c.args.start c.args.rest.now _ _ _ _ _ _ _ c.loop-at.invariant.0 (sym c.in-Frame.ensures) c.word-stage.ensures.0, c.word-stage.ensures.1, c.word-stage.ensures.2)

pub returns : goal.returns
returns c =
    (args_end c.args.node.words.now c.args.node.image.now (definitions_at c.args.node.image.now c.args.node.from) c.args.start c.args.rest.now _ _ c.loop-at.at c.loop-at.invariant.0 (texts_end c.args.node.words.now c.loop-at.at c.loop-at-test.false), c.loop-at.invariant.1, c.loop-at.invariant.2)
