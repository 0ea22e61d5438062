-- `arguments::standing::Stage::shorts` meets its contract: the characters still to come, from where the scan stands, lead where all of them lead.
use Prim.Native.Nat.{◌+◌, ◌-◌, ◌≤◌}
use mathlib.Core.Path.{sym, ◌∙◌, refl}
use native.Mathlib.Omega.{arith}
use Rattle.arguments.specs.Inner.{held, definitions_at}
use lib.ListN.{length, take, drop}
use Rattle.text.proofs.Pieces.{character_fits, character_some}
use Rattle.text.proofs.Prefix.{codes_end, prefix_turn}
use Rattle.arguments.proofs.Steps.{piece_length}
use Rattle.arguments.proofs.Walks.{shorts_start, shorts_turn, shorts_end, letters_start, letter_begins, letter_part}
use borrow.Enum.Refused.{opened}
use Rattle.arguments.proofs.standing.Stage.shorts.Goals as goal

pub loop-at-init : goal.loop-at-init
loop-at-init c =
    (λ o. shorts_start c.args.node.words.now c.args.node.image.now (definitions_at c.args.node.image.now c.args.node.from) (take (c.args.end - c.args.start) (drop c.args.start c.args.node.words.now)) (held o c.args.flags.now c.args.self) c.requires.2, c.requires.3, refl, letters_start (take (c.args.end - c.args.start) (drop c.args.start c.args.node.words.now)) c.requires.4)

pub returns-in_default : goal.returns-in_default
returns-in_default c =
    absurd (letter_begins (take (c.args.end - c.args.start) (drop c.args.start c.args.node.words.now)) c.loop-at.at _ c.loop-at.invariant.3 c.loop-at-test.true (sym c.decode.ensures) (opened c.in_default.in_default-own.keys2))

pub overflow_add-start : goal.overflow_add-start
overflow_add-start c =
    let e = sym c.in-Character.ensures in
    let fit : c.loop-at.at + c.in-Character.length ≤ length (take (c.args.end - c.args.start) (drop c.args.start c.args.node.words.now)) = character_fits (take (c.args.end - c.args.start) (drop c.args.start c.args.node.words.now)) c.loop-at.at _ _ e in
    let k = piece_length c.args.node.words.now c.args.start c.args.end c.requires.0 c.requires.1 in
    omega arith

pub short-stage-requires : goal.short-stage-requires
short-stage-requires c =
    (letter_part c.args.node.words.now c.args.start c.args.end _ _ _ (sym c.in-Character.ensures), c.loop-at.invariant.1)

pub overflow_add-at : goal.overflow_add-at
overflow_add-at c =
    let e = sym c.in-Character.ensures in
    let fit : c.loop-at.at + c.in-Character.length ≤ length (take (c.args.end - c.args.start) (drop c.args.start c.args.node.words.now)) = character_fits (take (c.args.end - c.args.start) (drop c.args.start c.args.node.words.now)) c.loop-at.at _ _ e in
    let k = piece_length c.args.node.words.now c.args.start c.args.end c.requires.0 c.requires.1 in
    omega arith

pub loop-at-smaller : goal.loop-at-smaller
loop-at-smaller c =
    let e = sym c.in-Character.ensures in
    let fit : c.loop-at.at + c.in-Character.length ≤ length (take (c.args.end - c.args.start) (drop c.args.start c.args.node.words.now)) = character_fits (take (c.args.end - c.args.start) (drop c.args.start c.args.node.words.now)) c.loop-at.at _ _ e in
    let some = character_some (drop c.loop-at.at (take (c.args.end - c.args.start) (drop c.args.start c.args.node.words.now))) _ _ e in
    omega arith

pub loop-at-preserved : goal.loop-at-preserved
loop-at-preserved c =
    (λ o. shorts_turn c.args.node.words.now c.args.node.image.now (definitions_at c.args.node.image.now c.args.node.from) (take (c.args.end - c.args.start) (drop c.args.start c.args.node.words.now)) (held o c.args.flags.now c.args.self) _ _ _ _ _ (c.loop-at.invariant.0 o) (sym c.in-Character.ensures) (c.short-stage.ensures.0 o), c.short-stage.ensures.1, c.short-stage.ensures.2 ∙ c.loop-at.invariant.2, prefix_turn (take (c.args.end - c.args.start) (drop c.args.start c.args.node.words.now)) c.loop-at.at _ _ _ (sym c.in-Character.ensures) c.loop-at.invariant.3)

pub returns : goal.returns
returns c =
    (λ o. shorts_end c.args.node.words.now c.args.node.image.now (definitions_at c.args.node.image.now c.args.node.from) (take (c.args.end - c.args.start) (drop c.args.start c.args.node.words.now)) (held o c.args.flags.now c.args.self) _ c.loop-at.at (c.loop-at.invariant.0 o) (codes_end (take (c.args.end - c.args.start) (drop c.args.start c.args.node.words.now)) c.loop-at.at c.loop-at-test.false), c.loop-at.invariant.1, c.loop-at.invariant.2)
