-- `shell::runner::help_for` meets its contract: by where the words lead.
use native.Mathlib.Omega.{arith}
use Rattle.buffer.specs.Numbers.{Bytes}
use Rattle.help.proofs.Answers.{part_most, tree_short}
use Rattle.shell.proofs.WrittenAnswers.{said_shown, unshown}
use Rattle.help.proofs.SpacedWords.{no_words, some_words}
use Rattle.shell.proofs.Lines.{help_none, help_found, help_lost}
use Rattle.shell.proofs.runner.help_for.Goals as goal

pub returns-then-is_none : goal.returns-then-is_none
returns-then-is_none c =
    help_none c.args.image.now c.args.words.now _ (no_words c.args.words.now _ _ c.next_word.ensures c.is_none.ensures c.if-is_none.true)

pub show_help-requires : goal.show_help-requires
unfolding Bytes
show_help-requires c =
    let h = tree_short c.args.image.now (λ i. (c.type_inv.image i).fits) c.requires.0 in
    let m = part_most _ c.args.image.now c.in-Ok.node.start c.in-Ok.node.end c.of.ensures in (omega arith, c.requires.1)

pub show_unknown_help-requires : goal.show_unknown_help-requires
show_unknown_help-requires c =
    let m = part_most _ c.args.words.now c.in-Err.word.start c.in-Err.word.end c.of-in-Err.ensures in omega arith

pub returns-in_err-length-in-Ok : goal.returns-in_err-length-in-Ok
returns-in_err-length-in-Ok c =
    let f = rw c.in-Ok.is at c.follow.ensures in
    let some = some_words c.args.words.now _ _ c.next_word.ensures c.is_none.ensures c.if-is_none.false in
    help_found c.args.image.now c.args.words.now _ some _ _ _ _ f _ c.of.ensures (unshown _ _ _ c.in_err-length-in-Ok.field-0.0 _ _ c.from_residual.ensures.1 c.in_err-length-in-Ok.was c.show_help.ensures)

pub returns-in_ok-length-in-Ok : goal.returns-in_ok-length-in-Ok
returns-in_ok-length-in-Ok c =
    let f = rw c.in-Ok.is at c.follow.ensures in
    let some = some_words c.args.words.now _ _ c.next_word.ensures c.is_none.ensures c.if-is_none.false in
    help_found c.args.image.now c.args.words.now _ some _ _ _ _ f _ c.of.ensures (said_shown _ _ _ _ _ c.in_ok-length-in-Ok.was c.show_help.ensures)

pub returns-in_err-length-in-Err : goal.returns-in_err-length-in-Err
returns-in_err-length-in-Err c =
    let f = rw c.in-Err.is at c.follow.ensures in
    let some = some_words c.args.words.now _ _ c.next_word.ensures c.is_none.ensures c.if-is_none.false in
    help_lost c.args.image.now c.args.words.now _ some _ _ _ _ f _ c.of-in-Err.ensures (unshown _ _ _ c.in_err-length-in-Err.field-0.0 _ _ c.from_residual-in_err-length-in-Err.ensures.1 c.in_err-length-in-Err.was c.show_unknown_help.ensures)

pub returns-in_ok-length-in-Err : goal.returns-in_ok-length-in-Err
returns-in_ok-length-in-Err c =
    let f = rw c.in-Err.is at c.follow.ensures in
    let some = some_words c.args.words.now _ _ c.next_word.ensures c.is_none.ensures c.if-is_none.false in
    help_lost c.args.image.now c.args.words.now _ some _ _ _ _ f _ c.of-in-Err.ensures (said_shown _ _ _ _ _ c.in_ok-length-in-Err.was c.show_unknown_help.ensures)
