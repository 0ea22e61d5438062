-- `help::call::reply` meets its contract: by where the words lead.
use Rattle.std.proofs.lemmas.Result.{err_from_is_err_and}
use Rattle.help.proofs.Answers.{replied_none, said_shown, part_most, tree_short, reply_none, reply_found, reply_lost}
use Rattle.help.proofs.SpacedWords.{no_words, some_words}
use Rattle.buffer.specs.Numbers.{Bytes}
use native.Mathlib.Omega.{arith}
use Rattle.help.proofs.call.reply.Goals as goal

pub returns-then-is_none : goal.returns-then-is_none
returns-then-is_none c =
    rw (reply_none c.args.image.now c.args.line.now (no_words c.args.line.now _ _ c.next_word.ensures c.is_none.ensures c.if-is_none.true)) (replied_none _)

pub show_help-requires : goal.show_help-requires
unfolding Bytes
show_help-requires c =
    let h = tree_short c.args.image.now (λ i. (c.shared_slice_known-1.given i).fits) c.requires.0 in
    let m = part_most _ c.args.image.now c.in-Ok.node.start c.in-Ok.node.end c.of.ensures in (omega arith, c.requires.1)

pub put_unknown-requires : goal.put_unknown-requires
put_unknown-requires c =
    let m = part_most _ c.args.line.now c.in-Err.word.start c.in-Err.word.end c.of-in-Err.ensures in omega arith

pub returns-in_err-length-in-Ok : goal.returns-in_err-length-in-Ok
returns-in_err-length-in-Ok c =
    let f = rw c.in-Ok.is at c.follow.ensures in
    let p = err_from_is_err_and c.from_residual.result c.from_residual.ensures.1 in
    let told = rw c.in_err-length-in-Ok.was at (said_shown _ _ _ _ c.show_help.ensures) in
    rw (reply_found c.args.image.now c.args.line.now (some_words c.args.line.now _ _ c.next_word.ensures c.is_none.ensures c.if-is_none.false) _ _ f)
    (rw (p.1, p.2) (rw c.of.ensures at told))

pub returns-in_ok-length-in-Ok : goal.returns-in_ok-length-in-Ok
returns-in_ok-length-in-Ok c =
    let f = rw c.in-Ok.is at c.follow.ensures in
    let told = rw c.in_ok-length-in-Ok.was at (said_shown _ _ _ _ c.show_help.ensures) in
    rw (reply_found c.args.image.now c.args.line.now (some_words c.args.line.now _ _ c.next_word.ensures c.is_none.ensures c.if-is_none.false) _ _ f)
    (rw c.of.ensures at told)

pub returns-in-Err : goal.returns-in-Err
returns-in-Err c =
    let f = rw c.in-Err.is at c.follow.ensures in
    rw (reply_lost c.args.image.now c.args.line.now (some_words c.args.line.now _ _ c.next_word.ensures c.is_none.ensures c.if-is_none.false) _ _ f)
    (rw c.of-in-Err.ensures at c.put_unknown.ensures)
