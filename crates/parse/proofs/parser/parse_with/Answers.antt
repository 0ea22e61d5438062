-- `parse::parser::parse_with` meets its contract: the words that are judged are the line's, and they always find room; the image test answers first.
use Rattle.std.specs.Prelude.{Err}
use mathlib.Core.Path.{sym, ap, ◌∙◌}
use native.Mathlib.Omega.{arith}
use lib.ListN.{length-take}
use lib.Seq.{length-take-le}
use Rattle.parse.proofs.Lines.{line_by, line_split, line_words, line_long, line_ill, line_parsed, left_room, left_length}
use Rattle.parse.proofs.parser.parse_with.Goals as goal

pub slice_bounds-parse_words-end : goal.slice_bounds-parse_words-end
slice_bounds-parse_words-end c =
    left_length c.args.line.now _ _ _ c.tokenize.ensures c.requires.0 _ c.in-Ok.is

pub slice_bounds-parse_words-end-in-Ok : goal.slice_bounds-parse_words-end-in-Ok
slice_bounds-parse_words-end-in-Ok c =
    sym (length-take-le _ _ (left_length c.args.line.now _ _ _ c.tokenize.ensures c.requires.0 _ c.in-Ok.is))

pub parse_words-requires : goal.parse_words-requires
parse_words-requires c =
    let l = left_room c.args.line.now _ _ _ c.tokenize.ensures c.requires.0 _ c.in-Ok.is in (rw length-take (omega arith), omega arith, rw (line_words c.args.line.now _ _ _ c.tokenize.ensures c.requires.0 _ c.in-Ok.is) (line_split c.args.line.now (line_by c.args.line.now _ _ _ c.tokenize.ensures c.requires.0 _ c.in-Ok.is).2))

pub returns-in-Ok : goal.returns-in-Ok
returns-in-Ok c =
    line_parsed c.args.image.now c.args.line.now c.args.out.now _ _ _ _ (line_by c.args.line.now _ _ _ c.tokenize.ensures c.requires.0 _ c.in-Ok.is) (line_words c.args.line.now _ _ _ c.tokenize.ensures c.requires.0 _ c.in-Ok.is) c.parse_words.ensures

pub returns-in-Err-LineTooLong : goal.returns-in-Err-LineTooLong
returns-in-Err-LineTooLong c =
    line_long c.args.image.now c.args.line.now c.args.out.now _ _ (line_by c.args.line.now _ _ _ c.tokenize.ensures c.requires.0 _ (c.in-Err-LineTooLong.is ∙ ap Err c.in-Err-LineTooLong.field-0-is)) c.unless_bad.ensures

pub returns-in-Err-IllFormed : goal.returns-in-Err-IllFormed
returns-in-Err-IllFormed c =
    line_ill c.args.image.now c.args.line.now c.args.out.now _ _ (line_by c.args.line.now _ _ _ c.tokenize.ensures c.requires.0 _ (c.in-Err-IllFormed.is ∙ ap Err c.in-Err-IllFormed.field-0-is)) c.unless_bad-in-Err-IllFormed.ensures

pub returns-in-Err-NoRoom : goal.returns-in-Err-NoRoom
returns-in-Err-NoRoom c =
    absurd (line_by c.args.line.now _ _ _ c.tokenize.ensures c.requires.0 _ (c.in-Err-NoRoom.is ∙ ap Err c.in-Err-NoRoom.field-0-is))
