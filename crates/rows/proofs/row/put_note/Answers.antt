-- `rows::row::put_note` meets its contract: three texts in a row.
use Rattle.buffer.proofs.Inking.{counts_1, counts_2, counts_3, inked_three}
use Rattle.rows.specs.Rows.{blanks}
use Rattle.buffer.specs.Ascii.{ascii}
use Rattle.rows.proofs.row.put_note.Goals as goal

pub pad-gap-requires : goal.pad-gap-requires
pad-gap-requires c =
    (c.requires.0, counts_1 (blanks c.args.width c.args.used) (ascii " ") c.args.note.now _ c.requires.1)

pub put-start-requires : goal.put-start-requires
unfolding ascii
put-start-requires c =
    counts_2 (blanks c.args.width c.args.used) (ascii " ") c.args.note.now _ c.requires.1 _ _ _ c.pad-gap.ensures

pub put-requires : goal.put-requires
unfolding ascii
put-requires c =
    counts_3 (blanks c.args.width c.args.used) (ascii " ") c.args.note.now _ c.requires.1 _ _ _ _ _ c.pad-gap.ensures c.put-start.ensures

pub returns : goal.returns
unfolding ascii
returns c =
    inked_three _ _ _ _ _ _ _ _ _ _ _ c.pad-gap.ensures c.put-start.ensures c.put.ensures
