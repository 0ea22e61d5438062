-- `rows::row::put_node` meets its contract: its entry and the end of the line.
use Rattle.rows.proofs.OneRow.{entry_1, entry_2, entry_3, entry_put}
use Rattle.buffer.proofs.Inking.{counts_first, counts_then, inked_both}
use Rattle.rows.specs.Rows.{entry, node_row}
use Rattle.buffer.specs.Ascii.{ascii}
use mathlib.Core.Path.{refl}
use Rattle.rows.proofs.row.put_node.Goals as goal

pub put-label-requires : goal.put-label-requires
unfolding node_row
put-label-requires c =
    entry_1 _ _ _ _ _ (counts_first (entry c.args.indent.now c.args.width c.args.name.now c.args.note.now) (ascii "\n") _ c.requires.1)

pub put-end-requires : goal.put-end-requires
unfolding node_row
put-end-requires c =
    entry_2 c.args.indent.now c.args.name.now c.args.note.now c.args.width _ (counts_first (entry c.args.indent.now c.args.width c.args.name.now c.args.note.now) (ascii "\n") _ c.requires.1) _ _ _ c.put-label.ensures

pub put_note-beyond-requires : goal.put_note-beyond-requires
unfolding node_row ascii
put_note-beyond-requires c =
    (c.requires.0, entry_3 c.args.indent.now c.args.name.now c.args.note.now c.args.width _ (counts_first (entry c.args.indent.now c.args.width c.args.name.now c.args.note.now) (ascii "\n") _ c.requires.1) _ _ _ _ _ _ c.put-label.ensures c.put-end.ensures refl)

pub put-requires : goal.put-requires
unfolding node_row ascii
put-requires c =
    counts_then (entry c.args.indent.now c.args.width c.args.name.now c.args.note.now) (ascii "\n") _ _ _ _ c.requires.1 (entry_put _ _ _ _ _ _ _ _ _ _ _ _ _ c.put-label.ensures c.put-end.ensures refl c.put_note-beyond.ensures)

pub returns : goal.returns
unfolding node_row ascii
returns c =
    inked_both _ (ascii "\n") _ _ _ _ _ _ (entry_put _ _ _ _ _ _ _ _ _ _ _ _ _ c.put-label.ensures c.put-end.ensures refl c.put_note-beyond.ensures) c.put.ensures
