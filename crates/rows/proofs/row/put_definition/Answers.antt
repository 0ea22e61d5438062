-- `rows::row::put_definition` meets its contract: an entry, whose description ends the frame.
use Rattle.rows.proofs.OneRow.{entry_1, entry_2, entry_3, entry_put, note_place}
use Rattle.rows.specs.Inner.{label_in}
use Rattle.buffer.specs.Ascii.{ascii}
use native.Mathlib.Omega.{arith}
use mathlib.Core.Path.{◌∙◌}
use Rattle.rows.proofs.row.put_definition.Goals as goal

pub put-label-requires : goal.put-label-requires
unfolding ascii
put-label-requires c =
    entry_1 (ascii "  ") (label_in c.args.s.now c.args.p c.args.short c.args.texts) _ 20 _ c.requires.countable

pub put_label-end-requires : goal.put_label-end-requires
unfolding ascii
put_label-end-requires c =
    record {
      p_bound = (c.requires.p_bound.0, c.requires.p_bound.1.small, c.requires.p_bound.2);
      countable = entry_2 (ascii "  ") (label_in c.args.s.now c.args.p c.args.short c.args.texts) _ 20 _ c.requires.countable _ _ _ c.put-label.ensures;
    }

pub put_note-requires : goal.put_note-requires
unfolding ascii
put_note-requires c =
    let e = c.part-note.ensures ∙ note_place c.args.p c.args.s.now c.args.texts c.requires.p_bound.1 in
    (omega arith, rw e (entry_3 (ascii "  ") (label_in c.args.s.now c.args.p c.args.short c.args.texts) _ 20 _ c.requires.countable _ _ _ _ _ _ c.put-label.ensures c.put_label-end.ensures (omega arith)))

pub returns : goal.returns
unfolding ascii
returns c =
    let e = c.part-note.ensures ∙ note_place c.args.p c.args.s.now c.args.texts c.requires.p_bound.1 in
    rw (← e) (entry_put (ascii "  ") _ _ _ 20 _ _ _ _ _ _ _ _ c.put-label.ensures c.put_label-end.ensures (omega arith) c.put_note.ensures)
