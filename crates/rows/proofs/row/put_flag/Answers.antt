-- `rows::row::put_flag` meets its contract: its entry and the end of the line.
use Rattle.buffer.proofs.Inking.{counts_first, counts_then, inked_both}
use Rattle.rows.specs.Rows.{entry, flag_row}
use Rattle.rows.specs.Inner.{label_in}
use Rattle.buffer.specs.Ascii.{ascii}
use Rattle.image.specs.Reading.{flag_in, note_in}
use native.Mathlib.Omega.{arith}
use Rattle.rows.proofs.row.put_flag.Goals as goal

pub put_definition-note-requires : goal.put_definition-note-requires
unfolding flag_in flag_row label_in
put_definition-note-requires c =
    record {
      p_bound = (omega arith, c.requires.0, c.requires.1);
      countable = counts_first (entry (ascii "  ") 20 (label_in c.args.s.now 2 c.args.short c.args.texts) (note_in c.args.s.now 2 c.args.texts)) (ascii "\n") _ c.requires.2;
    }

pub put-requires : goal.put-requires
unfolding flag_in flag_row label_in ascii
put-requires c =
    counts_then _ (ascii "\n") _ _ _ _ c.requires.2 c.put_definition-note.ensures

pub returns : goal.returns
unfolding flag_in flag_row label_in ascii
returns c =
    inked_both _ (ascii "\n") _ _ _ _ _ _ c.put_definition-note.ensures c.put.ensures
