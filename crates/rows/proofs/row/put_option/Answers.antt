-- `rows::row::put_option` meets its contract: its entry, with the mark and without it.
use native.Mathlib.Omega.{arith}
use Prim.Native.Nat.{ℕ}
use mathlib.Core.Path.{◌≡◌, sym}
use mathlib.Core.List.{List, ◌++◌}
use Rattle.rows.proofs.OneRow.{option_marked, option_plain}
use Rattle.buffer.proofs.Inking.{counts_first, counts_then, counts_as, inked_both, inked_as}
use Rattle.rows.specs.Rows.{entry, option_row, required_mark}
use Rattle.rows.specs.Inner.{label_in}
use Rattle.buffer.specs.Ascii.{ascii}
use Rattle.image.specs.Reading.{option_in, note_in}
use Rattle.rows.proofs.row.put_option.Goals as goal

pub put_definition-note-requires : goal.put_definition-note-requires
unfolding option_in option_row label_in
put_definition-note-requires c =
    let e : List ℕ = entry (ascii "  ") 20 (label_in c.args.s.now 3 c.args.short c.args.texts) (note_in c.args.s.now 3 c.args.texts) in
    record {
      p_bound = (omega arith, c.requires.0, c.requires.1);
      countable = counts_first e (required_mark c.args.required) _ (counts_first (e ++ required_mark c.args.required) (ascii "\n") _ c.requires.2);
    }

pub put-requires : goal.put-requires
unfolding option_in label_in ascii
put-requires c =
    let one : c.args.required ≡ 1 = omega arith in
    counts_then _ (ascii " (required)\n") _ _ _ _ (counts_as _ _ c.args.at (option_marked _ _ _ _ _ one) c.requires.2) c.put_definition-note.ensures

pub returns-then-required-eq1 : goal.returns-then-required-eq1
unfolding option_in label_in ascii
returns-then-required-eq1 c =
    let one : c.args.required ≡ 1 = omega arith in
    inked_as _ _ _ _ _ _ (sym (option_marked _ _ _ _ _ one)) (inked_both _ (ascii " (required)\n") _ _ _ _ _ _ c.put_definition-note.ensures c.put.ensures)

pub put-requires-2 : goal.put-requires-2
unfolding option_in label_in ascii
put-requires-2 c =
    counts_then _ (ascii "\n") _ _ _ _ (counts_as _ _ c.args.at (option_plain _ _ _ _ _ c.if-required-eq1.false) c.requires.2) c.put_definition-note.ensures

pub returns : goal.returns
unfolding option_in label_in ascii
returns c =
    inked_as _ _ _ _ _ _ (sym (option_plain _ _ _ _ _ c.if-required-eq1.false)) (inked_both _ (ascii "\n") _ _ _ _ _ _ c.put_definition-note.ensures c.put-2.ensures)
