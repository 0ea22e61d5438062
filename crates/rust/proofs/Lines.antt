-- The Rust's lines in help and in the list of commands are our rows.
use Rattle.std.proofs.Common.{◌≡◌, ℕ, true, cond, eqb, leb, List, [], ◌++◌, ap, ◌∙◌}
use Rattle.image.specs.Frames.{Perhaps, option, flag}
use Rattle.image.specs.Limits.{is_name, is_short, optionally, definable, fair}
use Rattle.image.proofs.Fields.{both_first, both_second}
use Rattle.buffer.specs.Ascii.{ascii}
use Rattle.rows.specs.Rows.{padded, shown_as, required_mark, entry, option_row, flag_row, node_row}
use Rattle.rust.specs.Std.{left_in, println}
use Rattle.rust.specs.Tree.{CommandNode, description_of, some_of, text_of}
use Rattle.rust.specs.Help.{label_str, option_line, flag_line, node_line}
use Rattle.rust.proofs.Meanings.{option_def, flag_def}
use Rattle.rust.proofs.Plain.{name_plain, label, label_plain, column}

-- what the limits of a definition tell
record Defined (c : ℕ) (n : List ℕ) (l : Perhaps) : Type 0 where
  short : is_short c ≡ true
  name : is_name n ≡ true
  long : optionally is_name l ≡ true

defined : (c : ℕ) (n : List ℕ) (l : Perhaps) (ds : List ℕ) → definable c n l ds ≡ true → Defined c n l
unfolding definable
defined c n l ds e =
    let k = both_second (is_short c) _ e in
    record { short = both_first (is_short c) _ e; name = both_first (is_name n) _ k; long = both_first (optionally is_name l) _ (both_second (is_name n) _ k) }

-- a label in its column
label_column : (c : ℕ) (n : List ℕ) (l : Perhaps) → Defined c n l → left_in 20 (label_str (some_of c) (text_of l) n) ≡ padded 20 (shown_as c n l)
label_column c n l d =
    ap (left_in 20) (label c n d.short l) ∙ column 20 (shown_as c n l) (label_plain c n d.short d.name l d.long)

pub option_line_lem : (r c : ℕ) (n : List ℕ) (l : Perhaps) (ds : List ℕ) → fair (option r c n l ds) ≡ true → option_line (option_def r c n l ds) ≡ option_row r c n l ds
unfolding option_line println option_row entry required_mark fair ascii
option_line_lem r c n l ds e =
    ap (λ (s : List ℕ). ascii "  " ++ s ++ ascii " " ++ ds ++ cond (eqb r 1) (ascii " (required)") [] ++ ascii "\n") (label_column c n l (defined c n l ds (both_second (leb r 1) _ e)))

pub flag_line_lem : (c : ℕ) (n : List ℕ) (l : Perhaps) (ds : List ℕ) → fair (flag c n l ds) ≡ true → flag_line (flag_def c n l ds) ≡ flag_row c n l ds
unfolding flag_line println flag_row entry fair
flag_line_lem c n l ds e = ap (λ (s : List ℕ). ascii "  " ++ s ++ ascii " " ++ ds ++ ascii "\n") (label_column c n l (defined c n l ds e))

pub node_line_lem : (indent : List ℕ) (width : ℕ) (n : List ℕ) (command : CommandNode) → is_name n ≡ true → node_line indent width n command ≡ node_row indent width n (description_of command)
unfolding node_line println node_row entry
node_line_lem indent width n command e = ap (λ (s : List ℕ). indent ++ s ++ ascii " " ++ description_of command ++ ascii "\n") (column width n (name_plain n e))
