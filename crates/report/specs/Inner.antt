-- What only contracts of inner calls cite: a report of what the code holds, the text of a fault in its parts, and what writing either answers and leaves.
-- (STANDARD 8.6, 8.7; 9 of 10.1)
use Rattle.std.specs.Prelude.{ℕ, ◌≡◌, cond, List, ◌++◌, ltb, length, replicate, Ok, Err, Result}
use Rattle.buffer.specs.Write.{over}
use Rattle.frame.specs.Series.{texts_in}
use Rattle.table.specs.Inner.{map_of}
use Rattle.table.specs.declared.sorted.Table.{Table}
use Rattle.report.specs.Report.{report_of}
use Rattle.buffer.specs.declared.show.TooShort.{TooShort}

-- the report of what is lent: words as frames one after the other, pairs as tables over the split words and the image
abbrev pub report_held : List ℕ → List ℕ → List ℕ → Table → Table → List ℕ → List ℕ
report_held words image path options flags rest = report_of (texts_in path) (map_of words image options) (map_of words image flags) (texts_in rest)

-- what a fault tells of a word: the dashes `-` of its form, and a part of it (8.6)
unfoldable pub dashed : ℕ → List ℕ → List ℕ
dashed dashes part = replicate dashes 0x2D ++ part

-- the answer for frames and a buffer of `room` bytes (8.7)
unfoldable pub report_answer : List ℕ → ℕ → Result ℕ TooShort
report_answer frames room = cond (ltb room (length frames)) (Err (record { needed = length frames })) (Ok (length frames))

-- what is left in the buffer: a refusal writes nothing; else the frames stand in the first bytes, and the rest stays
abbrev pub leaves_by : Result ℕ TooShort → List ℕ → List ℕ → List ℕ
leaves_by (Ok n) frames out = over frames out
leaves_by (Err refusal) frames out = out

-- (8.7)
unfoldable pub report_leaves : List ℕ → List ℕ → List ℕ
report_leaves frames out = leaves_by (report_answer frames (length out)) frames out

pub record Reporting (frames out : List ℕ) (r : Result ℕ TooShort) (left : List ℕ) : Type 0 where
  pub answer : r ≡ report_answer frames (length out)
  pub bytes : left ≡ report_leaves frames out

-- the refusal's number (STANDARD 10.1; 0: none), and the value that goes with it
abbrev pub number : Result ℕ TooShort → ℕ
number (Ok n) = 0
number (Err refusal) = 9

abbrev pub value : Result ℕ TooShort → ℕ
value (Ok n) = n
value (Err refusal) = refusal.needed
