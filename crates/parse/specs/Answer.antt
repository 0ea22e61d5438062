-- What `parse` answers and leaves (STANDARD 10: 1, 2, 3, 4 to 7, 9, in that order).
use Rattle.std.specs.Prelude.{ℕ, min, ◌≡◌, cond, List, ltb, eqb, length, Ok, Err, Result, ⊤}
use Rattle.buffer.specs.Write.{over}
use Rattle.text.specs.Decoding.{well_formed_length, is_ill_formed}
use Rattle.frame.specs.Limits.{line_limit, value_limit}
use Rattle.tree.specs.Rules.{check_tree}
use Rattle.tree.specs.declared.check.BadFrame.{BadFrame}
use Rattle.report.specs.Report.{report_of, fault_of}
use Rattle.parse.specs.Commands.{Outcome, parsed, fault, parse_line}
use Rattle.parse.specs.declared.answer.ParseRefusal.{ParseRefusal}
use Rattle.parse.specs.declared.answer.ParseRefusal.TheVariants.{BadTree, LineTooLong, IllFormed, UnknownCommand, UnknownOption, MissingValue, MissingRequired, NoRoom}

-- the bytes that an outcome is told in: the report's frames, or the frame of a fault (8.6, 10.2)
unfoldable pub told_in : Outcome → List ℕ
told_in (parsed path found) = report_of path found.options found.flags found.positionals
told_in (fault number told) = fault_of told

-- the answer of a fault's number, with the length of what is written (10.2)
abbrev pub fault_answer : ℕ → ℕ → Result ℕ ParseRefusal
fault_answer number n =
    cond (eqb number 4) (Err (UnknownCommand n)) (cond (eqb number 5) (Err (UnknownOption n)) (cond (eqb number 6) (Err (MissingValue n)) (Err (MissingRequired n))))

abbrev pub named_as : Outcome → ℕ → Result ℕ ParseRefusal
named_as (parsed path found) n = Ok n
named_as (fault number told) n = fault_answer number n

-- (8.7)
unfoldable pub outcome_answer : Outcome → ℕ → Result ℕ ParseRefusal
outcome_answer o room = cond (ltb room (length (told_in o))) (Err (NoRoom (length (told_in o)))) (named_as o (length (told_in o)))

-- (8.7)
unfoldable pub outcome_leaves : Outcome → List ℕ → List ℕ
outcome_leaves o out = cond (ltb (length out) (length (told_in o))) out (over (told_in o) out)

abbrev pub on_checked : {A : Type 0} → Result ⊤ BadFrame → (ℕ → A) → A → A
on_checked (Ok u) bad good = good
on_checked (Err refusal) bad good = bad refusal.number

-- (7.14, 10.11)
unfoldable pub parse_answer : List ℕ → List ℕ → ℕ → Result ℕ ParseRefusal
parse_answer image line room =
    on_checked (check_tree image) (λ n. Err (BadTree n))
    (cond (ltb line_limit (length line)) (Err (LineTooLong (min (length line) value_limit)))
    (cond (is_ill_formed line) (Err (IllFormed (well_formed_length line)))
    (outcome_answer (parse_line image line) room)))

unfoldable pub parse_leaves : List ℕ → List ℕ → List ℕ → List ℕ
parse_leaves image line out =
    on_checked (check_tree image) (λ n. out)
    (cond (ltb line_limit (length line)) out
    (cond (is_ill_formed line) out
    (outcome_leaves (parse_line image line) out)))

pub record Parsing (image line out : List ℕ) (r : Result ℕ ParseRefusal) (left : List ℕ) : Type 0 where
  pub answer : r ≡ parse_answer image line (length out)
  pub bytes : left ≡ parse_leaves image line out

-- the refusal's number (STANDARD 10.1; 0: none), and the value that goes with it; a fault's text stands in its frame, whose length that is
abbrev pub number : Result ℕ ParseRefusal → ℕ
number (Ok n) = 0
number (Err (BadTree n)) = 1
number (Err (LineTooLong n)) = 2
number (Err (IllFormed n)) = 3
number (Err (UnknownCommand n)) = 4
number (Err (UnknownOption n)) = 5
number (Err (MissingValue n)) = 6
number (Err (MissingRequired n)) = 7
number (Err (NoRoom n)) = 9

abbrev pub value : Result ℕ ParseRefusal → ℕ
value (Ok n) = n
value (Err (BadTree n)) = n
value (Err (LineTooLong n)) = n
value (Err (IllFormed n)) = n
value (Err (UnknownCommand n)) = n
value (Err (UnknownOption n)) = n
value (Err (MissingValue n)) = n
value (Err (MissingRequired n)) = n
value (Err (NoRoom n)) = n
