-- What is told of an outcome: a fault in its parts, and the answer and the bytes that a writer's answer stands for.
use Rattle.std.specs.Prelude.{Err, Result, Ok, IsErrAnd}
use Rattle.std.proofs.lemmas.Result.{err_from_is_err_and}
use Prim.Native.Nat.{ℕ, ◌≤◌}
use mathlib.Core.Path.{◌≡◌, refl, sym, ap, ◌∙◌}
use mathlib.Core.Bool.{Bool, true, false, cond}
use mathlib.Core.List.{List}
use native.Mathlib.Omega.{arith}
use lib.Dec.{ltb}
use lib.ListN.{length, take, length-take, length-drop}
use Rattle.buffer.specs.Write.{over}
use Rattle.report.specs.Inner.{dashed, report_answer, leaves_by, report_leaves, Reporting}
use Rattle.buffer.specs.declared.show.TooShort.{TooShort}
use Rattle.table.specs.Inner.{part_of}
use Rattle.arguments.specs.Arguments.{Found}
use Rattle.parse.specs.Commands.{Outcome, parsed, fault}
use Rattle.parse.specs.Answer.{told_in, named_as, outcome_answer, outcome_leaves}
use Rattle.parse.specs.Inner.{Telling, outcome_by, outcome_in, fault_number, fault_dashes, fault_text}
use Rattle.parse.specs.declared.judging.Judged.{Judged}
use Rattle.frame.specs.Series.{texts_in}
use Rattle.tree.specs.Trails.{image_part}
use Rattle.arguments.specs.Inner.{found_of}
use Rattle.parse.specs.declared.answer.ParseRefusal.{ParseRefusal}
use Rattle.parse.specs.declared.answer.ParseRefusal.TheVariants.{NoRoom}
use Rattle.parse.specs.declared.judging.Fault.{Fault}
use Rattle.parse.specs.declared.judging.Fault.TheVariants.{NoWords, UnknownCommand, UnknownOption, MissingValue, MissingRequired as LacksOption}

-- WHAT WAS JUDGED is told in its parts: a fault, or a report
module _ (words part : List ℕ) (path : List (List ℕ)) (found : Found) where
  fault_told : (f : Fault) → fault (fault_number f) (dashed (fault_dashes f) (fault_text words part f)) ≡ outcome_by words part path found (Err f)
  unfolding dashed
  fault_told NoWords = refl
  fault_told (UnknownCommand word) = refl
  fault_told (UnknownOption told) = refl
  fault_told (MissingValue told) = refl
  fault_told (LacksOption name) = refl

module _ (words image rest : List ℕ) (j : Judged) where
  abbrev part : List ℕ
  part = image_part image j.place

  abbrev path : List (List ℕ)
  path = texts_in (take j.place.at words)

  abbrev found : Found
  found = found_of words part rest j.scan

  pub fault_in : (f : Fault) (dashes : ℕ) (text : List ℕ) → j.verdict ≡ Err f → dashes ≡ fault_dashes f → text ≡ fault_text words part f
      → fault (fault_number f) (dashed dashes text) ≡ outcome_in words image rest j
  unfolding outcome_in
  fault_in f dashes text v d t =
      ap (λ (n : ℕ). fault (fault_number f) (dashed n text)) d
      ∙ ap (λ (s : List ℕ). fault (fault_number f) (dashed (fault_dashes f) s)) t
      ∙ fault_told words part path found f
      ∙ sym (ap (outcome_by words part path found) v)

  pub report_in : j.verdict ≡ Ok tt → parsed path found ≡ outcome_in words image rest j
  unfolding outcome_in
  report_in v = sym (ap (outcome_by words part path found) v)

-- its text is short
part_short : (s : List ℕ) (start n : ℕ) → length (part_of s start n) ≤ length s
part_short s start n = rw (length-take, length-drop) (omega arith)

pub text_short : (words part : List ℕ) (f : Fault) → length words ≤ 32768 → length part ≤ 32768 → length (fault_text words part f) ≤ 32768
text_short words part NoWords h g = omega arith
text_short words part (UnknownCommand word) h g = let k = part_short words word.start word.length in omega arith
text_short words part (UnknownOption told) h g = let k = part_short words told.start told.length in omega arith
text_short words part (MissingValue told) h g = let k = part_short words told.start told.length in omega arith
text_short words part (LacksOption name) h g = let k = part_short part name.start name.length in omega arith

-- WHAT A WRITER ANSWERED is the answer of the outcome
module _ (o : Outcome) (out left : List ℕ) (q : Result ℕ TooShort) (w : Reporting (told_in o) out q left) where
  abbrev n : ℕ
  n = length (told_in o)

  written : (t : Bool) (k : ℕ) → cond {A = Result ℕ TooShort} t (Err (record { needed = n })) (Ok n) ≡ Ok k → named_as o k ≡ cond t (Err (NoRoom n)) (named_as o n)
  written true k e = cc
  written false k e = cc

  refused : (t : Bool) (refusal : TooShort) → cond {A = Result ℕ TooShort} t (Err (record { needed = n })) (Ok n) ≡ Err refusal → Err (NoRoom refusal.needed) ≡ cond t (Err (NoRoom n)) (named_as o n)
  refused true refusal e = cc
  refused false refusal e = cc

  leaves : left ≡ cond (ltb (length out) n) out (over (told_in o) out)
  unfolding report_answer report_leaves
  leaves = w.bytes ∙ by (ltb (length out) n)
    where
      by : (t : Bool) → leaves_by (cond t (Err (record { needed = n })) (Ok n)) (told_in o) out ≡ cond t out (over (told_in o) out)
      by true = refl
      by false = refl

  -- it was written
  pub told_whole : (k : ℕ) → q ≡ Ok k → Telling o out (named_as o k) left
  unfolding report_answer outcome_answer outcome_leaves
  told_whole k e = record { answer = written (ltb (length out) n) k (sym w.answer ∙ e); bytes = leaves }

  -- it was not, at the exit of a `?`
  pub untold : (refusal : TooShort) (r : Result ℕ ParseRefusal) → IsErrAnd r (λ x. x ≡ NoRoom refusal.needed) → q ≡ Err refusal → Telling o out r left
  unfolding report_answer outcome_answer outcome_leaves
  untold refusal r x e =
      let p = err_from_is_err_and r x in
      record { answer = p.1 ∙ ap Err p.2 ∙ refused (ltb (length out) n) refusal (sym w.answer ∙ e); bytes = leaves }
