-- What a writer answered is the answer to what is said.
use Rattle.std.specs.Prelude.{Ok, Err, Result, IsErrAnd}
use Rattle.std.proofs.lemmas.Result.{err_from_is_err_and}
use Prim.Native.Nat.{ℕ}
use mathlib.Core.Path.{◌≡◌, refl, sym, ap, ◌∙◌}
use mathlib.Core.Bool.{Bool, true, false, cond}
use mathlib.Core.List.{List}
use native.Mathlib.Omega.{arith}
use borrow.Author.Tests.{le-ltb}
use lib.Dec.{ltb}
use lib.ListN.{length}
use Rattle.buffer.specs.Write.{over, over_if_fits}
use Rattle.buffer.proofs.Choices.{else_is}
use Rattle.buffer.specs.Showing.{show_answer, Showing}
use Rattle.buffer.specs.declared.show.TooShort.{TooShort}
use Rattle.report.specs.Inner.{report_answer, leaves_by as report_leaves_by, report_leaves, Reporting}
use Rattle.shell.specs.Lines.{Said, silence}
use Rattle.shell.specs.Answer.{bytes_of, named, said_answer, said_leaves}
use Rattle.shell.specs.Inner.{Answered}
use Rattle.shell.specs.declared.answer.Ran.{Ran}
use Rattle.shell.specs.declared.answer.RunRefusal.{RunRefusal}
use Rattle.shell.specs.declared.answer.Ran.TheVariants.{Nothing}
use Rattle.shell.specs.declared.answer.RunRefusal.TheVariants.{NoRoom}

module _ (s : Said) (out left : List ℕ) where
  abbrev n : ℕ
  n = length (bytes_of s)

  written : (t : Bool) (k : ℕ) → cond {A = Result ℕ TooShort} t (Err (record { needed = n })) (Ok n) ≡ Ok k → cond t (Err (NoRoom n)) (named s n) ≡ named s k
  written true k e = cc
  written false k e = cc

  refused : (t : Bool) (refusal : TooShort) → cond {A = Result ℕ TooShort} t (Err (record { needed = n })) (Ok n) ≡ Err refusal → cond t (Err (NoRoom n)) (named s n) ≡ Err (NoRoom refusal.needed)
  refused true refusal e = cc
  refused false refusal e = cc

  leaves : (t : Bool) → report_leaves_by (cond t (Err (record { needed = n })) (Ok n)) (bytes_of s) out ≡ cond t out (over (bytes_of s) out)
  leaves true = refl
  leaves false = refl

  -- a text was shown, and a report was written
  pub said_shown : (k : ℕ) (q : Result ℕ TooShort) → q ≡ Ok k → Showing (bytes_of s) out q left → Answered s out (named s k) left
  unfolding show_answer over_if_fits said_answer said_leaves
  said_shown k q e h = record { answer = sym (written (ltb (length out) n) k (sym h.answer ∙ e)); bytes = h.bytes }

  pub said_reported : (k : ℕ) (q : Result ℕ TooShort) → q ≡ Ok k → Reporting (bytes_of s) out q left → Answered s out (named s k) left
  unfolding report_answer report_leaves said_answer said_leaves
  said_reported k q e h = record { answer = sym (written (ltb (length out) n) k (sym h.answer ∙ e)); bytes = h.bytes ∙ leaves (ltb (length out) n) }

  -- where it was not, at the exit of a `?`
  pub unshown : (refusal : TooShort) (q : Result ℕ TooShort) (r : Result Ran RunRefusal)
      → IsErrAnd r (λ e. e ≡ NoRoom refusal.needed) → q ≡ Err refusal → Showing (bytes_of s) out q left → Answered s out r left
  unfolding show_answer over_if_fits said_answer said_leaves
  unshown refusal q r x e h =
      let p = err_from_is_err_and r x in
      record { answer = p.1 ∙ ap Err p.2 ∙ sym (refused (ltb (length out) n) refusal (sym h.answer ∙ e)); bytes = h.bytes }

  pub unreported : (refusal : TooShort) (q : Result ℕ TooShort) (r : Result Ran RunRefusal)
      → IsErrAnd r (λ e. e ≡ NoRoom refusal.needed) → q ≡ Err refusal → Reporting (bytes_of s) out q left → Answered s out r left
  unfolding report_answer report_leaves said_answer said_leaves
  unreported refusal q r x e h =
      let p = err_from_is_err_and r x in
      record { answer = p.1 ∙ ap Err p.2 ∙ sym (refused (ltb (length out) n) refusal (sym h.answer ∙ e)); bytes = h.bytes ∙ leaves (ltb (length out) n) }

-- nothing is said
pub said_nothing : (out : List ℕ) → Answered silence out (Ok Nothing) out
unfolding said_answer said_leaves over
said_nothing out =
    let e = le-ltb (length out) 0 (omega arith) in
    record { answer = sym (else_is _ _ _ e); bytes = sym (else_is _ _ _ e) }

-- the same under another name
pub said_same : (s t : Said) (out : List ℕ) (r : Result Ran RunRefusal) (left : List ℕ) → s ≡ t → Answered s out r left → Answered t out r left
said_same s t out r left e a = rw (← e) a
