-- What writing a report or a fault answers and leaves, on each way out; and that there is no second answer.
use Rattle.std.specs.Prelude.{Ok, Err, Result}
use Prim.Native.Nat.{ℕ, ◌≤◌, ◌<◌}
use mathlib.Core.Path.{◌≡◌, sym, ap, ◌∙◌}
use mathlib.Core.List.{List}
use native.Mathlib.Omega.{arith}
use lib.ListN.{length}
use borrow.Author.Tests.{lt-ltb, le-ltb}
use Rattle.buffer.specs.Write.{over}
use Rattle.buffer.proofs.Choices.{then_is, else_is}
use Rattle.report.specs.Inner.{report_answer, leaves_by, report_leaves, Reporting}
use Rattle.buffer.specs.declared.show.TooShort.{TooShort}

module _ (frames out : List ℕ) where
  short : length out < length frames → report_answer frames (length out) ≡ Err (record { needed = length frames })
  unfolding report_answer
  short h = then_is _ _ _ (lt-ltb (length out) (length frames) h)

  enough : length frames ≤ length out → report_answer frames (length out) ≡ Ok (length frames)
  unfolding report_answer
  enough h = else_is _ _ _ (le-ltb (length out) (length frames) h)

  pub no_room : (n : ℕ) → n ≡ length frames → length out < n → Reporting frames out (Err (record { needed = n })) out
  unfolding report_leaves
  no_room n e h =
      let a = short (omega arith) in
      record { answer = ap (λ (n : ℕ). Err (record { needed = n })) e ∙ sym a; bytes = sym (ap (λ (r : Result ℕ TooShort). leaves_by r frames out) a) }

  pub reported : (n : ℕ) (left : List ℕ) → n ≡ length frames → n ≤ length out → left ≡ over frames out → Reporting frames out (Ok n) left
  unfolding report_leaves
  reported n left e h w =
      let a = enough (omega arith) in
      record { answer = ap Ok e ∙ sym a; bytes = w ∙ sym (ap (λ (r : Result ℕ TooShort). leaves_by r frames out) a) }

-- NO SECOND ANSWER, for a report and for a fault
pub one_answer : (frames out left other : List ℕ) (r q : Result ℕ TooShort) → Reporting frames out r left → Reporting frames out q other → (r ≡ q) × (left ≡ other)
one_answer frames out left other r q a b = (a.answer ∙ sym b.answer, a.bytes ∙ sym b.bytes)
