-- Each answer of `quote`, with what it leaves; and that there is no second one.
use Prim.Native.Nat.{ℕ, ◌<◌, ◌≤◌, min}
use mathlib.Core.Path.{◌≡◌, refl, sym, ap, ◌∙◌}
use mathlib.Core.List.{List, []}
use borrow.Author.Tests.{lt-ltb, le-ltb}
use lib.ListN.{length}
use Rattle.buffer.specs.Write.{over}
use Rattle.buffer.proofs.Choices.{then_is, else_is}
use Rattle.quote.specs.Given.{listed, Judged, bad, fine, on_judged, judge_words}
use Rattle.quote.specs.Answer.{quote_line, line_answer, quote_answer, line_of, leaves_by, quote_leaves, Quotation}
use Rattle.quote.specs.Inner.{line_size_of, IsFine}
use Rattle.quote.specs.declared.quoter.QuoteRefusal.{QuoteRefusal}
use Rattle.quote.specs.declared.quoter.QuoteRefusal.TheVariants.{BadWord, LineTooLong, NoRoom}
use Rattle.std.specs.Prelude.{Result, Ok, Err}

-- what measuring tells
pub record TellsLine (words : List ℕ) (n : ℕ) : Type 0 where
  pub all_good : IsFine (judge_words (listed words))
  pub size : n ≡ length (line_of words)
  pub answers : (room : ℕ) → quote_answer words room ≡ line_answer n room

abbrev pub Tells : List ℕ → Result ℕ ℕ → Type 0
Tells words (Err k) = (room : ℕ) → quote_answer words room ≡ Err (BadWord k)
Tells words (Ok n) = TellsLine words n

tells : (words : List ℕ) → Tells words (line_size_of words)
unfolding line_size_of quote_answer line_of
tells words = by (judge_words (listed words)) refl
  where
    by : (j : Judged) → judge_words (listed words) ≡ j → Tells words (on_judged j (λ n. Err n) (λ ws. Ok (length (quote_line ws))))
    by (bad k) e = λ room. ap (λ (j : Judged). on_judged j (λ n. Err (BadWord n)) (λ ws. line_answer (length (quote_line ws)) room)) e
    by (fine ws) e =
        record {
          all_good = rw e tt;
          size = ap (λ (j : Judged). length (on_judged j (λ n. []) quote_line)) (sym e);
          answers = λ room. ap (λ (j : Judged). on_judged j (λ n. Err (BadWord n)) (λ v. line_answer (length (quote_line v)) room)) e;
        }

pub line_size_tells : (words : List ℕ) (m : Result ℕ ℕ) → m ≡ line_size_of words → Tells words m
line_size_tells words m e = rw (sym e) at (tells words)

-- an answer leaves what it leaves
told : (words out : List ℕ) (r : Result ℕ QuoteRefusal) (left : List ℕ) → quote_answer words (length out) ≡ r → left ≡ leaves_by r (line_of words) out → Quotation words out r left
unfolding quote_leaves
told words out r left e f = record { answer = sym e; bytes = f ∙ sym (ap (λ (x : Result ℕ QuoteRefusal). leaves_by x (line_of words) out) e) }

module _ (words out : List ℕ) (n : ℕ) where
  pub bad_word_lem : Tells words (Err n) → Quotation words out (Err (BadWord n)) out
  bad_word_lem t = told words out (Err (BadWord n)) out (t (length out)) refl

  module _ (t : Tells words (Ok n)) where
    pub too_long : (m : ℕ) → 1024 < n → m ≡ min n 65535 → Quotation words out (Err (LineTooLong m)) out
    unfolding line_answer
    too_long m h e = told words out (Err (LineTooLong m)) out (t.answers (length out) ∙ then_is _ _ _ (lt-ltb 1024 n h) ∙ ap (λ (n : ℕ). Err (LineTooLong n)) (sym e)) refl

    pub no_room : n ≤ 1024 → length out < n → Quotation words out (Err (NoRoom n)) out
    unfolding line_answer
    no_room h k = told words out (Err (NoRoom n)) out (t.answers (length out) ∙ else_is _ _ _ (le-ltb 1024 n h) ∙ then_is _ _ _ (lt-ltb (length out) n k)) refl

    pub a_line : (left : List ℕ) → n ≤ 1024 → n ≤ length out → left ≡ over (line_of words) out → Quotation words out (Ok n) left
    unfolding line_answer
    a_line left h k w = told words out (Ok n) left (t.answers (length out) ∙ else_is _ _ _ (le-ltb 1024 n h) ∙ else_is _ _ _ (le-ltb (length out) n k)) w

-- no second answer satisfies the contract
pub one_answer : (words out left other : List ℕ) (r q : Result ℕ QuoteRefusal) → Quotation words out r left → Quotation words out q other → (r ≡ q) × (left ≡ other)
one_answer words out left other r q a b = (a.answer ∙ sym b.answer, a.bytes ∙ sym b.bytes)
