-- Each answer of `tokenize`, with what it leaves; and that there is no second one.
use Prim.Native.Nat.{ℕ, ◌<◌, ◌≤◌, min}
use mathlib.Core.Path.{◌≡◌, refl, sym, ap, ◌∙◌}
use mathlib.Core.Bool.{Bool, true, false, cond}
use mathlib.Core.List.{List}
use native.Mathlib.Omega.{arith}
use borrow.Author.Tests.{lt-ltb, le-ltb, ltb-true, ltb-false}
use lib.Dec.{ltb}
use lib.ListN.{length}
use Rattle.buffer.specs.Write.{over}
use Rattle.buffer.proofs.Choices.{then_is, else_is}
use Rattle.text.specs.Decoding.{well_formed_length}
use Rattle.text.proofs.Prefix.{prefix_fits}
use Rattle.words.specs.Answer.{written, answer_for, leaves_by, leaves_for, Tokenized}
use Rattle.words.specs.Inner.{measured}
use Rattle.words.specs.declared.tokenizer.TokenizeRefusal.{TokenizeRefusal}
use Rattle.words.specs.declared.tokenizer.TokenizeRefusal.TheVariants.{LineTooLong, IllFormed, NoRoom}
use Rattle.std.specs.Prelude.{Result, Ok, Err}

-- what measuring tells
abbrev pub Tells : List ℕ → Result ℕ ℕ → Type 0
Tells line (Err place) = (well_formed_length line < length line) × (place ≡ well_formed_length line)
Tells line (Ok n) = (well_formed_length line ≡ length line) × (n ≡ length (written line))

tells : (line : List ℕ) → Tells line (measured line)
unfolding measured
tells line = by (ltb (well_formed_length line) (length line)) refl
  where
    by : (t : Bool) → ltb (well_formed_length line) (length line) ≡ t → Tells line (cond t (Err (well_formed_length line)) (Ok (length (written line))))
    by true e = (ltb-true _ _ e, refl)
    by false e = (let h = ltb-false (well_formed_length line) (length line) e in let k = prefix_fits line in omega arith, refl)

pub measured_tells : (line : List ℕ) (m : Result ℕ ℕ) → m ≡ measured line → Tells line m
measured_tells line m e = rw (sym e) at (tells line)

-- an answer leaves what it leaves
leaves : (line out : List ℕ) (r : Result ℕ TokenizeRefusal) → answer_for line (length out) ≡ r → leaves_for line out ≡ leaves_by r (written line) out
unfolding leaves_for
leaves line out r e = ap (λ (x : Result ℕ TokenizeRefusal). leaves_by x (written line) out) e

told : (line out : List ℕ) (r : Result ℕ TokenizeRefusal) (left : List ℕ) → answer_for line (length out) ≡ r → left ≡ leaves_by r (written line) out → Tokenized line out r left
told line out r left e f = record { answer = sym e; bytes = f ∙ sym (leaves line out r e) }

module _ (line out : List ℕ) where
  pub too_long : (n : ℕ) → 1024 < length line → n ≡ min (length line) 65535 → Tokenized line out (Err (LineTooLong n)) out
  unfolding answer_for
  too_long n h e = told line out (Err (LineTooLong n)) out (then_is _ _ _ (lt-ltb 1024 (length line) h) ∙ ap (λ (n : ℕ). Err (LineTooLong n)) (sym e)) refl

  pub ill_formed_lem : (place : ℕ) → length line ≤ 1024 → Tells line (Err place) → Tokenized line out (Err (IllFormed place)) out
  unfolding answer_for
  ill_formed_lem place h t =
      told line out (Err (IllFormed place)) out
      (else_is _ _ _ (le-ltb 1024 (length line) h) ∙ then_is _ _ _ (lt-ltb _ _ t.0) ∙ ap (λ (n : ℕ). Err (IllFormed n)) (sym t.1))
      refl

  module _ (n : ℕ) (h : length line ≤ 1024) (t : Tells line (Ok n)) where
    fits_or_not : answer_for line (length out) ≡ cond (ltb (length out) (length (written line))) (Err (NoRoom (length (written line)))) (Ok (length (written line)))
    unfolding answer_for
    fits_or_not = let e = t.0 in else_is _ _ _ (le-ltb 1024 (length line) h) ∙ else_is _ _ _ (le-ltb (well_formed_length line) (length line) (omega arith))

    pub no_room : length out < n → Tokenized line out (Err (NoRoom n)) out
    no_room k =
        let e = t.1 in
        told line out (Err (NoRoom n)) out (fits_or_not ∙ then_is _ _ _ (lt-ltb (length out) (length (written line)) (omega arith)) ∙ ap (λ (n : ℕ). Err (NoRoom n)) (sym e)) refl

    pub all_words : (left : List ℕ) → n ≤ length out → left ≡ over (written line) out → Tokenized line out (Ok n) left
    all_words left k w =
        let e = t.1 in
        told line out (Ok n) left (fits_or_not ∙ else_is _ _ _ (le-ltb (length out) (length (written line)) (omega arith)) ∙ ap Ok (sym e)) w

-- no second answer satisfies the contract
pub one_answer : (line out left other : List ℕ) (r q : Result ℕ TokenizeRefusal) → Tokenized line out r left → Tokenized line out q other → (r ≡ q) × (left ≡ other)
one_answer line out left other r q a b = (a.answer ∙ sym b.answer, a.bytes ∙ sym b.bytes)
