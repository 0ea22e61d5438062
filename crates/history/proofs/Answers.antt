-- Laws of adding: which answer comes when, that there is one answer only, and that a good state stays good.
use Rattle.std.specs.Prelude.{Ok, Err, Result, ⊤}
use Prim.Native.Nat.{ℕ, ◌<◌, ◌≤◌}
use mathlib.Core.Path.{◌≡◌, sym, ap, ◌∙◌}
use mathlib.Core.Bool.{true, false}
use mathlib.Core.List.{List}
use lib.ListN.{length}
use borrow.Author.Tests.{lt-ltb, le-ltb, eq-eqb, ne_eqb}
use Rattle.buffer.proofs.Choices.{then_is, else_is}
use Rattle.text.specs.Decoding.{well_formed_length, well_formed}
use Rattle.history.specs.Journal.{offered, journal_of, good}
use Rattle.history.specs.Answer.{add_answer, record_by, slots_by, Addition}
use Rattle.history.specs.declared.stepping.History.{History}
use Rattle.history.specs.declared.adding.AddRefusal.{AddRefusal}
use Rattle.history.specs.declared.adding.AddRefusal.TheVariants.{BadState, TooLong, IllFormed}

-- a text whose well-formed prefix is all of it
pub formed_whole : (text : List ℕ) (n : ℕ) → n ≡ well_formed_length text → n ≡ length text → well_formed text ≡ true
unfolding well_formed
formed_whole text n p q = eq-eqb _ _ (sym p ∙ q)

module _ (h : History) (slots text : List ℕ) where
  -- the tests in their order
  pub answer_bad : good h slots ≡ false → add_answer (good h slots) text ≡ Err BadState
  unfolding add_answer
  answer_bad e = else_is _ _ _ e

  module _ (is : good h slots ≡ true) where
    pub answer_long : 255 < length text → add_answer (good h slots) text ≡ Err (TooLong (length text))
    unfolding add_answer
    answer_long l = then_is _ _ _ is ∙ then_is _ _ _ (lt-ltb _ _ l)

    pub answer_ill : length text ≤ 255 → (well_formed_length text ≡ length text → ⊥) → add_answer (good h slots) text ≡ Err (IllFormed (well_formed_length text))
    unfolding add_answer well_formed
    answer_ill l n = then_is _ _ _ is ∙ else_is _ _ _ (le-ltb 255 _ l) ∙ else_is _ _ _ (ne_eqb _ _ n)

    pub answer_done : length text ≤ 255 → well_formed_length text ≡ length text → add_answer (good h slots) text ≡ Ok tt
    unfolding add_answer well_formed
    answer_done l e = then_is _ _ _ is ∙ else_is _ _ _ (le-ltb 255 _ l) ∙ then_is _ _ _ (eq-eqb _ _ e)

  -- the contract, once the answer is known
  pub addition : (told : Result ⊤ AddRefusal) (r : History) (left : List ℕ) → add_answer (good h slots) text ≡ told
      → r ≡ record_by told h (offered text (journal_of h slots)) → left ≡ slots_by told slots (offered text (journal_of h slots)) → Addition h slots text r told left
  addition told r left e s b =
      record {
        answer = sym e;
        state = s ∙ ap (λ (a : Result ⊤ AddRefusal). record_by a h (offered text (journal_of h slots))) (sym e);
        bytes = b ∙ ap (λ (a : Result ⊤ AddRefusal). slots_by a slots (offered text (journal_of h slots))) (sym e);
      }

  -- no second answer, state or buffer satisfies it
  pub one_answer : (r r' : History) (told told' : Result ⊤ AddRefusal) (left left' : List ℕ) → Addition h slots text r told left → Addition h slots text r' told' left'
      → (told ≡ told') × (r ≡ r') × (left ≡ left')
  one_answer r r' told told' left left' a b = (a.answer ∙ sym b.answer, a.state ∙ sym b.state, a.bytes ∙ sym b.bytes)
