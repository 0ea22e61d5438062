-- Laws of texts tested in blocks: the pass over a block, and a text as blocks and its last bytes.
use Prim.Native.Nat.{ℕ, ◌+◌, ◌-◌, ◌≤◌}
use mathlib.Core.Path.{◌≡◌, refl, sym, ap, ◌∙◌}
use Rattle.std.specs.Prelude.{fold, ◌&&◌}
use mathlib.Core.Bool.{Bool, true, false}
use mathlib.Core.List.{List, [], ◌∷◌, ◌++◌, append_assoc}
use native.Mathlib.Omega.{arith}
use lib.ListN.{length, take, drop, take-append-drop, length-append}
use lib.Seq.{drop-drop, drop_at}
use Rattle.buffer.proofs.Lending.{rest_lent}
use Rattle.image.specs.Limits.{both, is_shown, all_shown}
use Rattle.image.proofs.Fields.{both_second, both_false}

module _ (low : ℕ) where
  -- a pass over a text, which has no early exit
  folded : (t : List ℕ) (s : Bool) → fold (λ (x : Bool) b. x && is_shown low b) s t ≡ both s (all_shown low t)
  unfolding all_shown
  folded [] true = refl
  folded [] false = refl
  folded (b ∷ t) true = by (is_shown low b) (folded t)
    where
      by : (x : Bool) → ((s : Bool) → fold (λ (y : Bool) a. y && is_shown low a) s t ≡ both s (all_shown low t))
          → fold (λ (y : Bool) a. y && is_shown low a) x t ≡ both x (all_shown low t)
      by x h = h x
  folded (b ∷ t) false = folded t false

  pub folded_shown : (t : List ℕ) → fold (λ (x : Bool) b. x && is_shown low b) true t ≡ all_shown low t
  folded_shown t = folded t true

  shown_append : (a b : List ℕ) → all_shown low (a ++ b) ≡ both (all_shown low a) (all_shown low b)
  unfolding all_shown
  shown_append [] b = refl
  shown_append (x ∷ a) b = by (is_shown low x) (shown_append a b)
    where
      by : (t : Bool) → all_shown low (a ++ b) ≡ both (all_shown low a) (all_shown low b) → both t (all_shown low (a ++ b)) ≡ both (both t (all_shown low a)) (all_shown low b)
      by true e = e
      by false e = refl

  front : (t : List ℕ) (k : ℕ) → all_shown low t ≡ both (all_shown low (take k t)) (all_shown low (drop k t))
  front t k = ap (all_shown low) (sym (take-append-drop k t)) ∙ shown_append (take k t) (drop k t)

  -- what a part decides for the whole
  pub end_bad : (t : List ℕ) (k : ℕ) (r : Bool) → r ≡ all_shown low (take (length t - k) (drop k t)) → r ≡ false → false ≡ all_shown low t
  end_bad t k r e q =
      let bad : all_shown low (drop k t) ≡ false = ap (all_shown low) (sym (rest_lent t k)) ∙ sym e ∙ q in
      sym (front t k ∙ rw (bad, both_false (all_shown low (take k t))))

  pub end_good : (t : List ℕ) (k at : ℕ) (r : Bool) → r ≡ all_shown low (take (length t - k) (drop k t)) → r ≡ true → k ≤ at → all_shown low (drop at t) ≡ true
  end_good t k at r e q h =
      let good : all_shown low (drop k t) ≡ true = ap (all_shown low) (sym (rest_lent t k)) ∙ sym e ∙ q in
      let place : k + (at - k) ≡ at = omega arith in
      let suffix = both_second (all_shown low (take (at - k) (drop k t))) _ (sym (front (drop k t) (at - k)) ∙ good) in
      rw (drop-drop (at - k) k t, place) at suffix

  -- blocks passed: what is left of the text, and it is tested as the whole is
  pub record Passed (t rest : List ℕ) : Type 0 where
    pub front : List ℕ
    pub parts : t ≡ front ++ rest
    pub same : all_shown low rest ≡ all_shown low t

  pub passed_none : (t : List ℕ) → Passed t t
  passed_none t = record { front = []; parts = refl; same = refl }

  -- one block more
  module _ (t rest block left : List ℕ) (h : Passed t rest) (cut : rest ≡ block ++ left) (r : Bool) (told : r ≡ all_shown low block) where
    split : all_shown low t ≡ both r (all_shown low left)
    split = sym h.same ∙ ap (all_shown low) cut ∙ shown_append block left ∙ rw told

    pub passed_bad : r ≡ false → false ≡ all_shown low t
    passed_bad e = sym (split ∙ rw e)

    pub passed_more : r ≡ true → Passed t left
    passed_more e =
        record {
          front = h.front ++ block;
          parts = h.parts ∙ ap (λ (l : List ℕ). h.front ++ l) cut ∙ sym (append_assoc h.front block left);
          same = sym (split ∙ rw e);
        }

  -- no block more: what is left lies within the last one
  pub passed_all : (t rest : List ℕ) (k : ℕ) (r : Bool) → Passed t rest → length rest + k ≤ length t → r ≡ all_shown low (take (length t - k) (drop k t)) → r ≡ true → true ≡ all_shown low t
  passed_all t rest k r h short e q =
      let size : length t ≡ length h.front + length rest = ap length h.parts ∙ length-append h.front rest in
      let place : drop (length h.front) t ≡ rest = ap (drop (length h.front)) h.parts ∙ drop_at h.front rest (length h.front) refl in
      let good : all_shown low (drop (length h.front) t) ≡ true = end_good t k (length h.front) r e q (omega arith) in
      sym (sym h.same ∙ ap (all_shown low) (sym place) ∙ good)
