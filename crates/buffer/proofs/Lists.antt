-- Laws on lists at a place, as the code counts places: by `i + 1` and not by `suc i`.
use Prim.Native.Nat.{ℕ, zero, suc, ◌+◌, ◌-◌, ◌<◌, ◌≤◌}
use mathlib.Core.Path.{◌≡◌, sym, ap, ◌∙◌}
use mathlib.Core.List.{List, [], ◌∷◌}
use native.Mathlib.Numerals.{add-one}
use native.Mathlib.Omega.{arith}
use lib.ListN.{length, take, drop, get_or, drop_of_length-le}
use lib.Seq.{drop-cons, take-nil}

module _ {A : Type 0} where
  -- what is left at i is the element there and what is left at i + 1
  pub drop_step : (l : List A) (i : ℕ) (d : A) → i < length l → drop i l ≡ get_or l i d ∷ drop (i + 1) l
  drop_step l i d h = drop-cons l i d h ∙ ap (λ (n : ℕ). get_or l i d ∷ drop n l) (sym (add-one i))

  -- nothing is left at the end
  pub drop_end : (l : List A) (i : ℕ) → length l ≤ i → drop i l ≡ []
  drop_end l i h = drop_of_length-le l h

-- what is left of the first n
pub drop_take : (m n : ℕ) (l : List ℕ) → drop m (take n l) ≡ take (n - m) (drop m l)
drop_take zero n l = let k : n - 0 ≡ n = omega arith in sym (ap (λ (j : ℕ). take j l) k)
drop_take (suc m) zero l = let k : 0 - suc m ≡ 0 = omega arith in sym (ap (λ (j : ℕ). take j (drop (suc m) l)) k)
drop_take (suc m) (suc n) [] = sym (take-nil (suc n - suc m))
drop_take (suc m) (suc n) (a ∷ l) = let k : suc n - suc m ≡ n - m = omega arith in drop_take m n l ∙ sym (ap (λ (j : ℕ). take j (drop m l)) k)
