-- Laws of bytes that are all zero: how many there are, what is left of them, and the test by the greatest byte.
use Prim.Native.Nat.{ℕ, zero, suc, ◌-◌, max}
use mathlib.Core.Path.{◌≡◌, refl, sym, ap, ◌∙◌}
use mathlib.Core.List.{List, [], ◌∷◌}
use native.Mathlib.Omega.{arith}
use lib.Dec.{eqb}
use lib.ListN.{length, drop, replicate, length-replicate}
use borrow.Author.Tests.{ne_eqb}
use Rattle.buffer.specs.Compare.{same_bytes}
use Rattle.buffer.specs.Greatest.{greatest}
use Rattle.buffer.specs.Lend.{zeros}
use Rattle.buffer.proofs.Choices.{else_is}

pub length_zeros : (n : ℕ) → length (zeros n) ≡ n
unfolding zeros
length_zeros n = length-replicate {A = ℕ} n 0

pub drop_zeros : (k n : ℕ) → drop k (zeros n) ≡ zeros (n - k)
unfolding zeros
drop_zeros zero n = let e : n ≡ n - 0 = omega arith in ap (λ (j : ℕ). replicate j 0) e
drop_zeros (suc k) zero = let e : 0 ≡ 0 - suc k = omega arith in ap (λ (j : ℕ). replicate j 0) e
drop_zeros (suc k) (suc n) = let e : n - k ≡ suc n - suc k = omega arith in drop_zeros k n ∙ ap (λ (j : ℕ). replicate j 0) e

-- all zero
pub zero_bytes : (t : List ℕ) → same_bytes (zeros (length t)) t ≡ eqb (greatest t) 0
unfolding zeros same_bytes greatest
zero_bytes [] = refl
zero_bytes (zero ∷ t) = zero_bytes t ∙ let e : greatest t ≡ max 0 (greatest t) = omega arith in ap (λ (n : ℕ). eqb n 0) e
zero_bytes (suc x ∷ t) = else_is _ _ _ (ne_eqb 0 (suc x) (λ e. omega arith)) ∙ sym (ne_eqb (max (suc x) (greatest t)) 0 (λ e. omega arith))
