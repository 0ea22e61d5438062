-- Laws on tests: a choice whose test is known, and one whose ways are.
use mathlib.Core.Path.{◌≡◌, refl, ap}
use mathlib.Core.Bool.{Bool, true, false, cond}
use Prim.Native.Nat.{ℕ}
use native.Mathlib.Omega.{arith}

module _ {A : Type 0} where
  pub then_is : (t : Bool) (x y : A) → t ≡ true → cond t x y ≡ x
  then_is t x y e = ap (λ (b : Bool). cond b x y) e

  pub else_is : (t : Bool) (x y : A) → t ≡ false → cond t x y ≡ y
  else_is t x y e = ap (λ (b : Bool). cond b x y) e

-- twice false, and the test itself
pub neither : (t : Bool) → cond t false false ≡ false
neither true = refl
neither false = refl

pub itself : (t : Bool) → cond t true false ≡ t
itself true = refl
itself false = refl

pub true_is_not_false : true ≡ false → ⊥
true_is_not_false e = let z : ◌≡◌ {A = ℕ} 0 1 = cc in omega arith
