-- Laws of the bytes before the first `=`: they are those before the first place that passes, or all.
use Prim.Native.Nat.{ℕ, suc, ◌+◌, ◌≤◌}
use mathlib.Core.Path.{◌≡◌, refl, sym, ap, ◌∙◌}
use mathlib.Core.Bool.{Bool, true, false, cond}
use mathlib.Core.List.{List, [], ◌∷◌}
use native.Mathlib.Omega.{arith}
use borrow.Author.Tests.{ltb-false}
use lib.Dec.{eqb, ltb}
use lib.ListN.{length}
use Rattle.std.specs.Prelude.{Option, Some, None, unwrap_or}
use Rattle.std.specs.List.{position_or_len}
use Rattle.std.proofs.lemmas.List.Recursion.{is_position_or_len}
use Rattle.arguments.specs.Forms.{before_equals, equals}

-- there are as many at most as there are bytes
pub equals_within : (s : List ℕ) → before_equals s ≤ length s
unfolding before_equals
equals_within [] = omega arith
equals_within (b ∷ s) = by (eqb b equals) (equals_within s)
  where
    by : (t : Bool) → before_equals s ≤ length s → cond t 0 (suc (before_equals s)) ≤ suc (length s)
    by true h = omega arith
    by false h = omega arith

equals_is : (s : List ℕ) → before_equals s ≡ position_or_len (λ b. eqb b equals) s
unfolding before_equals
equals_is s = is_position_or_len before_equals (λ b. eqb b equals) refl (λ b t. let e : suc (before_equals t) ≡ 1 + before_equals t = omega arith in ap (λ (n : ℕ). cond (eqb b equals) 0 n) e) s

-- the first place that passes, the length where none does
pub equals_found : (s : List ℕ) (r : Option ℕ)
    → r ≡ cond (ltb (position_or_len (λ b. eqb b equals) s) (length s)) (Some (position_or_len (λ b. eqb b equals) s)) None
    → unwrap_or r (length s) ≡ before_equals s
equals_found s r e =
    ap (λ (o : Option ℕ). unwrap_or o (length s)) e ∙ by (position_or_len (λ b. eqb b equals) s) (equals_is s) (equals_within s)
  where
    by : (n : ℕ) → before_equals s ≡ n → before_equals s ≤ length s → unwrap_or (cond (ltb n (length s)) (Some n) None) (length s) ≡ before_equals s
    by n q h = cases (ltb n (length s)) refl
      where
        cases : (t : Bool) → ltb n (length s) ≡ t → unwrap_or (cond t (Some n) None) (length s) ≡ before_equals s
        cases true k = sym q
        cases false k = let m = ltb-false n (length s) k in omega arith
