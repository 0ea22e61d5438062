-- Laws of the greatest byte.
use Prim.Native.Nat.{ℕ, zero, suc, ◌+◌, ◌-◌, ◌≤◌, max}
use mathlib.Core.Path.{◌≡◌, sym, ap, ◌∙◌}
use mathlib.Core.List.{List, [], ◌∷◌, ◌++◌}
use native.Mathlib.Omega.{arith}
use lib.ListN.{take, drop, get_or, take-append-drop}
use lib.Seq.{drop-nil, drop-drop}
use Rattle.std.specs.List.{fold}
use Rattle.buffer.specs.Greatest.{greatest}

-- a fold by the greater of two finds it
pub greatest_fold : (s : List ℕ) (top : ℕ) → fold max top s ≡ max top (greatest s)
unfolding greatest
greatest_fold [] top = omega arith
greatest_fold (x ∷ s) top = greatest_fold s (max top x) ∙ omega arith

-- two parts that make up a list
pub greatest_append : (s t : List ℕ) → greatest (s ++ t) ≡ max (greatest s) (greatest t)
unfolding greatest
greatest_append [] t = omega arith
greatest_append (x ∷ s) t = rw (greatest_append s t) (omega arith)

-- no element is above the greatest
pub below_greatest : (s : List ℕ) (i : ℕ) → get_or s i 0 ≤ greatest s
unfolding greatest
below_greatest [] i = omega arith
below_greatest (x ∷ s) zero = omega arith
below_greatest (x ∷ s) (suc i) = let h = below_greatest s i in omega arith

-- what is left has no greater one
greatest_drop : (s : List ℕ) (i : ℕ) → greatest (drop i s) ≤ greatest s
unfolding greatest
greatest_drop [] i = rw (drop-nil {A = ℕ} i) (omega arith)
greatest_drop (x ∷ s) zero = omega arith
greatest_drop (x ∷ s) (suc i) = let h = greatest_drop s i in omega arith

-- a beginning and an end that together cover a list
pub greatest_covered : (s : List ℕ) (i j : ℕ) → j ≤ i → max (greatest (take i s)) (greatest (drop j s)) ≡ greatest s
greatest_covered s i j h =
    let all : greatest s ≡ max (greatest (take i s)) (greatest (drop i s)) =
    ap greatest (sym (take-append-drop i s)) ∙ greatest_append (take i s) (drop i s)
    in
    let sum : j + (i - j) ≡ i = omega arith in
    let beyond : greatest (drop (i - j) (drop j s)) ≡ greatest (drop i s) =
    ap greatest (drop-drop (i - j) j s ∙ ap (λ (n : ℕ). drop n s) sum)
    in
    let k = greatest_drop (drop j s) (i - j) in
    let l = greatest_drop s j in
    omega arith
