-- Laws of the order by bytes, and of sameness.
use Prim.Native.Nat.{ℕ, ◌+◌, ◌<◌}
use mathlib.Core.Path.{◌≡◌, refl, sym, ap, ◌∙◌}
use mathlib.Core.Bool.{Bool, true, false, cond, ◌&&◌}
use mathlib.Core.List.{List, [], ◌∷◌, ◌++◌}
use lib.Dec.{ltb, eqb}
use Rattle.std.specs.List.{fold, zip}
use Rattle.std.specs.Ordering.{nat_cmp, ordering_then}
use Rattle.std.specs.Cmp.Lexicographic.{slice_cmp, pointwise}
use lib.ListN.{length, drop, get_or}
use Rattle.buffer.specs.Compare.{order, same_bytes}
use Rattle.std.specs.declared.cmp.Ordering.{Ordering}
use Rattle.std.specs.declared.cmp.Ordering.TheVariants.{Less, Equal, Greater}
use Rattle.buffer.proofs.Lists.{drop_step}
use Rattle.buffer.proofs.Choices.{then_is, else_is, true_is_not_false}
use native.Mathlib.Nat.{le_refl}
use native.Mathlib.Omega.{arith}
use borrow.Author.Tests.{lt-ltb, le-ltb, eq-eqb, eqb-true, ltb-true, ltb-false}

-- two heads that do not decide are equal
heads : (x y : ℕ) → ltb x y ≡ false → ltb y x ≡ false → x ≡ y
heads x y p q = let h = ltb-false x y p in let k = ltb-false y x q in omega arith

-- one step at a place inside both, and how the smaller byte there decides
pub order_step : (a b : List ℕ) (i : ℕ) → i < length a → i < length b
    → order (drop i a) (drop i b) ≡ cond (ltb (get_or a i 0) (get_or b i 0)) Less (cond (ltb (get_or b i 0) (get_or a i 0)) Greater (order (drop (i + 1) a) (drop (i + 1) b)))
unfolding order
order_step a b i ha hb = rw (drop_step a i 0, drop_step b i 0)

module _ (a b : List ℕ) (i : ℕ) (ha : i < length a) (hb : i < length b) where
  pub order_less : get_or a i 0 < get_or b i 0 → order (drop i a) (drop i b) ≡ Less
  order_less h = order_step a b i ha hb ∙ then_is _ _ _ (lt-ltb _ _ h)

-- the order is that of the library on lists of numbers
pub order_cmp : (a b : List ℕ) → slice_cmp nat_cmp a b ≡ order a b
unfolding order
order_cmp [] [] = refl
order_cmp [] (y ∷ b) = refl
order_cmp (x ∷ a) [] = refl
order_cmp (x ∷ a) (y ∷ b) = by (ltb x y) (ltb y x) (eqb x y) refl refl refl (order_cmp a b)
  where
    equal : x ≡ y → eqb x y ≡ false → ⊥
    equal h r = true_is_not_false (sym (eq-eqb x y h) ∙ r)

    by : (t u v : Bool) → ltb x y ≡ t → ltb y x ≡ u → eqb x y ≡ v → slice_cmp nat_cmp a b ≡ order a b
        → ordering_then (cond t Less (cond v Equal Greater)) (slice_cmp nat_cmp a b) ≡ cond t Less (cond u Greater (order a b))
    by true u v p q r h = refl
    by false true true p q r h = absurd (let k = ltb-true y x q in let l = eqb-true x y r in omega arith)
    by false true false p q r h = refl
    by false false true p q r h = h
    by false false false p q r h = absurd (equal (heads x y p q) r)

-- and sameness is the library's
pub same_pointwise : (a b : List ℕ) → pointwise eqb a b ≡ same_bytes a b
unfolding same_bytes
same_pointwise [] [] = refl
same_pointwise [] (y ∷ b) = refl
same_pointwise (x ∷ a) [] = refl
same_pointwise (x ∷ a) (y ∷ b) = by (eqb x y) (same_pointwise a b)
  where
    by : (t : Bool) → pointwise eqb a b ≡ same_bytes a b → (t && pointwise eqb a b) ≡ cond t (same_bytes a b) false
    by true e = e
    by false e = refl

-- and that of two texts of one length is a fold over their pairs, without an early exit
folded : (a b : List ℕ) (s : Bool) → length a ≡ length b → fold (λ (t : Bool) (p : ℕ × ℕ). t && eqb p.0 p.1) s (zip a b) ≡ (s && same_bytes a b)
unfolding same_bytes
folded [] [] true h = refl
folded [] [] false h = refl
folded [] (y ∷ b) s h = absurd (omega arith)
folded (x ∷ a) [] s h = absurd (omega arith)
folded (x ∷ a) (y ∷ b) s h = folded a b (s && eqb x y) (omega arith) ∙ by s (eqb x y)
  where
    by : (s t : Bool) → ((s && t) && same_bytes a b) ≡ (s && cond t (same_bytes a b) false)
    by true true = refl
    by true false = refl
    by false t = refl

pub same_folded : (a b : List ℕ) → length a ≡ length b → fold (λ (t : Bool) (p : ℕ × ℕ). t && eqb p.0 p.1) true (zip a b) ≡ same_bytes a b
same_folded a b h = folded a b true h

-- sameness is equality
pub same_is : (a b : List ℕ) → same_bytes a b ≡ true → a ≡ b
unfolding same_bytes
same_is [] [] e = refl
same_is [] (y ∷ b) e = cc
same_is (x ∷ a) [] e = cc
same_is (x ∷ a) (y ∷ b) e = both (eqb x y) refl (same_is a b) e
  where
    both : (t : Bool) → eqb x y ≡ t → (same_bytes a b ≡ true → a ≡ b) → cond t (same_bytes a b) false ≡ true → x ∷ a ≡ y ∷ b
    both true q h r = cc (eqb-true x y q, h r)
    both false q h r = cc

pub same_self : (a : List ℕ) → same_bytes a a ≡ true
unfolding same_bytes
same_self [] = refl
same_self (x ∷ a) = then_is _ _ _ (eq-eqb x x refl) ∙ same_self a

pub is_same : (a b : List ℕ) → a ≡ b → same_bytes a b ≡ true
is_same a b e = sym (ap (same_bytes a) e) ∙ same_self a

-- two parts each, the first ones of one length
pub same_append : (x y a b : List ℕ) → length x ≡ length y → same_bytes (x ++ a) (y ++ b) ≡ cond (same_bytes x y) (same_bytes a b) false
unfolding same_bytes
same_append [] [] a b h = refl
same_append [] (v ∷ y) a b h = absurd (omega arith)
same_append (u ∷ x) [] a b h = absurd (omega arith)
same_append (u ∷ x) (v ∷ y) a b h = by (eqb u v) (same_append x y a b (omega arith))
  where
    by : (t : Bool) → same_bytes (x ++ a) (y ++ b) ≡ cond (same_bytes x y) (same_bytes a b) false
        → cond t (same_bytes (x ++ a) (y ++ b)) false ≡ cond (cond t (same_bytes x y) false) (same_bytes a b) false
    by true k = k
    by false k = refl

pub same_after : (x a b : List ℕ) → same_bytes (x ++ a) (x ++ b) ≡ same_bytes a b
same_after x a b = same_append x x a b refl ∙ then_is _ _ _ (same_self x)

-- two pairs that are equal together
pub same_as : (x y a b : List ℕ) → (x ≡ y → a ≡ b) → (a ≡ b → x ≡ y) → same_bytes x y ≡ same_bytes a b
same_as x y a b f g = by (same_bytes x y) (same_bytes a b) refl refl
  where
    by : (t u : Bool) → same_bytes x y ≡ t → same_bytes a b ≡ u → t ≡ u
    by true true p q = refl
    by false false p q = refl
    by true false p q = sym (is_same a b (f (same_is x y p))) ∙ q
    by false true p q = sym p ∙ is_same x y (g (same_is a b q))

-- lists of another length are not the same
pub same_lengths : (a b : List ℕ) → (length a ≡ length b → ⊥) → same_bytes a b ≡ false
same_lengths a b n = decided (same_bytes a b) refl
  where
    decided : (t : Bool) → same_bytes a b ≡ t → same_bytes a b ≡ false
    decided true q = absurd (n (ap length (same_is a b q)))
    decided false q = q

-- equal in the order is the same, and nothing else is
pub order_self : (a : List ℕ) → order a a ≡ Equal
unfolding order
order_self [] = refl
order_self (x ∷ a) = else_is _ _ _ (le-ltb x x (le_refl x)) ∙ else_is _ _ _ (le-ltb x x (le_refl x)) ∙ order_self a

pub order_is : (a b : List ℕ) → order a b ≡ Equal → a ≡ b
unfolding order
order_is [] [] e = refl
order_is [] (y ∷ b) e = cc
order_is (x ∷ a) [] e = cc
order_is (x ∷ a) (y ∷ b) e = by (ltb x y) (ltb y x) refl refl (order_is a b) e
  where
    by : (t u : Bool) → ltb x y ≡ t → ltb y x ≡ u → (order a b ≡ Equal → a ≡ b) → cond t Less (cond u Greater (order a b)) ≡ Equal → x ∷ a ≡ y ∷ b
    by true u p q h r = cc
    by false true p q h r = cc
    by false false p q h r = cc (heads x y p q, h r)

-- the order looked at from the other side
abbrev pub turned : Ordering → Ordering
turned Less = Greater
turned Equal = Equal
turned Greater = Less

pub order_turned : (a b : List ℕ) → order b a ≡ turned (order a b)
unfolding order
order_turned [] [] = refl
order_turned [] (y ∷ b) = refl
order_turned (x ∷ a) [] = refl
order_turned (x ∷ a) (y ∷ b) = by (ltb x y) (ltb y x) refl refl (order_turned a b)
  where
    by : (t u : Bool) → ltb x y ≡ t → ltb y x ≡ u → order b a ≡ turned (order a b)
        → cond u Less (cond t Greater (order b a)) ≡ turned (cond t Less (cond u Greater (order a b)))
    by true true p q h = absurd (let k = ltb-true x y p in let l = ltb-true y x q in omega arith)
    by true false p q h = refl
    by false true p q h = refl
    by false false p q h = h

-- rising twice is rising
pub order_trans : (a b d : List ℕ) → order a b ≡ Less → order b d ≡ Less → order a d ≡ Less
unfolding order
order_trans [] [] d e f = f
order_trans [] (y ∷ b) [] e f = cc
order_trans [] (y ∷ b) (z ∷ d) e f = refl
order_trans (x ∷ a) [] d e f = cc
order_trans (x ∷ a) (y ∷ b) [] e f = cc
order_trans (x ∷ a) (y ∷ b) (z ∷ d) e f =
    by (ltb x y) (ltb y x) (ltb y z) (ltb z y) refl refl refl refl (order_trans a b d) e f
  where
    first : x < z → cond (ltb x z) Less (cond (ltb z x) Greater (order a d)) ≡ Less
    first h = then_is _ _ _ (lt-ltb x z h)

    later : x ≡ z → order a d ≡ Less → cond (ltb x z) Less (cond (ltb z x) Greater (order a d)) ≡ Less
    later h k = else_is _ _ _ (le-ltb x z (omega arith)) ∙ else_is _ _ _ (le-ltb z x (omega arith)) ∙ k

    by : (t u v w : Bool) → ltb x y ≡ t → ltb y x ≡ u → ltb y z ≡ v → ltb z y ≡ w → (order a b ≡ Less → order b d ≡ Less → order a d ≡ Less)
        → cond t Less (cond u Greater (order a b)) ≡ Less → cond v Less (cond w Greater (order b d)) ≡ Less
        → cond (ltb x z) Less (cond (ltb z x) Greater (order a d)) ≡ Less
    by false true v w p q r s h e f = cc
    by true u false true p q r s h e f = cc
    by false false false true p q r s h e f = cc
    by true u true w p q r s h e f = let k = ltb-true x y p in let l = ltb-true y z r in first (omega arith)
    by true u false false p q r s h e f = let k = ltb-true x y p in let l = heads y z r s in first (omega arith)
    by false false true w p q r s h e f = let k = heads x y p q in let l = ltb-true y z r in first (omega arith)
    by false false false false p q r s h e f = let k = heads x y p q in let l = heads y z r s in later (omega arith) (h e f)
