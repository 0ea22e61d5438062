-- Laws of a list of numbers that is looked through, and so of the table of White_Space.
use Prim.Native.Nat.{ℕ, zero, suc, ◌+◌, ◌-◌, ◌<◌, ◌≤◌}
use native.Mathlib.Omega.{arith}
use mathlib.Core.Logic.{⊎_elim}
use Rattle.text.proofs.Encoding.{below_or_not}
use mathlib.Core.Path.{◌≡◌, refl, sym, ap, ◌∙◌}
use mathlib.Core.Bool.{Bool, true, false, cond, not, beq, ◌||◌, ◌&&◌}
use mathlib.Core.List.{List, [], ◌∷◌}
use borrow.Author.Tests.{tests, ne_eqb}
use lib.Dec.{eqb, ltb, leb}
use Rattle.buffer.proofs.Choices.{else_is, true_is_not_false}
use Rattle.text.specs.Space.{white_space, among, is_white_space}
use Rattle.text.specs.Inner.{in_ranges}

-- a test that every number of a list passes and n does not: n is not in it
abbrev pub all_of : (ℕ → Bool) → List ℕ → Bool
all_of f [] = true
all_of f (m ∷ list) = cond (f m) (all_of f list) false

among_not : (f : ℕ → Bool) (n : ℕ) (list : List ℕ) → all_of f list ≡ true → f n ≡ false → among n list ≡ false
unfolding among
among_not f n [] h k = refl
among_not f n (m ∷ list) h k = by (f m) refl h (among_not f n list)
  where
    by : (t : Bool) → f m ≡ t → cond t (all_of f list) false ≡ true → (all_of f list ≡ true → f n ≡ false → among n list ≡ false) → cond (eqb m n) true (among n list) ≡ false
    by true e q ih = else_is _ _ _ (ne_eqb m n (λ z. true_is_not_false (sym e ∙ ap f z ∙ k))) ∙ ih q k
    by false e q ih = cc

-- a test that every number below k passes
abbrev pub all_below : (ℕ → Bool) → ℕ → Bool
all_below f zero = true
all_below f (suc k) = cond (f k) (all_below f k) false

pub below_passes : (f : ℕ → Bool) (k n : ℕ) → all_below f k ≡ true → n < k → f n ≡ true
below_passes f zero n h l = absurd (omega arith)
below_passes f (suc k) n h l = by (f k) refl h (below_passes f k n)
  where
    by : (t : Bool) → f k ≡ t → cond t (all_below f k) false ≡ true → (all_below f k ≡ true → n < k → f n ≡ true) → f n ≡ true
    by false e q ih = cc
    by true e q ih = ⊎_elim (λ (p : n < k). ih q p) (λ (p : k ≤ n). let z : n ≡ k = omega arith in ap f z ∙ e) (below_or_not n k)

same_test : (a b : Bool) → beq a b ≡ true → a ≡ b
same_test true true e = refl
same_test false false e = refl
same_test true false e = cc
same_test false true e = cc

-- where there is no white space past A0, but for five numbers that stand alone and two runs
unfoldable pub wide_gap : ℕ → Bool
wide_gap code = (leb 0xA1 code && ltb code 0x1680) || (leb 0x1681 code && ltb code 0x2000) || (leb 0x2060 code && ltb code 0x3000) || leb 0x3001 code

pub none_in_a_gap : (code : ℕ) → wide_gap code ≡ true → is_white_space code ≡ false
unfolding is_white_space white_space wide_gap
none_in_a_gap code k = among_not (λ n. not (wide_gap n)) code white_space refl (ap not k)

no_range_in_a_gap : (code : ℕ) → wide_gap code ≡ true → in_ranges code ≡ false
unfolding wide_gap in_ranges
no_range_in_a_gap code k = grind (arith, tests)

-- the code points by their ranges, and in the list: from a place on, where they are few
same_from : (start n code : ℕ) → all_below (λ k. beq (in_ranges (start + k)) (is_white_space (start + k))) n ≡ true → start ≤ code → code < start + n
    → in_ranges code ≡ is_white_space code
same_from start n code h l m =
    let e : start + (code - start) ≡ code = omega arith in
    ap in_ranges (sym e)
    ∙ same_test _ _ (below_passes (λ k. beq (in_ranges (start + k)) (is_white_space (start + k))) n (code - start) h (omega arith))
    ∙ ap is_white_space e

apart : (code : ℕ) → wide_gap code ≡ true → in_ranges code ≡ is_white_space code
apart code k = no_range_in_a_gap code k ∙ sym (none_in_a_gap code k)

pub ranges_are : (code : ℕ) → in_ranges code ≡ is_white_space code
unfolding in_ranges is_white_space white_space among wide_gap
ranges_are code =
    below 0xA1 (λ (h : code < 0xA1). same_from 0 0xA1 code refl (omega arith) h)
    (λ (h : 0xA1 ≤ code). below 0x1680 (λ (k : code < 0x1680). apart code (grind (arith, tests)))
    (λ (k : 0x1680 ≤ code). below 0x1681 (λ (l : code < 0x1681). same_from 0x1680 1 code refl k (omega arith))
    (λ (l : 0x1681 ≤ code). below 0x2000 (λ (m : code < 0x2000). apart code (grind (arith, tests)))
    (λ (m : 0x2000 ≤ code). below 0x2060 (λ (n : code < 0x2060). same_from 0x2000 0x60 code refl m (omega arith))
    (λ (n : 0x2060 ≤ code). below 0x3000 (λ (p : code < 0x3000). apart code (grind (arith, tests)))
    (λ (p : 0x3000 ≤ code). below 0x3001 (λ (q : code < 0x3001). same_from 0x3000 1 code refl p (omega arith))
    (λ (q : 0x3001 ≤ code). apart code (grind (arith, tests)))))))))
  where
    below : (n : ℕ) → (code < n → in_ranges code ≡ is_white_space code) → (n ≤ code → in_ranges code ≡ is_white_space code) → in_ranges code ≡ is_white_space code
    below n f g = ⊎_elim f g (below_or_not code n)
