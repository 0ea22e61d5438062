-- Laws of decimal digits: how a number's are found, that their value is the number, and that no other digits have it.
use Prim.Native.Nat.{ℕ, zero, suc, ◌+◌, ◌*◌, ◌-◌, ◌/◌, ◌%◌, ◌^◌, ◌≤◌, ◌<◌}
use mathlib.Core.Path.{◌≡◌, refl, sym, ap, ◌∙◌}
use mathlib.Core.Bool.{Bool, true, false, cond}
use mathlib.Core.List.{List, [], ◌∷◌, ◌++◌, append_assoc, append-nil}
use native.Mathlib.Omega.{arith}
use native.Mathlib.Nat.{pow-suc}
use lib.Dec.{ltb}
use lib.ListN.{length, get_or, length-append, get_or-append}
use borrow.Author.Tests.{lt-ltb, le-ltb, ltb-true, ltb-false}
use Rattle.buffer.specs.Write.{Pushed}
use Rattle.buffer.proofs.Choices.{then_is, else_is}
use Rattle.buffer.proofs.Writing.{pushed_both}
use Rattle.screen.specs.Decimal.{digits_in, decimal, value_after, digits_value}

-- the bound on the number of digits does not matter
enough : (j k n : ℕ) → n ≤ j → n ≤ k → digits_in j n ≡ digits_in k n
unfolding digits_in
enough zero zero n h l = refl
enough zero (suc k) n h l = sym (then_is _ _ _ (lt-ltb n 10 (omega arith)))
enough (suc j) zero n h l = then_is _ _ _ (lt-ltb n 10 (omega arith))
enough (suc j) (suc k) n h l =
    ap (λ (s : List ℕ). cond (ltb n 10) ((0x30 + n) ∷ []) (s ++ ((0x30 + n % 10) ∷ []))) (enough j k (n / 10) (omega arith) (omega arith))

-- a number below ten is one digit, and any other has a last one after those of its tenth
pub decimal_step : (n : ℕ) → decimal n ≡ cond (ltb n 10) ((0x30 + n) ∷ []) (decimal (n / 10) ++ ((0x30 + n % 10) ∷ []))
unfolding decimal digits_in
decimal_step zero = refl
decimal_step (suc n) =
    ap (λ (s : List ℕ). cond (ltb (suc n) 10) ((0x30 + suc n) ∷ []) (s ++ ((0x30 + suc n % 10) ∷ [])))
    (enough n (suc n / 10) (suc n / 10) (omega arith) (omega arith))

pub decimal_one : (n : ℕ) → n < 10 → decimal n ≡ (0x30 + n) ∷ []
decimal_one n h = decimal_step n ∙ then_is _ _ _ (lt-ltb n 10 h)

pub decimal_more : (n : ℕ) → 10 ≤ n → decimal n ≡ decimal (n / 10) ++ ((0x30 + n % 10) ∷ [])
decimal_more n h = decimal_step n ∙ else_is _ _ _ (le-ltb n 10 h)

-- what holds below ten, and of a number whose tenth has it, holds of every number
module _ (P : ℕ → Type 0) (one : (n : ℕ) → n < 10 → P n) (more : (n : ℕ) → 10 ≤ n → P (n / 10) → P n) where
  within : (k n : ℕ) → n ≤ k → P n
  within zero n h = one n (omega arith)
  within (suc k) n h = by (ltb n 10) refl (λ l. within k (n / 10) l)
    where
      by : (t : Bool) → ltb n 10 ≡ t → (n / 10 ≤ k → P (n / 10)) → P n
      by true e again = one n (ltb-true n 10 e)
      by false e again = let l = ltb-false n 10 e in more n l (again (omega arith))

  pub by_digits : (n : ℕ) → P n
  by_digits n = within n n (omega arith)

-- the value of digits and one more
value_snoc : (v : ℕ) (s : List ℕ) (d : ℕ) → value_after v (s ++ (d ∷ [])) ≡ value_after v s * 10 + (d - 0x30)
unfolding value_after
value_snoc v [] d = refl
value_snoc v (x ∷ s) d = value_snoc (v * 10 + (x - 0x30)) s d

-- THE VALUE of a number's digits is the number
pub decimal_value : (n : ℕ) → digits_value (decimal n) ≡ n
unfolding digits_value value_after
decimal_value = by_digits (λ n. digits_value (decimal n) ≡ n) one more
  where
    one : (n : ℕ) → n < 10 → digits_value (decimal n) ≡ n
    one n h = ap digits_value (decimal_one n h) ∙ omega arith

    more : (n : ℕ) → 10 ≤ n → digits_value (decimal (n / 10)) ≡ n / 10 → digits_value (decimal n) ≡ n
    more n h e =
        let s = value_snoc 0 (decimal (n / 10)) (0x30 + n % 10) in
        ap digits_value (decimal_more n h) ∙ s ∙ ap (λ (v : ℕ). v * 10 + (0x30 + n % 10 - 0x30)) e ∙ omega arith

-- ASCII digits, and texts of them
abbrev pub Digit : ℕ → Type 0
Digit d = (0x30 ≤ d) × (d ≤ 0x39)

abbrev pub Digits : List ℕ → Type 0
Digits [] = Unit
Digits (d ∷ s) = Digit d × Digits s

digits_snoc : (s : List ℕ) (d : ℕ) → Digits s → Digit d → Digits (s ++ (d ∷ []))
digits_snoc [] d h k = (k, tt)
digits_snoc (x ∷ s) d h k = (h.0, digits_snoc s d h.1 k)

pub decimal_digits : (n : ℕ) → Digits (decimal n)
decimal_digits = by_digits (λ n. Digits (decimal n)) (λ n h. rw (decimal_one n h) ((omega arith, omega arith), tt)) more
  where
    more : (n : ℕ) → 10 ≤ n → Digits (decimal (n / 10)) → Digits (decimal n)
    more n h d = rw (decimal_more n h) (digits_snoc (decimal (n / 10)) (0x30 + n % 10) d (omega arith, omega arith))

-- at least one digit, and at most as many as the powers of ten say
pub decimal_some : (n : ℕ) → 0 < length (decimal n)
decimal_some = by_digits (λ n. 0 < length (decimal n)) (λ n h. rw (decimal_one n h) (omega arith)) more
  where
    more : (n : ℕ) → 10 ≤ n → 0 < length (decimal (n / 10)) → 0 < length (decimal n)
    more n h k = rw (decimal_more n h, length-append (decimal (n / 10)) ((0x30 + n % 10) ∷ [])) (omega arith)

pub decimal_length : (n : ℕ) → 10 ≤ n → length (decimal n) ≡ length (decimal (n / 10)) + 1
decimal_length n h = ap length (decimal_more n h) ∙ length-append (decimal (n / 10)) ((0x30 + n % 10) ∷ [])

pub decimal_most : (k n : ℕ) → n < 10 ^ suc k → length (decimal n) ≤ suc k
decimal_most zero n h = let l = ap length (decimal_one n (omega arith)) in omega arith
decimal_most (suc k) n h = by (ltb n 10) refl (λ l. decimal_most k (n / 10) l)
  where
    by : (t : Bool) → ltb n 10 ≡ t → (n / 10 < 10 ^ suc k → length (decimal (n / 10)) ≤ suc k) → length (decimal n) ≤ suc (suc k)
    by true e again = let l = ap length (decimal_one n (ltb-true n 10 e)) in omega arith
    by false e again =
        let p = pow-suc 10 (suc k) in
        let m = again (omega arith) in
        let s = decimal_length n (ltb-false n 10 e) in
        omega arith

-- NO LEADING ZERO: the first digit of a number above 0 is not 0
pub decimal_lead : (n : ℕ) → 0 < n → 0x30 < get_or (decimal n) 0 0
decimal_lead = by_digits (λ n. 0 < n → 0x30 < get_or (decimal n) 0 0) (λ n h p. rw (decimal_one n h) (omega arith)) more
  where
    more : (n : ℕ) → 10 ≤ n → (0 < n / 10 → 0x30 < get_or (decimal (n / 10)) 0 0) → 0 < n → 0x30 < get_or (decimal n) 0 0
    more n h k p =
        rw (decimal_more n h, get_or-append (decimal (n / 10)) ((0x30 + n % 10) ∷ []) 0 0 (decimal_some (n / 10))) (k (omega arith))

-- NO OTHER digits without a leading zero have this value
beyond : (v : ℕ) (s : List ℕ) → 0 < v → Digits s → decimal (value_after v s) ≡ decimal v ++ s
unfolding value_after
beyond v [] h d = sym (append-nil (decimal v))
beyond v (x ∷ s) h d =
    let w : ℕ = v * 10 + (x - 0x30) in
    let last : decimal w ≡ decimal v ++ (x ∷ []) =
    decimal_more w (omega arith)
    ∙ ap (λ (n : ℕ). decimal n ++ ((0x30 + w % 10) ∷ [])) (tenth v x d.0)
    ∙ ap (λ (n : ℕ). decimal v ++ (n ∷ [])) (last_digit v x d.0)
    in
    beyond w s (omega arith) d.1
    ∙ ap (λ (l : List ℕ). l ++ s) last
    ∙ append_assoc (decimal v) (x ∷ []) s
  where
    tenth : (v x : ℕ) → Digit x → (v * 10 + (x - 0x30)) / 10 ≡ v
    tenth v x d = omega arith

    last_digit : (v x : ℕ) → Digit x → 0x30 + (v * 10 + (x - 0x30)) % 10 ≡ x
    last_digit v x d = omega arith

pub decimal_only : (d : ℕ) (s : List ℕ) → 0x30 < d → Digits (d ∷ s) → decimal (digits_value (d ∷ s)) ≡ d ∷ s
unfolding digits_value value_after
decimal_only d s h k =
    let first : 0 * 10 + (d - 0x30) ≡ d - 0x30 = omega arith in
    let back : 0x30 + (d - 0x30) ≡ d = omega arith in
    ap (λ (v : ℕ). decimal (value_after v s)) first
    ∙ beyond (d - 0x30) s (omega arith) k.1
    ∙ ap (λ (l : List ℕ). l ++ s) (decimal_one (d - 0x30) (omega arith) ∙ ap (λ (n : ℕ). n ∷ []) back)

-- the digits written one after the other
module _ (n : ℕ) (out : List ℕ) (at : ℕ) where
  pub pushed_one : (left : List ℕ) (r : ℕ) → n < 10 → Pushed ((0x30 + n) ∷ []) out at r left → Pushed (decimal n) out at r left
  pushed_one left r h p = rw (decimal_one n h) p

  pub pushed_more : (mid left : List ℕ) (p r : ℕ) → 10 ≤ n → at + length (decimal n) ≤ length out
      → Pushed (decimal (n / 10)) out at p mid → Pushed ((0x30 + n % 10) ∷ []) mid p r left → Pushed (decimal n) out at r left
  pushed_more mid left p r h room a b =
      let l = decimal_length n h in
      rw (decimal_more n h) (pushed_both (decimal (n / 10)) ((0x30 + n % 10) ∷ []) out mid left at p r (omega arith) a b)
