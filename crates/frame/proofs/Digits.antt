-- Laws of hexadecimal: single digits and runs of them, there and back, and what stands at each place.
use Prim.Native.Nat.{ℕ, zero, suc, ◌+◌, ◌-◌, ◌*◌, ◌/◌, ◌%◌, ◌≤◌, ◌<◌}
use mathlib.Core.Path.{◌≡◌, refl, sym, ap, ◌∙◌}
use mathlib.Core.Bool.{Bool, true, false, cond}
use mathlib.Core.List.{List, [], ◌∷◌, ◌++◌}
use native.Mathlib.Omega.{arith}
use lib.Dec.{ltb, leb}
use lib.ListN.{length, take, drop, set, get_or}
use borrow.Author.Tests.{lt-ltb, le-ltb, le-leb, lt-leb, leb-true, leb-false, ltb-true, ltb-false}
use Rattle.std.specs.List.{AllWithin, HoldsAt}
use Rattle.std.specs.Option.{unwrap_or, is_none, MatchOption}
use Rattle.std.proofs.lemmas.Iterator.{index_from_first}
use Rattle.buffer.proofs.Choices.{then_is, else_is}
use Rattle.buffer.proofs.Lending.{copy_step}
use Rattle.buffer.specs.Numbers.{Bytes}
use Rattle.frame.specs.Hex.{digit_of, hex_of, in_range, digit_value, is_digit, value_of, pair_of, unhex, first_bad, bad_place}
use Rattle.std.proofs.Common.{Option, Some, None}

-- a test on a range
range_in : (low high b : ℕ) → low ≤ b → b ≤ high → in_range low high b ≡ true
range_in low high b h k = then_is _ _ _ (le-leb low b h) ∙ le-leb b high k

range_under : (low high b : ℕ) → b < low → in_range low high b ≡ false
range_under low high b h = else_is _ _ _ (lt-leb low b h)

range_over : (low high b : ℕ) → high < b → in_range low high b ≡ false
range_over low high b h = by (leb low b)
  where
    by : (t : Bool) → cond t (leb b high) false ≡ false
    by true = lt-leb b high h
    by false = refl

-- what a byte is as a digit, in each range
module _ (b : ℕ) where
  pub digit_under : b < 48 → digit_value b ≡ None
  unfolding digit_value
  digit_under h = else_is _ _ _ (range_under 48 57 b h) ∙ else_is _ _ _ (range_under 97 102 b (omega arith))

  pub digit_number : 48 ≤ b → b ≤ 57 → digit_value b ≡ Some (b - 48)
  unfolding digit_value
  digit_number h k = then_is _ _ _ (range_in 48 57 b h k)

  pub digit_gap : 57 < b → b < 97 → digit_value b ≡ None
  unfolding digit_value
  digit_gap h k = else_is _ _ _ (range_over 48 57 b h) ∙ else_is _ _ _ (range_under 97 102 b k)

  pub digit_letter : 97 ≤ b → b ≤ 102 → digit_value b ≡ Some (b - 97 + 10)
  unfolding digit_value
  digit_letter h k = else_is _ _ _ (range_over 48 57 b (omega arith)) ∙ then_is _ _ _ (range_in 97 102 b h k)

  pub digit_over : 102 < b → digit_value b ≡ None
  unfolding digit_value
  digit_over h = else_is _ _ _ (range_over 48 57 b (omega arith)) ∙ else_is _ _ _ (range_over 97 102 b h)

-- the five ranges of a byte
data Range (b : ℕ) : Type 0 where
  under : b < 48 → Range b
  decimal : 48 ≤ b → b ≤ 57 → Range b
  gap : 57 < b → b < 97 → Range b
  letter : 97 ≤ b → b ≤ 102 → Range b
  over : 102 < b → Range b

range : (b : ℕ) → Range b
range b = first (leb 48 b) refl
  where
    fourth : (t : Bool) → leb b 102 ≡ t → 97 ≤ b → Range b
    fourth true e h = letter h (leb-true b 102 e)
    fourth false e h = over (leb-false b 102 e)

    third : (t : Bool) → leb 97 b ≡ t → 57 < b → Range b
    third true e h = fourth (leb b 102) refl (leb-true 97 b e)
    third false e h = gap h (leb-false 97 b e)

    second : (t : Bool) → leb b 57 ≡ t → 48 ≤ b → Range b
    second true e h = decimal h (leb-true b 57 e)
    second false e h = third (leb 97 b) refl (leb-false b 57 e)

    first : (t : Bool) → leb 48 b ≡ t → Range b
    first true e = second (leb b 57) refl (leb-true 48 b e)
    first false e = under (leb-false 48 b e)

-- the digit of a value has that value
pub digit_read : (v : ℕ) → v < 16 → digit_value (digit_of v) ≡ Some v
unfolding digit_of
digit_read v h = by (ltb v 10) refl
  where
    by : (t : Bool) → ltb v 10 ≡ t → digit_value (cond t (48 + v) (97 + (v - 10))) ≡ Some v
    by true e =
        let k : v < 10 = ltb-true v 10 e in
        let same : 48 + v - 48 ≡ v = omega arith in
        digit_number (48 + v) (omega arith) (omega arith) ∙ ap Some same
    by false e =
        let k : 10 ≤ v = ltb-false v 10 e in
        let same : 97 + (v - 10) - 97 + 10 ≡ v = omega arith in
        digit_letter (97 + (v - 10)) (omega arith) (omega arith) ∙ ap Some same

-- a byte that is a digit is the digit of its value, and a value is below 16
pub digit_back : (b v : ℕ) → digit_value b ≡ Some v → digit_of v ≡ b
unfolding digit_of
digit_back b v e = by (range b)
  where
    by : Range b → cond (ltb v 10) (48 + v) (97 + (v - 10)) ≡ b
    by (under h) = let d = digit_under b h in cc
    by (decimal h k) =
        let d = digit_number b h k in
        let s : v ≡ b - 48 = cc in
        let j : v < 10 = omega arith in
        then_is _ _ _ (lt-ltb v 10 j) ∙ omega arith
    by (gap h k) = let d = digit_gap b h k in cc
    by (letter h k) =
        let d = digit_letter b h k in
        let s : v ≡ b - 97 + 10 = cc in
        let j : 10 ≤ v = omega arith in
        else_is _ _ _ (le-ltb v 10 j) ∙ omega arith
    by (over h) = let d = digit_over b h in cc

pub value_small : (b : ℕ) → value_of (digit_value b) < 16
value_small b = by (range b)
  where
    by : Range b → value_of (digit_value b) < 16
    by (under h) = rw (digit_under b h) (omega arith)
    by (decimal h k) = rw (digit_number b h k) (omega arith)
    by (gap h k) = rw (digit_gap b h k) (omega arith)
    by (letter h k) = rw (digit_letter b h k) (omega arith)
    by (over h) = rw (digit_over b h) (omega arith)

-- the byte of two digits
pub pair_small : (high low : ℕ) → pair_of high low < 256
unfolding pair_of
pair_small high low = let h = value_small high in let k = value_small low in omega arith

pair_read : (b : ℕ) → b < 256 → pair_of (digit_of (b / 16)) (digit_of (b % 16)) ≡ b
unfolding pair_of
pair_read b h = rw (digit_read (b / 16) (omega arith), digit_read (b % 16) (omega arith)) (omega arith)

pair_high : (u v : ℕ) → u < 16 → v < 16 → (u * 16 + v) / 16 ≡ u
pair_high u v h k = omega arith

pair_low : (u v : ℕ) → u < 16 → v < 16 → (u * 16 + v) % 16 ≡ v
pair_low u v h k = omega arith

-- runs of digits
pub length_hex_of : (s : List ℕ) → length (hex_of s) ≡ 2 * length s
unfolding hex_of
length_hex_of [] = refl
length_hex_of (b ∷ s) = let h = length_hex_of s in omega arith

pub length_unhex : (s : List ℕ) → length (unhex s) ≡ length s / 2
unfolding unhex
length_unhex [] = refl
length_unhex (a ∷ []) = refl
length_unhex (a ∷ b ∷ s) = let h = length_unhex s in omega arith

-- the digits of bytes are all digits, and stand for these bytes
pub hex_digits_lem : (s : List ℕ) → Bytes s → first_bad (hex_of s) ≡ length (hex_of s)
unfolding hex_of first_bad Bytes
hex_digits_lem [] h = refl
hex_digits_lem (b ∷ s) h =
    let k = h 0 in
    rw (digit_read (b / 16) (omega arith), digit_read (b % 16) (omega arith)) (ap (λ (n : ℕ). suc (suc n)) (hex_digits_lem s (λ i. h (suc i))))

pub hex_read : (s : List ℕ) → Bytes s → unhex (hex_of s) ≡ s
unfolding hex_of unhex Bytes
hex_read [] h = refl
hex_read (b ∷ s) h = rw (pair_read b (h 0)) (ap (λ (l : List ℕ). b ∷ l) (hex_read s (λ i. h (suc i))))

-- what digits stand for is bytes
pub unhex_bytes : (s : List ℕ) → Bytes (unhex s)
unfolding unhex Bytes
unhex_bytes [] i = omega arith
unhex_bytes (a ∷ []) i = omega arith
unhex_bytes (a ∷ b ∷ s) zero = pair_small a b
unhex_bytes (a ∷ b ∷ s) (suc i) = unhex_bytes s i

-- an even run of digits is the digits of the bytes that it stands for
digits_first : (b : ℕ) (s : List ℕ) → length (b ∷ s) ≤ first_bad (b ∷ s) → (digit_of (value_of (digit_value b)) ≡ b) × (length s ≤ first_bad s)
unfolding first_bad
digits_first b s h = by (digit_value b) refl h
  where
    by : (d : Option ℕ) → digit_value b ≡ d → suc (length s) ≤ cond (is_digit d) (suc (first_bad s)) 0 → (digit_of (value_of (digit_value b)) ≡ b) × (length s ≤ first_bad s)
    by (Some v) e k = (rw e (digit_back b v e), omega arith)
    by None e k = absurd (omega arith)

pub hex_back : (s : List ℕ) → length s % 2 ≡ 0 → length s ≤ first_bad s → hex_of (unhex s) ≡ s
unfolding hex_of unhex pair_of
hex_back [] e h = refl
hex_back (a ∷ []) e h = cc
hex_back (a ∷ b ∷ s) e h =
    let p = digits_first a (b ∷ s) h in
    let q = digits_first b s p.1 in
    rw (pair_high _ _ (value_small a) (value_small b), pair_low _ _ (value_small a) (value_small b), p.0, q.0)
    (ap (λ (l : List ℕ). a ∷ b ∷ l) (hex_back s (omega arith) q.1))

-- what stands at a place of a run of digits, and of the bytes that it stands for
pub hex_high : (s : List ℕ) (i : ℕ) → i < length s → get_or (hex_of s) (2 * i) 0 ≡ digit_of (get_or s i 0 / 16)
unfolding hex_of
hex_high [] i h = absurd (omega arith)
hex_high (b ∷ s) zero h = refl
hex_high (b ∷ s) (suc i) h = let e : 2 * suc i ≡ suc (suc (2 * i)) = omega arith in rw e (hex_high s i (omega arith))

pub hex_low : (s : List ℕ) (i : ℕ) → i < length s → get_or (hex_of s) (2 * i + 1) 0 ≡ digit_of (get_or s i 0 % 16)
unfolding hex_of
hex_low [] i h = absurd (omega arith)
hex_low (b ∷ s) zero h = refl
hex_low (b ∷ s) (suc i) h = let e : 2 * suc i + 1 ≡ suc (suc (2 * i + 1)) = omega arith in rw e (hex_low s i (omega arith))

pub unhex_at : (s : List ℕ) (i : ℕ) → i < length s / 2 → get_or (unhex s) i 0 ≡ pair_of (get_or s (2 * i) 0) (get_or s (2 * i + 1) 0)
unfolding unhex
unhex_at [] i h = absurd (omega arith)
unhex_at (a ∷ []) i h = absurd (omega arith)
unhex_at (a ∷ b ∷ s) zero h = refl
unhex_at (a ∷ b ∷ s) (suc i) h =
    let e : 2 * suc i ≡ suc (suc (2 * i)) = omega arith in
    let f : 2 * suc i + 1 ≡ suc (suc (2 * i + 1)) = omega arith in
    rw (f, e) (unhex_at s i (omega arith))

-- the first byte that is no digit, as the library finds it
abbrev pub Bad : ℕ → Type 0
Bad b = is_none (digit_value b) ≡ true

abbrev pub Fine : ℕ → Type 0
Fine b = is_none (digit_value b) ≡ false

bad_first : (s : List ℕ) (r : Option ℕ) → MatchOption r (AllWithin Fine s 0 (length s)) (λ i. (i < length s) × HoldsAt Bad s i × AllWithin Fine s 0 i)
    → first_bad s ≡ unwrap_or r (length s)
unfolding first_bad
bad_first = index_from_first first_bad Bad Fine refl (λ b s h. bad s (digit_value b) h) (λ b s h. fine s (digit_value b) h)
  where
    bad : (t : List ℕ) (d : Option ℕ) → is_none d ≡ true → cond (is_digit d) (suc (first_bad t)) 0 ≡ 0
    bad t None e = refl
    bad t (Some v) e = cc

    fine : (t : List ℕ) (d : Option ℕ) → is_none d ≡ false → cond (is_digit d) (suc (first_bad t)) 0 ≡ first_bad t + 1
    fine t None e = cc
    fine t (Some v) e = omega arith

pub bad_found : (s : List ℕ) (r : Option ℕ) → MatchOption r (AllWithin Fine s 0 (length s)) (λ i. (i < length s) × HoldsAt Bad s i × AllWithin Fine s 0 i) → r ≡ bad_place s
unfolding bad_place
bad_found s None m = let e = bad_first s None m in sym (else_is _ _ _ (le-ltb (first_bad s) (length s) (omega arith)))
bad_found s (Some i) m =
    let e = bad_first s (Some i) m in
    let h = m.0 in
    ap Some (sym e) ∙ sym (then_is _ _ _ (lt-ltb (first_bad s) (length s) (omega arith)))

-- a turn of the writing of digits: those of the first i bytes stand in front of what out had after them
pub hex_step : (s out : List ℕ) (i high low : ℕ) → i < length s → length (hex_of s) ≤ length out
    → high ≡ digit_of (get_or s i 0 / 16) → low ≡ digit_of (get_or s i 0 % 16)
    → set (set (take (2 * i) (hex_of s) ++ drop (2 * i) out) (2 * i) high) (2 * i + 1) low ≡ take (2 * (i + 1)) (hex_of s) ++ drop (2 * (i + 1)) out
hex_step s out i high low h room p q =
    let l = length_hex_of s in
    let next : 2 * (i + 1) ≡ 2 * i + 1 + 1 = omega arith in
    rw (next, p ∙ sym (hex_high s i h), q ∙ sym (hex_low s i h))
    (ap (λ (d : List ℕ). set d (2 * i + 1) (get_or (hex_of s) (2 * i + 1) 0)) (copy_step (hex_of s) out (2 * i) (omega arith) (omega arith))
    ∙ copy_step (hex_of s) out (2 * i + 1) (omega arith) (omega arith))
