-- The decoder against `encode`: what it reads as a character is the encoding of a scalar value, and it reads every such encoding.
use Prim.Native.Nat.{ℕ, ◌+◌, ◌*◌, ◌/◌, ◌%◌, ◌<◌, ◌≤◌}
use mathlib.Core.Path.{◌≡◌, refl, sym, ap, ◌∙◌}
use mathlib.Core.Bool.{Bool, true, false, cond}
use mathlib.Core.List.{List, [], ◌∷◌, ◌++◌}
use mathlib.Core.Logic.{◌⊎◌, inl, inr, ⊎_elim}
use native.Mathlib.Omega.{arith}
use borrow.Author.Tests.{lt-ltb, le-ltb, le-leb, leb-true, ne_eqb, ltb-true, ltb-false}
use lib.Dec.{ltb, leb, eqb}
use native.Mathlib.Nat.{le_trans}
use lib.ListN.{length, drop, get_or}
use Rattle.buffer.proofs.Choices.{then_is, else_is, true_is_not_false}
use Rattle.text.specs.Unicode.{Scalar, low, high, encode}
use Rattle.text.specs.declared.utf8.Decoded.{Decoded}
use Rattle.text.specs.declared.utf8.Decoded.TheVariants.{Character, IllFormed, End}
use Rattle.text.specs.Decoding.{least_second, greatest_second, within, second, later, table, decode_first}
use Rattle.text.proofs.TableRows.{two_is, two_not, three_is, three_not, three_cut, four_is, four_not, four_cut, four_cut_last, row_ascii, row_none, row_two, row_three, row_four, row_past}

-- one of two, or of three, ways that numbers can stand
pub below_or_not : (a n : ℕ) → (a < n) ⊎ (n ≤ a)
below_or_not a n = by (ltb a n) refl
  where
    by : (t : Bool) → ltb a n ≡ t → (a < n) ⊎ (n ≤ a)
    by true e = inl (ltb-true a n e)
    by false e = inr (ltb-false a n e)

-- a byte within bounds
pub within_is : (x y b : ℕ) → x ≤ b → b ≤ y → within x y b ≡ true
unfolding within
within_is x y b h k = then_is _ _ _ (le-leb x b h) ∙ le-leb b y k

pub record Within (x y b : ℕ) : Type 0 where
  pub least : x ≤ b
  pub most : b ≤ y

pub within_has : (x y b : ℕ) → within x y b ≡ true → Within x y b
unfolding within
within_has x y b e = by (leb x b) refl e
  where
    by : (t : Bool) → leb x b ≡ t → cond t (leb b y) false ≡ true → Within x y b
    by true p q = record { least = leb-true x b p; most = leb-true b y q }
    by false p q = absurd (true_is_not_false (sym q))

-- the bounds of the second byte
pub after_E0 : (a : ℕ) → a ≡ 0xE0 → least_second a ≡ 0xA0
unfolding least_second
after_E0 a e = rw e

pub after_F0 : (a : ℕ) → a ≡ 0xF0 → least_second a ≡ 0x90
unfolding least_second
after_F0 a e = rw e

after_ED : (a : ℕ) → a ≡ 0xED → greatest_second a ≡ 0x9F
unfolding greatest_second
after_ED a e = rw e

after_F4 : (a : ℕ) → a ≡ 0xF4 → greatest_second a ≡ 0x8F
unfolding greatest_second
after_F4 a e = rw e

pub least_other : (a : ℕ) → (a ≡ 0xE0 → ⊥) → (a ≡ 0xF0 → ⊥) → least_second a ≡ 0x80
unfolding least_second
least_other a h k = else_is _ _ _ (ne_eqb a 0xE0 h) ∙ else_is _ _ _ (ne_eqb a 0xF0 k)

pub greatest_other : (a : ℕ) → (a ≡ 0xED → ⊥) → (a ≡ 0xF4 → ⊥) → greatest_second a ≡ 0xBF
unfolding greatest_second
greatest_other a h k = else_is _ _ _ (ne_eqb a 0xED h) ∙ else_is _ _ _ (ne_eqb a 0xF4 k)

-- encode by the number of its bytes
enc_one : (n : ℕ) → n < 0x80 → encode n ≡ n ∷ []
unfolding encode
enc_one n h = then_is _ _ _ (lt-ltb n 0x80 h)

enc_two : (n : ℕ) → 0x80 ≤ n → n < 0x800 → encode n ≡ (0xC0 + n / 0x40) ∷ (0x80 + n % 0x40) ∷ []
unfolding encode
enc_two n h k = else_is _ _ _ (le-ltb n 0x80 h) ∙ then_is _ _ _ (lt-ltb n 0x800 k)

enc_three : (n : ℕ) → 0x800 ≤ n → n < 0x10000 → encode n ≡ (0xE0 + n / 0x1000) ∷ (0x80 + n / 0x40 % 0x40) ∷ (0x80 + n % 0x40) ∷ []
unfolding encode
enc_three n h k = else_is _ _ _ (le-ltb n 0x80 (omega arith)) ∙ else_is _ _ _ (le-ltb n 0x800 h) ∙ then_is _ _ _ (lt-ltb n 0x10000 k)

enc_four : (n : ℕ) → 0x10000 ≤ n → encode n ≡ (0xF0 + n / 0x40000) ∷ (0x80 + n / 0x1000 % 0x40) ∷ (0x80 + n / 0x40 % 0x40) ∷ (0x80 + n % 0x40) ∷ []
unfolding encode
enc_four n h = else_is _ _ _ (le-ltb n 0x80 (omega arith)) ∙ else_is _ _ _ (le-ltb n 0x800 (omega arith)) ∙ else_is _ _ _ (le-ltb n 0x10000 h)

-- the bits of the bytes are the bits of the code, both ways
bits_two : (a b : ℕ) → 0xC0 ≤ a → a < 0xE0 → 0x80 ≤ b → b ≤ 0xBF → (0xC0 + (a % 0x20 * 0x40 + b % 0x40) / 0x40 ≡ a) × (0x80 + (a % 0x20 * 0x40 + b % 0x40) % 0x40 ≡ b)
bits_two a b h k l m = (omega arith, omega arith)

bits_three : (a b c : ℕ) → 0xE0 ≤ a → a < 0xF0 → 0x80 ≤ b → b ≤ 0xBF → 0x80 ≤ c → c ≤ 0xBF
    → (0xE0 + (a % 0x10 * 0x1000 + b % 0x40 * 0x40 + c % 0x40) / 0x1000 ≡ a) × (0x80 + (a % 0x10 * 0x1000 + b % 0x40 * 0x40 + c % 0x40) / 0x40 % 0x40 ≡ b)
    × (0x80 + (a % 0x10 * 0x1000 + b % 0x40 * 0x40 + c % 0x40) % 0x40 ≡ c)
bits_three a b c h k l m n o = (omega arith, omega arith, omega arith)

bits_four : (a b c d : ℕ) → 0xF0 ≤ a → a < 0xF8 → 0x80 ≤ b → b ≤ 0xBF → 0x80 ≤ c → c ≤ 0xBF → 0x80 ≤ d → d ≤ 0xBF
    → (0xF0 + (a % 0x08 * 0x40000 + b % 0x40 * 0x1000 + c % 0x40 * 0x40 + d % 0x40) / 0x40000 ≡ a)
    × (0x80 + (a % 0x08 * 0x40000 + b % 0x40 * 0x1000 + c % 0x40 * 0x40 + d % 0x40) / 0x1000 % 0x40 ≡ b)
    × (0x80 + (a % 0x08 * 0x40000 + b % 0x40 * 0x1000 + c % 0x40 * 0x40 + d % 0x40) / 0x40 % 0x40 ≡ c)
    × (0x80 + (a % 0x08 * 0x40000 + b % 0x40 * 0x1000 + c % 0x40 * 0x40 + d % 0x40) % 0x40 ≡ d)
bits_four a b c d h k l m n o p q = (omega arith, omega arith, omega arith, omega arith)

-- every second byte is from 80 to BF; after E0, ED, F0 and F4 the table narrows it
least_80 : (p q : Bool) → 0x80 ≤ cond p 0xA0 (cond q 0x90 0x80)
least_80 true q = omega arith
least_80 false true = omega arith
least_80 false false = omega arith

greatest_BF : (p q : Bool) → cond p 0x9F (cond q 0x8F 0xBF) ≤ 0xBF
greatest_BF true q = omega arith
greatest_BF false true = omega arith
greatest_BF false false = omega arith

pub second_in : (a b : ℕ) → second a b ≡ true → Within 0x80 0xBF b
unfolding least_second greatest_second
second_in a b e =
    let w = within_has (least_second a) (greatest_second a) b e in
    let l = least_80 (eqb a 0xE0) (eqb a 0xF0) in
    let g = greatest_BF (eqb a 0xED) (eqb a 0xF4) in
    record { least = le_trans l w.least; most = le_trans w.most g }

pub second_least : (a b x : ℕ) → second a b ≡ true → least_second a ≡ x → x ≤ b
second_least a b x e q = rw q at (within_has (least_second a) (greatest_second a) b e).least

second_most : (a b y : ℕ) → second a b ≡ true → greatest_second a ≡ y → b ≤ y
second_most a b y e q = rw q at (within_has (least_second a) (greatest_second a) b e).most

-- a text that begins with the encoding of a scalar value, n bytes long
pub record Begins (s : List ℕ) (code n : ℕ) : Type 0 where
  pub scalar : Scalar code
  pub size : n ≡ length (encode code)
  pub bytes : s ≡ encode code ++ drop n s

begins_one : (a : ℕ) (s : List ℕ) → a < 0x80 → Begins (a ∷ s) a 1
begins_one a s h = record { scalar = low {n = a} (omega arith); size = rw (enc_one a); bytes = rw (enc_one a) }

begins_two : (a b : ℕ) (s : List ℕ) → 0xC2 ≤ a → a < 0xE0 → second a b ≡ true → Begins (a ∷ b ∷ s) (a % 0x20 * 0x40 + b % 0x40) 2
begins_two a b s h k e =
    let w = second_in a b e in
    let m : ℕ = a % 0x20 * 0x40 + b % 0x40 in
    let least : 0x80 ≤ m = omega arith in
    let most : m < 0x800 = omega arith in
    let q = bits_two a b (omega arith) k w.least w.most in
    let is : encode m ≡ a ∷ b ∷ [] = enc_two m least most ∙ cc (q.0, q.1) in
    record { scalar = low {n = m} (omega arith); size = rw is; bytes = rw is }

-- no surrogate and nothing overlong among three bytes
three_scalar : (a b c : ℕ) → 0xE0 ≤ a → a < 0xF0 → second a b ≡ true → Within 0x80 0xBF c → Scalar (a % 0x10 * 0x1000 + b % 0x40 * 0x40 + c % 0x40)
three_scalar a b c h k e v =
    let w = second_in a b e in
    ⊎_elim
    (λ (l : a < 0xED). low {n = a % 0x10 * 0x1000 + b % 0x40 * 0x40 + c % 0x40} (omega arith))
    (λ (l : 0xED ≤ a).
    ⊎_elim
    (λ (m : a < 0xEE).
    let is : a ≡ 0xED = omega arith in
    let top : b ≤ 0x9F = second_most a b 0x9F e (after_ED a is) in
    low {n = a % 0x10 * 0x1000 + b % 0x40 * 0x40 + c % 0x40} (omega arith))
    (λ (m : 0xEE ≤ a). high {n = a % 0x10 * 0x1000 + b % 0x40 * 0x40 + c % 0x40} (omega arith) (omega arith))
    (below_or_not a 0xEE))
    (below_or_not a 0xED)

three_least : (a b c : ℕ) → 0xE0 ≤ a → a < 0xF0 → second a b ≡ true → 0x800 ≤ a % 0x10 * 0x1000 + b % 0x40 * 0x40 + c % 0x40
three_least a b c h k e =
    let w = second_in a b e in
    ⊎_elim
    (λ (l : a < 0xE1).
    let is : a ≡ 0xE0 = omega arith in
    let low : 0xA0 ≤ b = second_least a b 0xA0 e (after_E0 a is) in
    omega arith)
    (λ (l : 0xE1 ≤ a). omega arith)
    (below_or_not a 0xE1)

begins_three : (a b c : ℕ) (s : List ℕ) → 0xE0 ≤ a → a < 0xF0 → second a b ≡ true → later c ≡ true
    → Begins (a ∷ b ∷ c ∷ s) (a % 0x10 * 0x1000 + b % 0x40 * 0x40 + c % 0x40) 3
begins_three a b c s h k e f =
    let w = second_in a b e in
    let v = within_has 0x80 0xBF c f in
    let m : ℕ = a % 0x10 * 0x1000 + b % 0x40 * 0x40 + c % 0x40 in
    let most : m < 0x10000 = omega arith in
    let q = bits_three a b c h k w.least w.most v.least v.most in
    let is : encode m ≡ a ∷ b ∷ c ∷ [] = enc_three m (three_least a b c h k e) most ∙ cc (q.0, q.1, q.2) in
    record { scalar = three_scalar a b c h k e v; size = rw is; bytes = rw is }

-- nothing overlong and nothing above 10FFFF among four bytes
four_least : (a b c d : ℕ) → 0xF0 ≤ a → a < 0xF5 → second a b ≡ true → 0x10000 ≤ a % 0x08 * 0x40000 + b % 0x40 * 0x1000 + c % 0x40 * 0x40 + d % 0x40
four_least a b c d h k e =
    let w = second_in a b e in
    ⊎_elim
    (λ (l : a < 0xF1).
    let is : a ≡ 0xF0 = omega arith in
    let low : 0x90 ≤ b = second_least a b 0x90 e (after_F0 a is) in
    omega arith)
    (λ (l : 0xF1 ≤ a). omega arith)
    (below_or_not a 0xF1)

four_most : (a b c d : ℕ) → 0xF0 ≤ a → a < 0xF5 → second a b ≡ true → a % 0x08 * 0x40000 + b % 0x40 * 0x1000 + c % 0x40 * 0x40 + d % 0x40 < 0x110000
four_most a b c d h k e =
    let w = second_in a b e in
    ⊎_elim
    (λ (l : a < 0xF4). omega arith)
    (λ (l : 0xF4 ≤ a).
    let is : a ≡ 0xF4 = omega arith in
    let top : b ≤ 0x8F = second_most a b 0x8F e (after_F4 a is) in
    omega arith)
    (below_or_not a 0xF4)

begins_four : (a b c d : ℕ) (s : List ℕ) → 0xF0 ≤ a → a < 0xF5 → second a b ≡ true → later c ≡ true → later d ≡ true
    → Begins (a ∷ b ∷ c ∷ d ∷ s) (a % 0x08 * 0x40000 + b % 0x40 * 0x1000 + c % 0x40 * 0x40 + d % 0x40) 4
begins_four a b c d s h k e f g =
    let w = second_in a b e in
    let v = within_has 0x80 0xBF c f in
    let u = within_has 0x80 0xBF d g in
    let m : ℕ = a % 0x08 * 0x40000 + b % 0x40 * 0x1000 + c % 0x40 * 0x40 + d % 0x40 in
    let least : 0x10000 ≤ m = four_least a b c d h k e in
    let q = bits_four a b c d h (omega arith) w.least w.most v.least v.most u.least u.most in
    let is : encode m ≡ a ∷ b ∷ c ∷ d ∷ [] = enc_four m least ∙ cc (q.0, q.1, q.2, q.3) in
    record { scalar = high {n = m} (omega arith) (four_most a b c d h k e); size = rw is; bytes = rw is }

-- the ways through the table
data Row (a b c d : ℕ) : Decoded → Type 0 where
  one : a < 0x80 → Row a b c d (Character a 1)
  two : 0xC2 ≤ a → a < 0xE0 → second a b ≡ true → Row a b c d (Character (a % 0x20 * 0x40 + b % 0x40) 2)
  three : 0xE0 ≤ a → a < 0xF0 → second a b ≡ true → later c ≡ true → Row a b c d (Character (a % 0x10 * 0x1000 + b % 0x40 * 0x40 + c % 0x40) 3)
  four : 0xF0 ≤ a → a < 0xF5 → second a b ≡ true → later c ≡ true → later d ≡ true
      → Row a b c d (Character (a % 0x08 * 0x40000 + b % 0x40 * 0x1000 + c % 0x40 * 0x40 + d % 0x40) 4)
  bad : Row a b c d IllFormed

module _ (a b c d : ℕ) where
  by_two : 0xC2 ≤ a → a < 0xE0 → (p : Bool) → second a b ≡ p → Row a b c d (table a b c d)
  by_two h k true e = rw (row_two a b c d h k, two_is a b e) (two h k e)
  by_two h k false e = rw (row_two a b c d h k, two_not a b e) bad

  by_three : 0xE0 ≤ a → a < 0xF0 → (p q : Bool) → second a b ≡ p → later c ≡ q → Row a b c d (table a b c d)
  by_three h k true true e f = rw (row_three a b c d h k, three_is a b c e f) (three h k e f)
  by_three h k true false e f = rw (row_three a b c d h k, three_cut a b c e f) bad
  by_three h k false q e f = rw (row_three a b c d h k, three_not a b c e) bad

  by_four : 0xF0 ≤ a → a < 0xF5 → (p q r : Bool) → second a b ≡ p → later c ≡ q → later d ≡ r → Row a b c d (table a b c d)
  by_four h k true true true e f g = rw (row_four a b c d h k, four_is a b c d e f g) (four h k e f g)
  by_four h k true true false e f g = rw (row_four a b c d h k, four_cut_last a b c d e f g) bad
  by_four h k true false r e f g = rw (row_four a b c d h k, four_cut a b c d e f) bad
  by_four h k false q r e f g = rw (row_four a b c d h k, four_not a b c d e) bad

  row : Row a b c d (table a b c d)
  row =
      ⊎_elim (λ (h : a < 0x80). rw (row_ascii a b c d h) (one h))
      (λ (h : 0x80 ≤ a).
      ⊎_elim (λ (k : a < 0xC2). rw (row_none a b c d h k) bad)
      (λ (k : 0xC2 ≤ a).
      ⊎_elim (λ (l : a < 0xE0). by_two k l (second a b) refl)
      (λ (l : 0xE0 ≤ a).
      ⊎_elim (λ (m : a < 0xF0). by_three l m (second a b) (later c) refl refl)
      (λ (m : 0xF0 ≤ a).
      ⊎_elim (λ (n : a < 0xF5). by_four m n (second a b) (later c) (later d) refl refl refl)
      (λ (n : 0xF5 ≤ a). rw (row_past a b c d n) bad)
      (below_or_not a 0xF5))
      (below_or_not a 0xF0))
      (below_or_not a 0xE0))
      (below_or_not a 0xC2))
      (below_or_not a 0x80)

-- Soundness: where the decoder answers a character, the text begins with the encoding of that scalar value.
abbrev pub SoundOf : List ℕ → Decoded → Type 0
SoundOf s (Character code n) = Begins s code n
SoundOf s IllFormed = Unit {0}
SoundOf s End = s ≡ []

-- a byte past the end fits nowhere
past_second : (a : ℕ) → second a 0 ≡ true → ⊥
past_second a e = let w = second_in a 0 e in omega (arith, w.least)

past_later : later 0 ≡ true → ⊥
past_later e = let w = within_has 0x80 0xBF 0 e in omega (arith, w.least)

row_sound : (a : ℕ) (s : List ℕ) (r : Decoded) → Row a (get_or s 0 0) (get_or s 1 0) (get_or s 2 0) r → SoundOf (a ∷ s) r
row_sound a s _ (one h) = begins_one a s h
row_sound a [] _ (two h k e) = absurd (past_second a e)
row_sound a (b ∷ s) _ (two h k e) = begins_two a b s h k e
row_sound a [] _ (three h k e f) = absurd (past_second a e)
row_sound a (b ∷ []) _ (three h k e f) = absurd (past_later f)
row_sound a (b ∷ c ∷ s) _ (three h k e f) = begins_three a b c s h k e f
row_sound a [] _ (four h k e f g) = absurd (past_second a e)
row_sound a (b ∷ []) _ (four h k e f g) = absurd (past_later f)
row_sound a (b ∷ c ∷ []) _ (four h k e f g) = absurd (past_later g)
row_sound a (b ∷ c ∷ d ∷ s) _ (four h k e f g) = begins_four a b c d s h k e f g
row_sound a s _ bad = tt

pub decode_sound : (s : List ℕ) → SoundOf s (decode_first s)
unfolding decode_first
decode_sound [] = refl
decode_sound (a ∷ s) = row_sound a s (table a (get_or s 0 0) (get_or s 1 0) (get_or s 2 0)) (row a (get_or s 0 0) (get_or s 1 0) (get_or s 2 0))

-- Completeness: the decoder answers every scalar value whose encoding a text begins with.
second_is : (a b x y : ℕ) → least_second a ≡ x → greatest_second a ≡ y → x ≤ b → b ≤ y → second a b ≡ true
second_is a b x y l g h k = rw (l, g) (within_is x y b h k)

three_second : (n a b : ℕ) → a ≡ 0xE0 + n / 0x1000 → b ≡ 0x80 + n / 0x40 % 0x40 → 0x800 ≤ n → n < 0x10000 → Scalar n → second a b ≡ true
three_second n a b p q h k (low r) =
    ⊎_elim
    (λ (l : n < 0x1000). second_is a b 0xA0 0xBF (after_E0 a (omega arith)) (greatest_other a (omega arith) (omega arith)) (omega arith) (omega arith))
    (λ (l : 0x1000 ≤ n).
    ⊎_elim
    (λ (m : n < 0xD000).
    second_is a b 0x80 0xBF (least_other a (omega arith) (omega arith)) (greatest_other a (omega arith) (omega arith)) (omega arith) (omega arith))
    (λ (m : 0xD000 ≤ n). second_is a b 0x80 0x9F (least_other a (omega arith) (omega arith)) (after_ED a (omega arith)) (omega arith) (omega arith))
    (below_or_not n 0xD000))
    (below_or_not n 0x1000)
three_second n a b p q h k (high r o) =
    second_is a b 0x80 0xBF (least_other a (omega arith) (omega arith)) (greatest_other a (omega arith) (omega arith)) (omega arith) (omega arith)

four_second : (n a b : ℕ) → a ≡ 0xF0 + n / 0x40000 → b ≡ 0x80 + n / 0x1000 % 0x40 → 0x10000 ≤ n → n < 0x110000 → second a b ≡ true
four_second n a b p q h k =
    ⊎_elim
    (λ (l : n < 0x40000). second_is a b 0x90 0xBF (after_F0 a (omega arith)) (greatest_other a (omega arith) (omega arith)) (omega arith) (omega arith))
    (λ (l : 0x40000 ≤ n).
    ⊎_elim
    (λ (m : n < 0x100000).
    second_is a b 0x80 0xBF (least_other a (omega arith) (omega arith)) (greatest_other a (omega arith) (omega arith)) (omega arith) (omega arith))
    (λ (m : 0x100000 ≤ n). second_is a b 0x80 0x8F (least_other a (omega arith) (omega arith)) (after_F4 a (omega arith)) (omega arith) (omega arith))
    (below_or_not n 0x100000))
    (below_or_not n 0x40000)

-- four digits of base 64 and what they make
digits_four : (n q r s b c d : ℕ) → n ≡ q * 0x40 + d → q ≡ r * 0x40 + c → r ≡ s * 0x40 + b → s * 0x40000 + b * 0x1000 + c * 0x40 + d ≡ n
digits_four n q r s b c d e f g = omega arith

low_bits : (x : ℕ) → (0x80 + x % 0x40) % 0x40 ≡ x % 0x40
low_bits x = omega arith

code_four : (n : ℕ) → n < 0x110000
    → (0xF0 + n / 0x40000) % 0x08 * 0x40000 + (0x80 + n / 0x1000 % 0x40) % 0x40 * 0x1000 + (0x80 + n / 0x40 % 0x40) % 0x40 * 0x40 + (0x80 + n % 0x40) % 0x40 ≡ n
code_four n h =
    let e : (0xF0 + n / 0x40000) % 0x08 ≡ n / 0x40000 = omega arith in
    rw (e, low_bits (n / 0x1000), low_bits (n / 0x40), low_bits n)
    (digits_four n (n / 0x40) (n / 0x1000) (n / 0x40000) (n / 0x1000 % 0x40) (n / 0x40 % 0x40) (n % 0x40) (omega arith) (omega arith) (omega arith))

scalar_most : (n : ℕ) → Scalar n → n < 0x110000
scalar_most n (low h) = omega arith
scalar_most n (high h k) = k

module _ (n : ℕ) (t : List ℕ) where
  complete_one : n < 0x80 → decode_first (encode n ++ t) ≡ Character n (length (encode n))
  unfolding decode_first
  complete_one h = rw (enc_one n h) (row_ascii n (get_or t 0 0) (get_or t 1 0) (get_or t 2 0) h)

  complete_two : 0x80 ≤ n → n < 0x800 → decode_first (encode n ++ t) ≡ Character n (length (encode n))
  unfolding decode_first
  complete_two h k =
      let a : ℕ = 0xC0 + n / 0x40 in
      let b : ℕ = 0x80 + n % 0x40 in
      let e : second a b ≡ true =
      second_is a b 0x80 0xBF (least_other a (omega arith) (omega arith)) (greatest_other a (omega arith) (omega arith)) (omega arith) (omega arith)
      in
      let m : a % 0x20 * 0x40 + b % 0x40 ≡ n = omega arith in
      rw (enc_two n h k) (row_two a b (get_or t 0 0) (get_or t 1 0) (omega arith) (omega arith) ∙ two_is a b e ∙ ap (λ (x : ℕ). Character x 2) m)

  complete_three : 0x800 ≤ n → n < 0x10000 → Scalar n → decode_first (encode n ++ t) ≡ Character n (length (encode n))
  unfolding decode_first
  complete_three h k s =
      let a : ℕ = 0xE0 + n / 0x1000 in
      let b : ℕ = 0x80 + n / 0x40 % 0x40 in
      let c : ℕ = 0x80 + n % 0x40 in
      let e : second a b ≡ true = three_second n a b refl refl h k s in
      let f : later c ≡ true = within_is 0x80 0xBF c (omega arith) (omega arith) in
      let m : a % 0x10 * 0x1000 + b % 0x40 * 0x40 + c % 0x40 ≡ n = omega arith in
      rw (enc_three n h k) (row_three a b c (get_or t 0 0) (omega arith) (omega arith) ∙ three_is a b c e f ∙ ap (λ (x : ℕ). Character x 3) m)

  complete_four : 0x10000 ≤ n → n < 0x110000 → decode_first (encode n ++ t) ≡ Character n (length (encode n))
  unfolding decode_first
  complete_four h k =
      let a : ℕ = 0xF0 + n / 0x40000 in
      let b : ℕ = 0x80 + n / 0x1000 % 0x40 in
      let c : ℕ = 0x80 + n / 0x40 % 0x40 in
      let d : ℕ = 0x80 + n % 0x40 in
      let e : second a b ≡ true = four_second n a b refl refl h k in
      let f : later c ≡ true = within_is 0x80 0xBF c (omega arith) (omega arith) in
      let g : later d ≡ true = within_is 0x80 0xBF d (omega arith) (omega arith) in
      let m : a % 0x08 * 0x40000 + b % 0x40 * 0x1000 + c % 0x40 * 0x40 + d % 0x40 ≡ n = code_four n k in
      rw (enc_four n h) (row_four a b c d (omega arith) (omega arith) ∙ four_is a b c d e f g ∙ ap (λ (x : ℕ). Character x 4) m)

  pub decode_complete : Scalar n → decode_first (encode n ++ t) ≡ Character n (length (encode n))
  decode_complete s =
      let top : n < 0x110000 = scalar_most n s in
      ⊎_elim complete_one
      (λ (h : 0x80 ≤ n).
      ⊎_elim (complete_two h)
      (λ (k : 0x800 ≤ n). ⊎_elim (λ (l : n < 0x10000). complete_three k l s) (λ (l : 0x10000 ≤ n). complete_four l top) (below_or_not n 0x10000))
      (below_or_not n 0x800))
      (below_or_not n 0x80)
