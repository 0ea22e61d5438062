-- Scalar values, their UTF-8 and well-formed text, as the Unicode Standard defines them (chapter 3) (STANDARD 1.4, 1.5, 12.12).
use Rattle.std.specs.Prelude.{ℕ, ◌+◌, ◌/◌, ◌%◌, ◌<◌, ◌≤◌, ◌≡◌, cond, List, [], ◌∷◌, ◌++◌, ltb}

-- a scalar value (D76): a code point up to 10FFFF that is no surrogate (1.4)
pub data Scalar : ℕ → Type 0 where
  low : {n : ℕ} → n < 0xD800 → Scalar n
  high : {n : ℕ} → 0xE000 ≤ n → n < 0x110000 → Scalar n

pub data Scalars : List ℕ → Type 0 where
  none : Scalars []
  more : {n : ℕ} {codes : List ℕ} → Scalar n → Scalars codes → Scalars (n ∷ codes)

-- UTF-8 of one scalar value (D92, Table 3-6): six bits to a byte, the first byte says how many follow (1.4)
unfoldable pub encode : ℕ → List ℕ
encode n =
    cond (ltb n 0x80) (n ∷ [])
    (cond (ltb n 0x800) ((0xC0 + n / 0x40) ∷ (0x80 + n % 0x40) ∷ [])
    (cond (ltb n 0x10000) ((0xE0 + n / 0x1000) ∷ (0x80 + n / 0x40 % 0x40) ∷ (0x80 + n % 0x40) ∷ [])
    ((0xF0 + n / 0x40000) ∷ (0x80 + n / 0x1000 % 0x40) ∷ (0x80 + n / 0x40 % 0x40) ∷ (0x80 + n % 0x40) ∷ [])))

-- the encodings one after the other (1.4)
unfoldable pub encode_all : List ℕ → List ℕ
encode_all [] = []
encode_all (n ∷ codes) = encode n ++ encode_all codes

-- a text is well-formed if it is a concatenation of encodings of scalar values (1.5)
pub record WellFormed (s : List ℕ) : Type 0 where
  pub codes : List ℕ
  pub scalars : Scalars codes
  pub encoded : s ≡ encode_all codes
