-- Bytes in lower-case hexadecimal (STANDARD 6.1, 6.2).
use Rattle.std.specs.Prelude.{Option, Some, None, ℕ, suc, ◌+◌, ◌-◌, ◌*◌, ◌/◌, ◌%◌, Bool, true, false, cond, List, [], ◌∷◌, ltb, leb, length}

-- the digit of a value below 16: '0' to '9' are the bytes 48 to 57, 'a' to 'f' are 97 to 102 (6.1)
unfoldable pub digit_of : ℕ → ℕ
digit_of v = cond (ltb v 10) (48 + v) (97 + (v - 10))

-- each byte as two digits, the high one first (6.1)
unfoldable pub hex_of : List ℕ → List ℕ
hex_of [] = []
hex_of (b ∷ s) = digit_of (b / 16) ∷ digit_of (b % 16) ∷ hex_of s

abbrev pub in_range : ℕ → ℕ → ℕ → Bool
in_range low high b = cond (leb low b) (leb b high) false

-- the value of a byte that is a digit; upper case is none (6.1)
unfoldable pub digit_value : ℕ → Option ℕ
digit_value b =
    cond (in_range 48 57 b) (Some (b - 48)) (cond (in_range 97 102 b) (Some (b - 97 + 10)) None)

abbrev pub is_digit : Option ℕ → Bool
is_digit (Some v) = true
is_digit None = false

abbrev pub value_of : Option ℕ → ℕ
value_of (Some v) = v
value_of None = 0

-- the byte that two digits stand for
unfoldable pub pair_of : ℕ → ℕ → ℕ
pair_of high low = value_of (digit_value high) * 16 + value_of (digit_value low)

-- the bytes that digits stand for, two each; an odd one at the end is left (6.2)
unfoldable pub unhex : List ℕ → List ℕ
unhex [] = []
unhex (high ∷ []) = []
unhex (high ∷ low ∷ s) = pair_of high low ∷ unhex s

-- how many digits stand before the first byte that is none (6.2)
unfoldable pub first_bad : List ℕ → ℕ
first_bad [] = 0
first_bad (b ∷ s) = cond (is_digit (digit_value b)) (suc (first_bad s)) 0

-- the place of that byte, if there is one
unfoldable pub bad_place : List ℕ → Option ℕ
bad_place s = cond (ltb (first_bad s) (length s)) (Some (first_bad s)) None
