-- The rules for a frame by itself: the limits of its fields (STANDARD 6.9).
use Rattle.std.specs.Prelude.{ℕ, Bool, true, false, cond, List, [], ◌∷◌, ltb, leb, eqb, length}
use Rattle.image.specs.Frames.{Perhaps, absent, present, Frame, node, option, flag}

abbrev pub both : Bool → Bool → Bool
both a b = cond a b false

-- a byte from `low` to 7E
abbrev pub is_shown : ℕ → ℕ → Bool
is_shown low b = both (leb low b) (leb b 0x7e)

unfoldable pub all_shown : ℕ → List ℕ → Bool
all_shown low [] = true
all_shown low (b ∷ t) = both (is_shown low b) (all_shown low t)

-- names and longs: 1 to 32 bytes of 21-7E (6.9)
unfoldable pub is_name : List ℕ → Bool
is_name t = both (leb 1 (length t)) (both (leb (length t) 32) (all_shown 0x21 t))

-- descriptions and usages: 0 to 96 bytes of 20-7E (6.9)
unfoldable pub is_note : List ℕ → Bool
is_note t = both (leb (length t) 96) (all_shown 0x20 t)

-- a short: 0 for none, or a byte of 21-7E (6.9)
unfoldable pub is_short : ℕ → Bool
is_short c = cond (eqb c 0) true (is_shown 0x21 c)

-- a text that may be missing obeys its rule if it is there
abbrev pub optionally : (List ℕ → Bool) → Perhaps → Bool
optionally rule absent = true
optionally rule (present t) = rule t

-- what options and flags have in common (6.9)
unfoldable pub definable : ℕ → List ℕ → Perhaps → List ℕ → Bool
definable short name long description =
    both (is_short short) (both (is_name name) (both (optionally is_name long) (is_note description)))

-- depth 0 to 7, a handler of 16 bits, required 0 or 1, and texts within their limits (6.9)
unfoldable pub fair : Frame → Bool
fair (node depth handler name description usage) =
    both (ltb handler 65536) (both (leb depth 7) (both (is_name name) (both (is_note description) (optionally is_note usage))))
fair (option required short name long description) = both (leb required 1) (definable short name long description)
fair (flag short name long description) = definable short name long description
