-- Bytes, and a number in so many of them, the highest first (STANDARD 1.1, 1.2).
use Rattle.std.specs.Prelude.{ℕ, zero, suc, ◌+◌, ◌*◌, ◌/◌, ◌%◌, ◌^◌, ◌<◌, List, [], ◌∷◌, length, get_or}

-- a list of bytes: each element is below 256 (1.1)
unfoldable pub Bytes : List ℕ → Type 0
Bytes s = (i : ℕ) → get_or s i 0 < 256

-- n in `width` bytes, the highest first, for an n below 256 ^ width (1.2)
unfoldable pub number_bytes : ℕ → ℕ → List ℕ
number_bytes zero n = []
number_bytes (suc width) n = n / 256 ^ width ∷ number_bytes width (n % 256 ^ width)

-- the number that bytes stand for, the highest first (1.2)
unfoldable pub number_of : List ℕ → ℕ
number_of [] = 0
number_of (b ∷ s) = b * 256 ^ length s + number_of s
