-- What the parts of a slice are that are there for all places, and bytes that are all zero (STANDARD 3.11).
use Rattle.std.specs.Prelude.{ℕ, ◌-◌, ◌<◌, ◌≡◌, List, get_or, replicate, take, drop}

-- a byte that was read, 0 past the end
pub record ByteAt (s : List ℕ) (at r : ℕ) : Type 0 where
  pub byte : r ≡ get_or s at 0
  pub small : r < 256

-- n bytes of zero (3.11)
unfoldable pub zeros : ℕ → List ℕ
zeros n = replicate n 0

-- the part between two places
abbrev pub between : List ℕ → ℕ → ℕ → List ℕ
between s start end = take (end - start) (drop start s)
