-- The greatest byte of a byte string.
use Rattle.std.specs.Prelude.{ℕ, max, List, [], ◌∷◌}

-- the greatest element, 0 if there is none
unfoldable pub greatest : List ℕ → ℕ
greatest [] = 0
greatest (x ∷ s) = max x (greatest s)
