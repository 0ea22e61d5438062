-- How shown words are joined to a line: one space between them (STANDARD 5.10).
use Rattle.std.specs.Prelude.{ℕ, zero, suc, List, [], ◌∷◌, ◌++◌}

-- what stands before a text that n texts precede (5.10)
unfoldable pub gap_before : ℕ → List ℕ
gap_before zero = []
gap_before (suc n) = 0x20 ∷ []

-- texts that n texts precede
unfoldable pub joined_from : ℕ → List (List ℕ) → List ℕ
joined_from n [] = []
joined_from n (t ∷ texts) = gap_before n ++ (t ++ joined_from (suc n) texts)

-- (5.10)
unfoldable pub joined : List (List ℕ) → List ℕ
joined texts = joined_from 0 texts
