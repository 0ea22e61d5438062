-- Byte strings compared (STANDARD 1.3, 6.13).
use Rattle.std.specs.Prelude.{ℕ, Bool, true, false, cond, List, [], ◌∷◌, ltb, eqb}
use Rattle.std.specs.declared.cmp.Ordering.{Ordering}
use Rattle.std.specs.declared.cmp.Ordering.TheVariants.{Less, Equal, Greater}

-- the order by bytes: the first byte that differs decides, and a prefix comes first (1.3, 6.13)
unfoldable pub order : List ℕ → List ℕ → Ordering
order [] [] = Equal
order [] (y ∷ b) = Less
order (x ∷ a) [] = Greater
order (x ∷ a) (y ∷ b) = cond (ltb x y) Less (cond (ltb y x) Greater (order a b))

-- byte for byte the same (1.3)
unfoldable pub same_bytes : List ℕ → List ℕ → Bool
same_bytes [] [] = true
same_bytes [] (y ∷ b) = false
same_bytes (x ∷ a) [] = false
same_bytes (x ∷ a) (y ∷ b) = cond (eqb x y) (same_bytes a b) false
