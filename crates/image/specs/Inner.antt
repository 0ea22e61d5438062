-- What only contracts of inner functions cite: a definition within its limits as it is read.
use Rattle.std.specs.Prelude.{ℕ, Bool, List}
use Rattle.image.specs.Limits.{definable}
use Rattle.image.specs.declared.head.Lengths.{Lengths}
use Rattle.image.specs.Reading.{name_in, long_in, note_in}

-- whether a definition, whose first length byte stands at p, keeps its limits
unfoldable pub defined_in : List ℕ → ℕ → ℕ → Lengths → Bool
defined_in s p short texts = definable short (name_in s p texts) (long_in s p texts) (note_in s p texts)
