-- What only contracts of inner functions cite: a definition as it is read, and one frame of a list.
use Rattle.std.specs.Prelude.{ℕ, ◌+◌, ◌≡◌, cond, List, [], Option, Some, None}
use Rattle.image.specs.Reading.{Read, read, broken, ended, Small, span, name_in, long_in}
use Rattle.image.specs.declared.head.Lengths.{Lengths}
use Rattle.rows.specs.Rows.{shown_as, row_of, ends_list}
use Rattle.rows.specs.declared.row.Listing.{Listing}

-- the label of a definition as it is read, whose first length byte stands at p
unfoldable pub label_in : List ℕ → ℕ → ℕ → Lengths → List ℕ
label_in s p short texts = shown_as short (name_in s p texts) (long_in s p texts)

-- lengths that were read from a definition whose first length byte stands at p
pub record ReadLengths (p : ℕ) (texts : Lengths) : Type 0 where
  pub small : Small texts
  pub size : texts.size ≡ p + 3 + texts.name + span texts.other + texts.description

-- what was read at a place: its row, and its size, unless the list ends there
abbrev pub row_by : Listing → Read → List ℕ
row_by listing (read f n) = row_of listing f
row_by listing broken = []
row_by listing ended = []

abbrev pub size_by : Listing → Read → Option ℕ
size_by listing (read f n) = cond (ends_list listing f) None (Some n)
size_by listing broken = None
size_by listing ended = None
