-- What only contracts of inner calls cite. How a table holds a map: a number for each entry, in which the places of its key and its value are packed. A value lies in the words, a key in the
-- words (a long form, as typed) or in the image (a name, for a short one) (STANDARD 7.11).
use Rattle.std.specs.Prelude.{ℕ, zero, suc, ◌+◌, ◌*◌, ◌/◌, ◌%◌, ◌≤◌, ◌≡◌, List, [], ◌∷◌, ◌++◌, map, length, take, drop, Result, Ok, Err}
use Rattle.buffer.specs.Compare.{order}
use Rattle.table.specs.Map.{Map, on_order, put_within}
use Rattle.table.specs.declared.packing.Source.{Source}
use Rattle.table.specs.declared.packing.Source.TheVariants.{Words, Image}
use Rattle.table.specs.declared.sorted.Table.{Table}

-- n bytes of a text from a place on
abbrev pub part_of : List ℕ → ℕ → ℕ → List ℕ
part_of s start n = take n (drop start s)

-- the bit that says where a key lies
abbrev pub bit_of : Source → ℕ
bit_of Words = 0
bit_of Image = 1

abbrev pub source_of : List ℕ → List ℕ → Source → List ℕ
source_of words image Words = words
source_of words image Image = image

-- 13 bits for each number of the value's place, 16 for each of the key's, and above them that bit
unfoldable pub packed : ℕ → ℕ → ℕ → ℕ → ℕ → ℕ
packed bit key key_length value value_length =
    (((bit * 0x10000 + key) * 0x10000 + key_length) * 0x2000 + value) * 0x2000 + value_length

abbrev pub value_length : ℕ → ℕ
value_length e = e % 0x2000

abbrev pub value_start : ℕ → ℕ
value_start e = e / 0x2000 % 0x2000

abbrev pub key_length : ℕ → ℕ
key_length e = e / 0x2000 / 0x2000 % 0x10000

abbrev pub key_start : ℕ → ℕ
key_start e = e / 0x2000 / 0x2000 / 0x10000 % 0x10000

abbrev pub key_bit : ℕ → ℕ
key_bit e = e / 0x2000 / 0x2000 / 0x10000 / 0x10000

-- the slice that the key lies in
abbrev pub key_slice : List ℕ → List ℕ → ℕ → List ℕ
key_slice words image zero = words
key_slice words image (suc n) = image

-- (7.11)
unfoldable pub key_of : List ℕ → List ℕ → ℕ → List ℕ
key_of words image e = part_of (key_slice words image (key_bit e)) (key_start e) (key_length e)

unfoldable pub value_of : List ℕ → ℕ → List ℕ
value_of words e = part_of words (value_start e) (value_length e)

-- the map that the first n numbers of a table hold
unfoldable pub entries : List ℕ → List ℕ → ℕ → List ℕ → Map
entries words image n table = map (λ e. (key_of words image e, value_of words e)) (take n table)

unfoldable pub map_of : List ℕ → List ℕ → Table → Map
map_of words image table = entries words image table.count table.at

-- how many keys that are
unfoldable pub size_of : Table → ℕ
size_of table = length (take table.count table.at)

-- how many keys have room: names and longs of 32 options, or of 32 flags
abbrev pub capacity : ℕ
capacity = 64

-- a table in a lent slice, of which the first n entries count
abbrev pub tabled : ℕ → List ℕ → Table
tabled n at = record { count = n; at = at }

pub record Fit (n : ℕ) (at : List ℕ) : Type 0 where
  pub few : n ≤ capacity
  pub full : length at ≡ capacity

-- the map of a table in which the key and the value of an entry are put
abbrev pub put_entry : List ℕ → List ℕ → ℕ → Table → Map
put_entry words image e table = put_within capacity (key_of words image e) (value_of words e) (map_of words image table)

-- a table after an entry is put into it: the map with its key and value, in a slice that still fits
abbrev pub PutIn : List ℕ → List ℕ → ℕ → ℕ → List ℕ → ℕ → List ℕ → Type 0
PutIn words image n e table r left = (map_of words image (tabled r left) ≡ put_entry words image e (tabled n table)) × Fit r left

-- the place of the key, or as an error that of the first that is greater, where i keys precede the map
unfoldable pub seek_from : ℕ → List ℕ → Map → Result ℕ ℕ
seek_from i k [] = Err i
seek_from i k (e ∷ m) = on_order (order k e.0) (Err i) (Ok i) (seek_from (suc i) k m)

-- a list with one element more, at a place
abbrev pub opened : {A : Type 0} → ℕ → A → List A → List A
opened place e l = take place l ++ e ∷ drop place l
