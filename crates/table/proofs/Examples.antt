-- Worked examples: options put one after the other, a value replaced, a table that is full, and an entry taken apart.
use Prim.Native.Nat.{ℕ}
use mathlib.Core.Path.{◌≡◌, refl}
use mathlib.Core.Bool.{false}
use mathlib.Core.List.{List, [], ◌∷◌}
use mathlib.Core.Option.{some}
use Rattle.buffer.specs.Compare.{order, same_bytes}
use Rattle.table.specs.Map.{put, look, has, put_within}
use Rattle.table.specs.Inner.{bit_of, packed, key_of, value_of, entries}
use Rattle.table.specs.declared.packing.Source.TheVariants.{Words, Image}

-- the keys `c`, `cfg` and `d`, and the values `1` and `2`
c : List ℕ
c = 0x63 ∷ []

cfg : List ℕ
cfg = 0x63 ∷ 0x66 ∷ 0x67 ∷ []

d : List ℕ
d = 0x64 ∷ []

one : List ℕ
one = 0x31 ∷ []

two : List ℕ
two = 0x32 ∷ []

-- by bytes and not by length: `cfg` stands before `d`, and a prefix first
by_bytes : put c one (put d one (put cfg one [])) ≡ (c, one) ∷ (cfg, one) ∷ (d, one) ∷ []
unfolding put order c cfg d one
by_bytes = refl

-- the later value stands, in the same place
replaced : put cfg two (put d one (put cfg one [])) ≡ (cfg, two) ∷ (d, one) ∷ []
unfolding put order cfg d one two
replaced = refl

found : look cfg (put cfg two (put d one (put cfg one []))) ≡ some two
unfolding look put order same_bytes cfg d one two
found = refl

absent : has c (put d one (put cfg one [])) ≡ false
unfolding has put order same_bytes c cfg d one
absent = refl

-- in a table for one key a second one is not stored, and the first can still be replaced
full : put_within 1 d one (put cfg one []) ≡ (cfg, one) ∷ []
unfolding put_within put order cfg d one
full = refl

still : put_within 1 cfg two (put cfg one []) ≡ (cfg, two) ∷ []
unfolding put_within put order cfg one two
still = refl

-- the words hold `d`, `1` and `2`, the image `cfg`: `-c 2` is stored under the name in the image, `--d 1` as typed
words : List ℕ
words = 0x64 ∷ 0x31 ∷ 0x32 ∷ []

held : entries words cfg 2 (packed (bit_of Image) 0 3 2 1 ∷ packed (bit_of Words) 0 1 1 1 ∷ []) ≡ (cfg, two) ∷ (d, one) ∷ []
unfolding entries key_of value_of packed words cfg d one two
held = refl
