-- Worked examples: the places and the number of frames of an image of a node and a flag, and of one that ends in a byte that begins no frame.
use Prim.Native.Nat.{ℕ}
use mathlib.Core.Path.{◌≡◌, refl}
use mathlib.Core.List.{List, [], ◌∷◌, ◌++◌}
use lib.ListN.{length}
use Rattle.image.specs.Reading.{span, perhaps_in, node_lengths, definition_lengths, node_first, option_first, flag_first, head_first, node_in, option_in, flag_in, read_first}
use Rattle.tree.specs.Images.{items_from, items, frames_in, frames_of}
use Rattle.reader.specs.Places.{next_place}

-- node `a`, without a handler, a description and a usage; its flag `b`, without a short, a long and a description
abbrev two : List ℕ
two = 1 ∷ 0 ∷ 0 ∷ 0 ∷ 1 ∷ 0x61 ∷ 0 ∷ 0xff ∷ 3 ∷ 0 ∷ 1 ∷ 0x62 ∷ 0xff ∷ 0 ∷ []

pub places : (next_place two 0 ≡ 8) × (next_place two 8 ≡ 14) × (next_place two 14 ≡ 14) × (next_place two 99 ≡ 99) × (next_place (two ++ 4 ∷ []) 14 ≡ 14)
unfolding next_place span node_lengths definition_lengths node_first option_first flag_first head_first
places = (refl, refl, refl, refl, refl)

pub counts : (length (frames_of []) ≡ 0) × (length (frames_of two) ≡ 2) × (length (frames_of (two ++ 4 ∷ [])) ≡ 2)
unfolding span perhaps_in node_lengths definition_lengths node_first option_first flag_first head_first node_in option_in flag_in read_first items_from items frames_in frames_of
counts = (refl, refl, refl)
