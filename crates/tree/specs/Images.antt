-- An image as frames, one after the other (STANDARD 6.4, 6.16, 6.23).
use Rattle.std.specs.Prelude.{ℕ, zero, suc, ◌-◌, List, [], ◌∷◌, ◌++◌}
use Rattle.image.specs.Frames.{Frame, encode_frame}
use Rattle.image.specs.Reading.{Read, read, broken, ended, read_first}

-- a frame, or bytes that are none (6.16)
pub data Item : Type 0 where
  whole : Frame → Item
  torn : Item

abbrev pub on_read : Read → (Frame → ℕ → List Item) → List Item
on_read (read f n) more = more f n
on_read broken more = torn ∷ []
on_read ended more = []

-- what bytes hold, with j of them still to be skipped; past bytes that are no frame nothing is read
unfoldable pub items_from : List ℕ → ℕ → List Item
items_from [] j = []
items_from (a ∷ s) zero = on_read (read_first (a ∷ s)) (λ f n. whole f ∷ items_from s (n - 1))
items_from (a ∷ s) (suc j) = items_from s j

-- (6.16)
unfoldable pub items : List ℕ → List Item
items s = items_from s 0

-- the frames before anything that is none
unfoldable pub frames_in : List Item → List Frame
frames_in [] = []
frames_in (whole f ∷ l) = f ∷ frames_in l
frames_in (torn ∷ l) = []

-- (6.23)
unfoldable pub frames_of : List ℕ → List Frame
frames_of s = frames_in (items s)

-- the image of frames: the frames joined (6.4)
unfoldable pub flat : List Frame → List ℕ
flat [] = []
flat (f ∷ l) = encode_frame f ++ flat l
