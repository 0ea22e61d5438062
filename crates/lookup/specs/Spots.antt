-- The first frame that passes a test, before any that ends the search: where its bytes begin.
use Rattle.std.specs.Prelude.{ℕ, ◌+◌, Bool, cond, List, [], ◌∷◌, length, drop, Some, None, Option}
use Rattle.std.proofs.Math.Option.{Option as Maybe, none, some}
use Rattle.image.specs.Frames.{Frame, encode_frame}
use Rattle.tree.specs.Images.{frames_of}

-- the same spot with n bytes more before it
abbrev pub shifted : ℕ → Option ℕ → Option ℕ
shifted n (Some k) = Some (n + k)
shifted n None = None

unfoldable pub place_of : (Frame → Bool) → (Frame → Bool) → List Frame → Option ℕ
place_of wanted ends [] = None
place_of wanted ends (f ∷ l) =
    cond (ends f) None (cond (wanted f) (Some 0) (shifted (length (encode_frame f)) (place_of wanted ends l)))

-- that frame itself
unfoldable pub first_of : (Frame → Bool) → (Frame → Bool) → List Frame → Maybe Frame
first_of wanted ends [] = none
first_of wanted ends (f ∷ l) = cond (ends f) none (cond (wanted f) (some f) (first_of wanted ends l))

-- from a place of an image on
unfoldable pub spot : (Frame → Bool) → (Frame → Bool) → List ℕ → ℕ → Option ℕ
spot wanted ends image at = shifted at (place_of wanted ends (frames_of (drop at image)))
