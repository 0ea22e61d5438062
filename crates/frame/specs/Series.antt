-- Frames of one text, one after the other: the texts that they hold, and the bytes of many put together (STANDARD 5.5).
use Rattle.std.specs.Prelude.{ℕ, zero, suc, ◌+◌, ◌≡◌, List, [], ◌∷◌, ◌++◌, length, take, drop}
use Rattle.frame.specs.Framed.{frame_of, frame_first}
use Rattle.frame.specs.declared.framed.Framed.{Framed}
use Rattle.frame.specs.declared.framed.Framed.TheVariants.{Frame, Broken, End}

abbrev pub on_frame : {A : Type 0} → Framed → (ℕ → ℕ → A) → A → A
on_frame (Frame kind n) f other = f kind n
on_frame Broken f other = other
on_frame End f other = other

-- the texts of bytes of which the first `skip` are read already, up to the end or to what is no frame
unfoldable pub texts_from : List ℕ → ℕ → List (List ℕ)
texts_from [] skip = []
texts_from (a ∷ s) (suc skip) = texts_from s skip
texts_from (a ∷ s) zero = on_frame (frame_first (a ∷ s)) (λ kind n. take n (drop 3 (a ∷ s)) ∷ texts_from s (2 + n)) []

-- (5.5)
unfoldable pub texts_in : List ℕ → List (List ℕ)
texts_in s = texts_from s 0

-- whole frames: what stands after them is read as if alone
unfoldable pub Whole : List ℕ → Type 0
Whole s = (more : List ℕ) → texts_in (s ++ more) ≡ texts_in s ++ texts_in more

-- the bytes of each, one after the other
unfoldable pub runs : {A : Type 0} → (A → List ℕ) → List A → List ℕ
runs f [] = []
runs f (x ∷ l) = f x ++ runs f l

-- frames up to the end: those of the texts that are read come to all the bytes
unfoldable pub AllFrames : List ℕ → Type 0
AllFrames s = (kind : ℕ) → length (runs (frame_of kind) (texts_in s)) ≡ length s
