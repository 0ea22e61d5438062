-- A frame of one text: a byte for its kind, then the text after a length of two bytes (STANDARD 5.5, 8.1, 8.2).
use Rattle.std.specs.Prelude.{Option, Some, None, ℕ, List, [], ◌∷◌}
use Rattle.frame.specs.Text.{text_of, read_text}
use Rattle.frame.specs.declared.framed.Framed.{Framed}
use Rattle.frame.specs.declared.framed.Framed.TheVariants.{Frame, Broken, End}

-- (5.5, 8.1, 8.2)
unfoldable pub frame_of : ℕ → List ℕ → List ℕ
frame_of kind t = kind ∷ text_of 2 t

-- a kind with what was read after it
abbrev pub framed : ℕ → Option ℕ → Framed
framed kind (Some n) = Frame kind n
framed kind None = Broken

-- what the first bytes are: a whole frame, a broken one, or nothing
unfoldable pub frame_first : List ℕ → Framed
frame_first [] = End
frame_first (kind ∷ s) = framed kind (read_text 2 s)
