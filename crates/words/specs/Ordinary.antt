-- Ordinary characters: those that are taken anywhere in a line.
use Rattle.std.specs.Prelude.{ℕ, Bool, false, cond, not, List, [], ◌∷◌, eqb, leb, Some, None, Option}
use Rattle.text.specs.Decoding.{letter_first}
use Rattle.words.specs.Tokens.{backslash, quote}

-- an ASCII character that is taken anywhere
unfoldable pub ordinary : ℕ → Bool
ordinary b = cond (leb b 0x20) false (cond (leb 0x7F b) false (cond (eqb b quote) false (not (eqb b backslash))))

-- the length of the ordinary character that a text begins with, an ASCII character or a letter; none if it begins with any other
unfoldable pub ordinary_first : List ℕ → Option ℕ
ordinary_first [] = None
ordinary_first (a ∷ s) = cond (ordinary a) (Some 1) (letter_first (a ∷ s))
