-- From bytes in to bytes out (STANDARD 11): bytes are cut into lines, the lines are a session, and what it prints is a house line a frame.
use Rattle.std.specs.Prelude.{ℕ, ◌+◌, Bool, true, cond, List, [], ◌∷◌, ◌++◌, eqb, leb, length}
use Rattle.frame.specs.House.{LF}
use Rattle.keys.specs.declared.standing.Profile.{Profile}
use Rattle.session.specs.Prints.{lines_of}
use Rattle.session.specs.Lines.{beginning, session}

-- the longest house line has 1,024 digits and its LF: 1,026 bytes are none, wherever they end
abbrev pub line_room : ℕ
line_room = 1026

-- whether a byte ends the line that so many bytes have come of: it is the LF, or the last byte that there is room for (11.8)
unfoldable pub closes : ℕ → ℕ → Bool
closes held byte = cond (eqb byte LF) true (leb line_room (held + 1))

-- at the input's end: what has come of a line is a line without its end (11.10)
abbrev pub unended : List ℕ → List (List ℕ)
unended [] = []
unended (b ∷ held) = (b ∷ held) ∷ []

-- bytes cut into lines, where some bytes of the first have come before (11.8)
unfoldable pub cut : List ℕ → List ℕ → List (List ℕ)
cut held [] = unended held
cut held (byte ∷ bytes) =
    cond (closes (length held) byte) ((held ++ (byte ∷ [])) ∷ cut [] bytes) (cut (held ++ (byte ∷ [])) bytes)

-- (11.1, 11.8)
unfoldable pub lines_in : List ℕ → List (List ℕ)
lines_in bytes = cut [] bytes

-- all that `console` writes for all that it reads, with keys read as the profile has them (2.23, 11.1)
unfoldable pub console : Profile → List ℕ → List ℕ
console profile bytes = lines_of (session (beginning profile) (lines_in bytes))
