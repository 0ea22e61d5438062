-- What only contracts of inner functions cite: what the code sees at a place, the length of a decoded character, how a letter begins, the ranges of White_Space, and a byte judged by the three before it.
use Rattle.std.specs.Prelude.{List, [], ◌∷◌, length, drop, get_or, ℕ, ◌-◌, max, Bool, true, cond, eqb, leb, ltb, Option, None, Some, ◌&&◌, ◌||◌}
use Rattle.text.specs.declared.apart.Seen.{Seen}
use Rattle.text.specs.Decoding.{Piece, bytes_of, least_second, greatest_second, within, on_decoded}
use Rattle.text.specs.Apart.{white}
use Rattle.text.specs.declared.utf8.Decoded.{Decoded}

-- what pieces begin with, as white space goes, and its length in bytes
abbrev pub seen_first : List Piece → Option Seen
seen_first [] = None
seen_first (p ∷ pieces) = Some (record { white = white p; length = length (bytes_of p) })

-- the length of a character
abbrev pub length_of : Decoded → Option ℕ
length_of d = on_decoded d (λ code n. Some n) None

-- the first bytes of the letters that have three
unfoldable pub letter_head : ℕ → Bool
letter_head a = cond (eqb a 0xE0) true (within 0xE4 0xEF a)

-- the code points of White_Space by their ranges
unfoldable pub in_ranges : ℕ → Bool
in_ranges code =
    leb 0x09 code && leb code 0x0D || eqb code 0x20 || eqb code 0x85 || eqb code 0xA0 || eqb code 0x1680
    || leb 0x2000 code && leb code 0x200A || eqb code 0x2028 || eqb code 0x2029 || eqb code 0x202F || eqb code 0x205F || eqb code 0x3000

-- 1 for a byte outside two bounds
unfoldable pub outside : ℕ → ℕ → ℕ → ℕ
outside least greatest x = cond (within least greatest x) 0 1

-- whether a character is not yet whole after the bytes c, b and a: a begins one, or b one of three bytes, or c one of four
unfoldable pub awaited : ℕ → ℕ → ℕ → Bool
awaited c b a = cond (leb 0xC2 a) true (cond (leb 0xE0 b) true (leb 0xF0 c))

-- 1 for a byte that cannot stand after the bytes c, b and a, if these are right
unfoldable pub misfit : ℕ → ℕ → ℕ → ℕ → ℕ
misfit c b a x = cond (awaited c b a) (outside (least_second a) (greatest_second a) x) (cond (ltb x 0x80) 0 (outside 0xC2 0xF4 x))

-- each byte of a text judged by the three before it; c, b and a stand before the text
unfoldable pub misfits : ℕ → ℕ → ℕ → List ℕ → List ℕ
misfits c b a [] = []
misfits c b a (x ∷ s) = misfit c b a x ∷ misfits b a x s

-- the bytes of a text from its fourth on, judged so
unfoldable pub misfits_in : List ℕ → List ℕ
misfits_in s = misfits (get_or s 0 0) (get_or s 1 0) (get_or s 2 0) (drop 3 s)

-- the end of a text, judged as a zero byte, which no character goes on with
unfoldable pub end_misfit : List ℕ → ℕ
end_misfit s = misfit (get_or s (length s - 3) 0) (get_or s (length s - 2) 0) (get_or s (length s - 1) 0) 0

-- 1 if a byte of a text or its end does not fit after c, b and a
unfoldable pub unfit : ℕ → ℕ → ℕ → List ℕ → ℕ
unfit c b a [] = misfit c b a 0
unfit c b a (x ∷ s) = max (misfit c b a x) (unfit b a x s)
