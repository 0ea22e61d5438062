-- The decoder after Unicode's Table 3-7, and a text read as pieces: its characters, and the bytes that belong to none.
-- (STANDARD 1.4 to 1.6, 1.11; 3 of 10.1)
use Rattle.std.specs.Prelude.{ℕ, zero, suc, pred, ◌+◌, ◌*◌, ◌%◌, Bool, true, false, cond, List, [], ◌∷◌, ◌++◌, ltb, leb, eqb, length, get_or, Some, None, Option}
use Rattle.text.specs.declared.utf8.Decoded.{Decoded}
use Rattle.text.specs.declared.utf8.Decoded.TheVariants.{Character, IllFormed, End}
use Rattle.text.specs.Unicode.{encode, encode_all}

-- the least and the greatest second byte after a first byte (Table 3-7, its second column)
unfoldable pub least_second : ℕ → ℕ
least_second a = cond (eqb a 0xE0) 0xA0 (cond (eqb a 0xF0) 0x90 0x80)

unfoldable pub greatest_second : ℕ → ℕ
greatest_second a = cond (eqb a 0xED) 0x9F (cond (eqb a 0xF4) 0x8F 0xBF)

-- a byte from one bound to another
unfoldable pub within : ℕ → ℕ → ℕ → Bool
within least greatest b = cond (leb least b) (leb b greatest) false

abbrev pub second : ℕ → ℕ → Bool
second a b = within (least_second a) (greatest_second a) b

-- a byte after the second
abbrev pub later : ℕ → Bool
later b = within 0x80 0xBF b

-- a character if all its bytes are as the table has them
abbrev pub character_if : Bool → ℕ → ℕ → Decoded
character_if t code n = cond t (Character code n) IllFormed

-- the rows of two, three and four bytes: the code is the bits that Table 3-6 spreads over them
unfoldable pub decode_two : ℕ → ℕ → Decoded
decode_two a b = character_if (second a b) (a % 0x20 * 0x40 + b % 0x40) 2

unfoldable pub decode_three : ℕ → ℕ → ℕ → Decoded
decode_three a b c = cond (second a b) (character_if (later c) (a % 0x10 * 0x1000 + b % 0x40 * 0x40 + c % 0x40) 3) IllFormed

unfoldable pub decode_four : ℕ → ℕ → ℕ → ℕ → Decoded
decode_four a b c d =
    cond (second a b)
    (cond (later c) (character_if (later d) (a % 0x08 * 0x40000 + b % 0x40 * 0x1000 + c % 0x40 * 0x40 + d % 0x40) 4) IllFormed)
    IllFormed

-- Table 3-7 by its first byte. Of the four bytes the last may lie past the character; one past the end of the text is 0 and fits nowhere (1.4).
unfoldable pub table : ℕ → ℕ → ℕ → ℕ → Decoded
table a b c d =
    cond (ltb a 0x80) (Character a 1)
    (cond (ltb a 0xC2) IllFormed
    (cond (ltb a 0xE0) (decode_two a b)
    (cond (ltb a 0xF0) (decode_three a b c)
    (cond (ltb a 0xF5) (decode_four a b c d)
    IllFormed))))

-- the character that a text begins with (1.4)
unfoldable pub decode_first : List ℕ → Decoded
decode_first [] = End
decode_first (a ∷ s) = table a (get_or s 0 0) (get_or s 1 0) (get_or s 2 0)

-- a piece of a text: a character by its code, or one byte where no character begins (1.11)
pub data Piece : Type 0 where
  character : ℕ → Piece
  stray : ℕ → Piece

abbrev pub on_decoded : {A : Type 0} → Decoded → (ℕ → ℕ → A) → A → A
on_decoded (Character code n) f other = f code n
on_decoded IllFormed f other = other
on_decoded End f other = other

-- the characters from C0 to FFF and from 4000 to FFFF: most letters outside ASCII, and no white space
unfoldable pub letter : ℕ → Bool
letter code = cond (ltb code 0xC0) false (cond (ltb code 0x1000) true (cond (ltb code 0x4000) false (ltb code 0x10000)))

-- the length of the letter that a text begins with, if it begins with one
abbrev pub letter_of : Decoded → Option ℕ
letter_of d = on_decoded d (λ code n. cond (letter code) (Some n) None) None

unfoldable pub letter_first : List ℕ → Option ℕ
letter_first s = letter_of (decode_first s)

-- the pieces of a text of which the first `skip` bytes are read already
unfoldable pub pieces_from : List ℕ → ℕ → List Piece
pieces_from [] skip = []
pieces_from (a ∷ s) (suc skip) = pieces_from s skip
pieces_from (a ∷ s) zero =
    on_decoded (decode_first (a ∷ s)) (λ code n. character code ∷ pieces_from s (pred n)) (stray a ∷ pieces_from s 0)

-- (1.11)
unfoldable pub pieces_of : List ℕ → List Piece
pieces_of s = pieces_from s 0

-- the bytes that a piece stands for
abbrev pub bytes_of : Piece → List ℕ
bytes_of (character code) = encode code
bytes_of (stray b) = b ∷ []

unfoldable pub bytes_all : List Piece → List ℕ
bytes_all [] = []
bytes_all (p ∷ pieces) = bytes_of p ++ bytes_all pieces

-- the characters before the first stray byte, by their codes
unfoldable pub codes_of : List Piece → List ℕ
codes_of [] = []
codes_of (character code ∷ pieces) = code ∷ codes_of pieces
codes_of (stray b ∷ pieces) = []

-- (1.6)
unfoldable pub codes_in : List ℕ → List ℕ
codes_in s = codes_of (pieces_of s)

-- the length of the longest well-formed prefix (1.6)
unfoldable pub well_formed_length : List ℕ → ℕ
well_formed_length s = length (encode_all (codes_in s))

-- a well-formed text: its longest well-formed prefix is all of it (1.5)
unfoldable pub well_formed : List ℕ → Bool
well_formed text = eqb (well_formed_length text) (length text)

-- an ill-formed one: that prefix is shorter (1.5)
abbrev pub is_ill_formed : List ℕ → Bool
is_ill_formed text = ltb (well_formed_length text) (length text)
