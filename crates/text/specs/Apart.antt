-- A text taken apart at white space: trimmed, blank, and the words between white space (STANDARD 1.8 to 1.11, 5.2, 9.2).
use Rattle.std.specs.Prelude.{ℕ, ◌+◌, Bool, true, false, cond, List, [], ◌∷◌, ◌++◌, map, length, Some, None, Option}
use Rattle.std.specs.Bool.{beq}
use Rattle.buffer.specs.declared.lend.Span.{Span}
use Rattle.text.specs.Decoding.{Piece, character, stray, pieces_of, bytes_all}
use Rattle.text.specs.Space.{is_white_space}

-- a stray byte is no white space (1.11)
abbrev pub white : Piece → Bool
white (character code) = is_white_space code
white (stray b) = false

-- the run that pieces begin with, of white space or of anything else, and what lies after it
unfoldable pub run_of : Bool → List Piece → List Piece
run_of is [] = []
run_of is (p ∷ pieces) = cond (beq (white p) is) (p ∷ run_of is pieces) []

unfoldable pub after_run : Bool → List Piece → List Piece
after_run is [] = []
after_run is (p ∷ pieces) = cond (beq (white p) is) (after_run is pieces) (p ∷ pieces)

-- without the white space that pieces end with
abbrev pub before_end : Piece → List Piece → List Piece
before_end p [] = cond (white p) [] (p ∷ [])
before_end p (q ∷ pieces) = p ∷ q ∷ pieces

-- (1.9)
unfoldable pub trim_end : List Piece → List Piece
trim_end [] = []
trim_end (p ∷ pieces) = before_end p (trim_end pieces)

-- without the white space at either end (1.9)
unfoldable pub trimmed : List ℕ → List ℕ
trimmed s = bytes_all (trim_end (after_run true (pieces_of s)))

-- nothing but white space (1.8)
unfoldable pub all_white : List Piece → Bool
all_white [] = true
all_white (p ∷ pieces) = cond (white p) (all_white pieces) false

-- (1.8)
unfoldable pub blank : List ℕ → Bool
blank s = all_white (pieces_of s)

-- a word that ends stands before the words that follow; an empty one does not exist (1.10, 5.2)
abbrev pub unless_empty : {A : Type 0} → List A → List (List A) → List (List A)
unless_empty [] words = words
unless_empty (a ∷ word) words = (a ∷ word) ∷ words

-- the words between white space: `word` has been read and not yet ended (1.10)
unfoldable pub words_after : List Piece → List Piece → List (List Piece)
words_after word [] = unless_empty word []
words_after word (p ∷ pieces) = cond (white p) (unless_empty word (words_after [] pieces)) (words_after (word ++ (p ∷ [])) pieces)

-- (1.10, 9.2)
unfoldable pub words_between : List ℕ → List (List ℕ)
words_between s = map bytes_all (words_after [] (pieces_of s))

abbrev pub word_at : ℕ → List Piece → Option Span
word_at start [] = None
word_at start (p ∷ word) = Some (record { start = start; end = start + length (bytes_all (p ∷ word)) })

-- where the next word lies, given what is left of the text after its first `at` bytes: after the white space there, up to the next
unfoldable pub next_word : ℕ → List ℕ → Option Span
next_word at s =
    word_at (at + length (bytes_all (run_of true (pieces_of s)))) (run_of false (after_run true (pieces_of s)))
