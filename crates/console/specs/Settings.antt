-- The words that the program is started with (STANDARD 11.17): none, or one that says how keys are read.
use Rattle.std.specs.Prelude.{ℕ, cond, List, [], ◌∷◌, ltb, leb, length, Option, Some, None}
use Rattle.buffer.specs.Ascii.{ascii}
use Rattle.buffer.specs.Compare.{same_bytes}
use Rattle.keys.specs.declared.standing.Profile.{Profile}
use Rattle.keys.specs.declared.standing.Profile.TheVariants.{Rust, Ecma48}

-- the two words that are taken
abbrev pub keys_rust : List ℕ
keys_rust = ascii "keys=rust"

abbrev pub keys_ecma48 : List ℕ
keys_ecma48 = ascii "keys=ecma-48"

-- what one word chooses; none where it is refused (2.23, 11.17)
unfoldable pub setting_of : List ℕ → Option Profile
setting_of word = cond (same_bytes word keys_rust) (Some Rust) (cond (same_bytes word keys_ecma48) (Some Ecma48) None)

-- what the words choose: without any, keys are read as the original reads them (2.23, 11.17)
abbrev pub chosen : List (List ℕ) → Option Profile
chosen [] = Some Rust
chosen (word ∷ []) = setting_of word
chosen (word ∷ another ∷ words) = None

-- the same by the count, the program's own name among the words, and by what is read of the first
unfoldable pub choice_of : ℕ → List ℕ → Option Profile
choice_of count word = cond (leb count 1) (Some Rust) (cond (ltb 2 count) None (setting_of word))

-- room for a word, and what is read of the first: nothing where there is none, or where it is longer
abbrev pub word_room : ℕ
word_room = 32

abbrev pub read_of : List (List ℕ) → List ℕ
read_of [] = []
read_of (word ∷ words) = cond (leb (length word) word_room) word []
