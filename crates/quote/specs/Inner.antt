-- What only contracts of inner functions cite: the next good word, a quiet character, a character's bytes, and what measuring finds.
use Rattle.std.specs.Prelude.{ℕ, suc, Bool, false, cond, List, [], ◌∷◌, eqb, length, take, drop, Option, Some, None, Result, Ok, Err}
use Rattle.frame.specs.Framed.{frame_first}
use Rattle.words.specs.Tokens.{backslash}
use Rattle.frame.specs.Series.{on_frame}
use Rattle.quote.specs.Given.{good_word, listed, judge_words, Judged, bad, fine, on_judged}
use Rattle.text.specs.Decoding.{decode_first, on_decoded, codes_in, well_formed}
use Rattle.text.specs.declared.utf8.Decoded.{Decoded}
use Rattle.quote.specs.Shown.{special, quoting, plain, shown}
use Rattle.quote.specs.Answer.{quote_line}
use Rattle.quote.specs.declared.given.Item.{Item}

-- a word of n bytes: a good one with its length when it is shown
abbrev pub item_of : ℕ → List ℕ → Option Item
item_of n w = cond (good_word w) (Some (record { length = n; size = length (shown w) })) None

-- the good word that bytes begin with
unfoldable pub item_first : List ℕ → Option Item
item_first s = on_frame (frame_first s) (λ kind n. cond (eqb kind 0x14) (item_of n (take n (drop 3 s))) None) None

-- the length of a character that calls for no quotes
abbrev pub quiet_of : Decoded → Option ℕ
quiet_of d = on_decoded d (λ code n. cond (quoting code) None (Some n)) None

unfoldable pub quiet_first : List ℕ → Option ℕ
quiet_first s = quiet_of (decode_first s)

-- a well-formed word that is plain
unfoldable pub plain_word : List ℕ → Bool
plain_word w = cond (well_formed w) (plain (codes_in w)) false

-- how many characters need `\` before them
unfoldable pub specials : List ℕ → ℕ
specials [] = 0
specials (code ∷ codes) = cond (special code) (suc (specials codes)) (specials codes)

-- the bytes of a character, with `\` before them where it needs one
abbrev pub escaped_bytes : Bool → List ℕ → List ℕ
escaped_bytes is bytes = cond is (backslash ∷ bytes) bytes

-- what measuring finds: the length of the line, or the number of the first bad word
unfoldable pub line_size_of : List ℕ → Result ℕ ℕ
line_size_of words = on_judged (judge_words (listed words)) (λ n. Err n) (λ ws. Ok (length (quote_line ws)))

-- all words are good
abbrev pub IsFine : Judged → Type 0
IsFine (bad n) = ⊥
IsFine (fine ws) = Unit {0}
