-- How a word is shown (STANDARD 5): plain, or in quotes with `\` before `"` and `\`.
use Rattle.std.specs.Prelude.{ℕ, Bool, true, false, cond, List, [], ◌∷◌, ◌++◌, eqb}
use Rattle.text.specs.Unicode.{encode_all}
use Rattle.text.specs.Decoding.{codes_in}
use Rattle.text.specs.Space.{is_white_space}
use Rattle.words.specs.Tokens.{quote, backslash}

-- a character that needs `\` before it (5.9)
unfoldable pub special : ℕ → Bool
special code = cond (eqb code quote) true (eqb code backslash)

-- a character for which a word stands in quotes: white space, `"` or `\` (5.8)
unfoldable pub quoting : ℕ → Bool
quoting code = cond (special code) true (is_white_space code)

-- no character is one (5.8)
unfoldable pub plain : List ℕ → Bool
plain [] = true
plain (code ∷ codes) = cond (quoting code) false (plain codes)

-- a character, with `\` before it where it needs one
abbrev pub escaped_code : ℕ → List ℕ
escaped_code code = cond (special code) (backslash ∷ code ∷ []) (code ∷ [])

-- (5.9)
unfoldable pub escaped : List ℕ → List ℕ
escaped [] = []
escaped (code ∷ codes) = escaped_code code ++ escaped codes

-- a word by its characters (5.8, 5.9)
unfoldable pub shown_codes : List ℕ → List ℕ
shown_codes codes = cond (plain codes) codes (quote ∷ (escaped codes ++ (quote ∷ [])))

-- and as a text (5.9)
unfoldable pub shown : List ℕ → List ℕ
shown w = encode_all (shown_codes (codes_in w))
