-- The `Debug` text of a word (the standard): `"` and `\` get a `\`, 00 is `\0`, other controls `\u{1}` to `\u{7f}`; non-ASCII is copied.
-- (STANDARD 9.5, 9.6)
use Rattle.std.specs.Prelude.{ℕ, ◌/◌, ◌%◌, cond, List, [], ◌∷◌, ◌++◌, ltb, eqb}
use Rattle.frame.specs.Hex.{digit_of}
use Rattle.buffer.specs.Ascii.{ascii}

-- a number below 256 in hexadecimal digits, without a leading 0 (9.6)
unfoldable pub hex_digits : ℕ → List ℕ
hex_digits n = cond (ltb n 16) (digit_of n ∷ []) (digit_of (n / 16) ∷ digit_of (n % 16) ∷ [])

-- (9.6)
unfoldable pub code_text : ℕ → List ℕ
code_text n = ascii "\\u{" ++ hex_digits n ++ ascii "}"

-- TAB, LF and CR, which are white space and stand in no word, are those of the Rust (9.6)
unfoldable pub debug_byte : ℕ → List ℕ
debug_byte b =
    cond (eqb b 0x22) (ascii "\\\"")
    (cond (eqb b 0x5c) (ascii "\\\\")
    (cond (eqb b 0x00) (ascii "\\0")
    (cond (eqb b 0x09) (ascii "\\t")
    (cond (eqb b 0x0a) (ascii "\\n")
    (cond (eqb b 0x0d) (ascii "\\r")
    (cond (ltb b 0x20) (code_text b)
    (cond (eqb b 0x7f) (code_text b)
    (b ∷ []))))))))

unfoldable pub debug_bytes : List ℕ → List ℕ
debug_bytes [] = []
debug_bytes (b ∷ word) = debug_byte b ++ debug_bytes word

-- println!("Error: {:?}", e), where e is ParseError::UnknownCommand(word) (9.5)
unfoldable pub unknown_help : List ℕ → List ℕ
unknown_help word = ascii "Error: UnknownCommand(\"" ++ debug_bytes word ++ ascii "\")\n"
