-- Worked examples of the messages, against what the Rust prints.
use mathlib.Core.Path.{◌≡◌, refl}
use mathlib.Core.List.{[], ◌∷◌, ◌++◌}
use Rattle.frame.specs.Hex.{digit_of}
use Rattle.buffer.specs.Ascii.{ascii}
use Rattle.message.specs.Messages.{message}
use Rattle.message.specs.Debug.{hex_digits, code_text, debug_byte, debug_bytes, unknown_help}
use Rattle.message.specs.declared.error.ParseError.TheVariants.{UnknownCommand, MissingValue, NoHandler}

messages :
    (message UnknownCommand (ascii "foo") ≡ ascii "Error: Unknown command 'foo'\nType 'help' to see available commands\n")
    × (message MissingValue (ascii "--cfg") ≡ ascii "Error: Option '--cfg' is missing a value\n")
    × (message NoHandler (ascii "vm start") ≡ ascii "Error: Command 'vm start' has no handler function\n")
unfolding ascii message
messages = (refl, refl, refl)

-- a quote, a backslash, 00, 01, 1F and 7F, and the two bytes of U+00E4
debug : unknown_help (0x61 ∷ 0x22 ∷ 0x5c ∷ 0x00 ∷ 0x01 ∷ 0x1f ∷ 0x7f ∷ 0xc3 ∷ 0xa4 ∷ [])
    ≡ ascii "Error: UnknownCommand(\"a\\\"\\\\\\0\\u{1}\\u{1f}\\u{7f}" ++ 0xc3 ∷ 0xa4 ∷ ascii "\")\n"
unfolding ascii digit_of hex_digits code_text debug_byte debug_bytes unknown_help
debug = refl
