-- How long a message is at most.
use Prim.Native.Nat.{ℕ, ◌+◌, ◌*◌, ◌/◌, ◌%◌, ◌≤◌}
use mathlib.Core.Bool.{cond}
use mathlib.Core.List.{List, [], ◌∷◌, ◌++◌}
use native.Mathlib.Omega.{arith}
use lib.Dec.{ltb, eqb}
use lib.ListN.{length, length-append}
use Rattle.frame.specs.Hex.{digit_of}
use Rattle.buffer.specs.Ascii.{ascii}
use Rattle.buffer.proofs.Inking.{cond_most}
use Rattle.message.specs.Messages.{before, after, message, ill_formed, goodbye, clear_screen}
use Rattle.message.specs.Debug.{hex_digits, code_text, debug_byte, debug_bytes, unknown_help}
use Rattle.message.specs.declared.error.ParseError.{ParseError}
use Rattle.message.specs.declared.error.ParseError.TheVariants.{UnknownCommand, UnknownOption, MissingValue, MissingRequired, NoHandler}

-- what stands around the text that a message names
around : (told : ParseError) → length (before told) + length (after told) ≤ 70
unfolding ascii
around UnknownCommand = omega arith
around UnknownOption = omega arith
around MissingValue = omega arith
around MissingRequired = omega arith
around NoHandler = omega arith

pub message_most : (told : ParseError) (text : List ℕ) → length (message told text) ≤ 70 + length text
unfolding message
message_most told text =
    let a = length-append (before told ++ text) (after told) in
    let b = length-append (before told) text in
    omega (arith, around told)

pub ill_formed_most : length ill_formed ≤ 70
unfolding ill_formed ascii
ill_formed_most = omega arith

pub goodbye_most : length goodbye ≤ 70
unfolding goodbye ascii
goodbye_most = omega arith

pub clear_most : length clear_screen ≤ 70
unfolding clear_screen ascii
clear_most = omega arith

-- the `Debug` text of a byte has at most six
code_most : (n : ℕ) → length (code_text n) ≤ 6
unfolding code_text hex_digits ascii
code_most n =
    let digits : List ℕ = cond (ltb n 16) (digit_of n ∷ []) (digit_of (n / 16) ∷ digit_of (n % 16) ∷ []) in
    let a = length-append (ascii "\\u{" ++ digits) (ascii "}") in
    let b = length-append (ascii "\\u{") digits in
    omega (arith, cond_most (ltb n 16) (digit_of n ∷ []) (digit_of (n / 16) ∷ digit_of (n % 16) ∷ []) 2 (omega arith) (omega arith))

byte_most : (b : ℕ) → length (debug_byte b) ≤ 6
unfolding debug_byte ascii
byte_most b =
    cond_most (eqb b 0x22) _ _ 6 (omega arith)
    (cond_most (eqb b 0x5c) _ _ 6 (omega arith)
    (cond_most (eqb b 0x00) _ _ 6 (omega arith)
    (cond_most (eqb b 0x09) _ _ 6 (omega arith)
    (cond_most (eqb b 0x0a) _ _ 6 (omega arith)
    (cond_most (eqb b 0x0d) _ _ 6 (omega arith)
    (cond_most (ltb b 0x20) _ _ 6 (code_most b)
    (cond_most (eqb b 0x7f) _ _ 6 (code_most b) (omega arith))))))))

debug_most : (word : List ℕ) → length (debug_bytes word) ≤ 6 * length word
unfolding debug_bytes
debug_most [] = omega arith
debug_most (b ∷ word) = let a = length-append (debug_byte b) (debug_bytes word) in omega (arith, byte_most b, debug_most word)

pub unknown_most : (word : List ℕ) → length (unknown_help word) ≤ 70 + 6 * length word
unfolding unknown_help ascii
unknown_most word =
    let a = length-append (ascii "Error: UnknownCommand(\"" ++ debug_bytes word) (ascii "\")\n") in
    let b = length-append (ascii "Error: UnknownCommand(\"") (debug_bytes word) in
    omega (arith, debug_most word)
