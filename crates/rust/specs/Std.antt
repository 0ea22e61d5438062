-- What the Rust takes from its std, on values: a `String` and a `&str` are their bytes, a `char` its code. What our definitions take from std too has one definition for both sides, and
-- stands here under the Rust's name; promises (SameAsRust, "what both sides share") has the law of each (STANDARD 1.3 to 1.10, 2.18, 12.2).
use Rattle.std.specs.Prelude.{ℕ, ◌-◌, Bool, true, false, cond, not, List, [], ◌∷◌, ◌++◌, length, take, replicate, ◌==◌}
use Rattle.std.proofs.Math.Option.{Option, none, some}
use Rattle.buffer.specs.Compare.{order, same_bytes}
use Rattle.text.specs.Unicode.{encode}
use Rattle.text.specs.Decoding.{codes_in, is_ill_formed}
use Rattle.text.specs.Space.{is_white_space}
use Rattle.text.specs.Apart.{trimmed, words_between}
use Rattle.frame.specs.Hex.{digit_of}
use Rattle.screen.specs.Decimal.{decimal}
use Rattle.buffer.specs.Ascii.{ascii}
use Rattle.table.specs.Map.{on_order}

-- if let Some(x) = .. { .. } else { .. }
abbrev pub if_some : {A B : Type 0} → Option A → (A → B) → B → B
if_some (some a) f other = f a
if_some none f other = other

-- == of strings is `same_bytes`; match a.cmp(b) { Less => .., Equal => .., Greater => .. }
abbrev pub by_cmp : {A : Type 0} → List ℕ → List ℕ → A → A → A → A
by_cmp a b less equal greater = on_order (order a b) less equal greater

-- .is_empty()
abbrev pub is_empty : {A : Type 0} → List A → Bool
is_empty [] = true
is_empty (x ∷ l) = false

-- whether str::from_utf8(bytes) is Ok
unfoldable pub is_utf8 : List ℕ → Bool
is_utf8 bytes = not (is_ill_formed bytes)

-- str::from_utf8(bytes).unwrap_or("") (2.18)
unfoldable pub utf8_or_empty : List ℕ → List ℕ
utf8_or_empty bytes = cond (is_utf8 bytes) bytes []

-- .chars(), char::is_whitespace, and the bytes of a char, as String::push and {ch} write it
abbrev pub chars_of : List ℕ → List ℕ
chars_of t = codes_in t

abbrev pub is_whitespace : ℕ → Bool
is_whitespace ch = is_white_space ch

abbrev pub utf8 : ℕ → List ℕ
utf8 ch = encode ch

-- .trim() and .split_whitespace()
abbrev pub trim : List ℕ → List ℕ
trim t = trimmed t

abbrev pub split_whitespace : List ℕ → List (List ℕ)
split_whitespace t = words_between t

-- .starts_with(..), .strip_prefix(..)
unfoldable pub starts_with : List ℕ → List ℕ → Bool
starts_with prefix t = same_bytes (take (length prefix) t) prefix

unfoldable pub strip_prefix : List ℕ → List ℕ → Option (List ℕ)
strip_prefix [] t = some t
strip_prefix (p ∷ prefix) [] = none
strip_prefix (p ∷ prefix) (b ∷ t) = cond (b == p) (strip_prefix prefix t) none

-- .join(" ")
unfoldable pub join : List (List ℕ) → List ℕ
join [] = []
join (w ∷ []) = w
join (w ∷ v ∷ words) = w ++ ascii " " ++ join (v ∷ words)

-- {} of a usize, and a digit of {:x}
abbrev pub display : ℕ → List ℕ
display n = decimal n

abbrev pub hex_digit : ℕ → ℕ
hex_digit v = digit_of v

-- {:<n}: spaces after a text up to n characters
unfoldable pub left_in : ℕ → List ℕ → List ℕ
left_in n t = t ++ replicate (n - length (chars_of t)) 0x20

-- println!(..): a text and a line feed
unfoldable pub println : List ℕ → List ℕ
println t = t ++ ascii "\n"
