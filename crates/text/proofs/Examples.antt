-- Worked examples: the code points of the Unicode Standard's Table 3-4 in UTF-8, what Table 3-7 refuses, and a text taken apart.
use Rattle.std.specs.Prelude.{Some, None}
use Prim.Native.Nat.{ℕ}
use mathlib.Core.Path.{◌≡◌, refl}
use mathlib.Core.Bool.{false}
use mathlib.Core.List.{List, [], ◌∷◌, map}
use Rattle.text.specs.Unicode.{encode, encode_all}
use Rattle.text.specs.declared.utf8.Decoded.TheVariants.{IllFormed}
use Rattle.text.specs.Decoding.{least_second, greatest_second, within, decode_two, decode_three, decode_four, table, decode_first, pieces_from, pieces_of, bytes_all, codes_of, codes_in, letter, letter_first, well_formed_length}
use Rattle.text.specs.Space.{white_space, among, is_white_space}
use Rattle.text.specs.Inner.{outside, awaited, misfit, unfit}
use Rattle.text.specs.Apart.{after_run, trim_end, trimmed, all_white, blank, words_after, words_between}

-- U+004D, U+0430, U+4E8C and U+10302, encoded and decoded
codes : List ℕ
codes = 0x4D ∷ 0x430 ∷ 0x4E8C ∷ 0x10302 ∷ []

bytes : List ℕ
bytes = 0x4D ∷ 0xD0 ∷ 0xB0 ∷ 0xE4 ∷ 0xBA ∷ 0x8C ∷ 0xF0 ∷ 0x90 ∷ 0x8C ∷ 0x82 ∷ []

encoded : encode_all codes ≡ bytes
unfolding codes bytes encode_all encode
encoded = refl

decoded : codes_in bytes ≡ codes
unfolding codes bytes codes_in codes_of pieces_of pieces_from decode_first table decode_two decode_three decode_four within least_second greatest_second
decoded = refl

-- an overlong form of 00, of 7FF and of FFFF, a surrogate, what lies past 10FFFF, a byte that no text has, and a character cut off
bad_beginnings : map decode_first
    ((0xC0 ∷ 0x80 ∷ []) ∷ (0xE0 ∷ 0x9F ∷ 0xBF ∷ []) ∷ (0xF0 ∷ 0x8F ∷ 0xBF ∷ 0xBF ∷ []) ∷ (0xED ∷ 0xA0 ∷ 0x80 ∷ [])
    ∷ (0xF4 ∷ 0x90 ∷ 0x80 ∷ 0x80 ∷ []) ∷ (0xFF ∷ []) ∷ (0xE2 ∷ 0x82 ∷ []) ∷ [])
    ≡ IllFormed ∷ IllFormed ∷ IllFormed ∷ IllFormed ∷ IllFormed ∷ IllFormed ∷ IllFormed ∷ []
unfolding decode_first table decode_two decode_three decode_four within least_second greatest_second
bad_beginnings = refl

-- the letters U+00F6, U+09AD, U+8A9E and U+FFFD; and U+0085, U+3000, "a", U+10302 and a letter cut off, which are none
letters : map letter_first
    ((0xC3 ∷ 0xB6 ∷ []) ∷ (0xE0 ∷ 0xA6 ∷ 0xAD ∷ []) ∷ (0xE8 ∷ 0xAA ∷ 0x9E ∷ []) ∷ (0xEF ∷ 0xBF ∷ 0xBD ∷ []) ∷ [])
    ≡ Some 2 ∷ Some 3 ∷ Some 3 ∷ Some 3 ∷ []
unfolding letter_first letter decode_first table decode_two decode_three within least_second greatest_second
letters = refl

no_letters : map letter_first
    ((0xC2 ∷ 0x85 ∷ []) ∷ (0xE3 ∷ 0x80 ∷ 0x80 ∷ []) ∷ (0x61 ∷ []) ∷ (0xF0 ∷ 0x90 ∷ 0x8C ∷ 0x82 ∷ []) ∷ (0xC3 ∷ 0x61 ∷ []) ∷ [])
    ≡ None ∷ None ∷ None ∷ None ∷ None ∷ []
unfolding letter_first letter decode_first table decode_two decode_three decode_four within least_second greatest_second
no_letters = refl

-- the same text and the same bad beginnings, each byte judged by the three before it
all_fit : unfit 0 0 0 bytes ≡ 0
unfolding bytes unfit misfit outside awaited within least_second greatest_second
all_fit = refl

bad_unfit : map (unfit 0 0 0)
    ((0xC0 ∷ 0x80 ∷ []) ∷ (0xE0 ∷ 0x9F ∷ 0xBF ∷ []) ∷ (0xF0 ∷ 0x8F ∷ 0xBF ∷ 0xBF ∷ []) ∷ (0xED ∷ 0xA0 ∷ 0x80 ∷ [])
    ∷ (0xF4 ∷ 0x90 ∷ 0x80 ∷ 0x80 ∷ []) ∷ (0xFF ∷ []) ∷ (0xE2 ∷ 0x82 ∷ []) ∷ [])
    ≡ 1 ∷ 1 ∷ 1 ∷ 1 ∷ 1 ∷ 1 ∷ 1 ∷ []
unfolding unfit misfit outside awaited within least_second greatest_second
bad_unfit = refl

-- "a", NO-BREAK SPACE, "b" between a tab and a space: three well-formed bytes before FF; trimmed; two words; not blank
prefix_length : well_formed_length (0x61 ∷ 0xC2 ∷ 0xA0 ∷ 0xFF ∷ 0x62 ∷ []) ≡ 3
unfolding well_formed_length encode_all encode codes_in codes_of pieces_of pieces_from decode_first table decode_two within least_second greatest_second
prefix_length = refl

trimmed_text : trimmed (0x09 ∷ 0x61 ∷ 0xC2 ∷ 0xA0 ∷ 0x62 ∷ 0x20 ∷ []) ≡ 0x61 ∷ 0xC2 ∷ 0xA0 ∷ 0x62 ∷ []
unfolding trimmed trim_end after_run bytes_all encode pieces_of pieces_from decode_first table decode_two within least_second greatest_second is_white_space among white_space
trimmed_text = refl

two_words : words_between (0x09 ∷ 0x61 ∷ 0xC2 ∷ 0xA0 ∷ 0x62 ∷ 0x20 ∷ []) ≡ (0x61 ∷ []) ∷ (0x62 ∷ []) ∷ []
unfolding words_between words_after bytes_all encode pieces_of pieces_from decode_first table decode_two within least_second greatest_second is_white_space among white_space
two_words = refl

not_blank : blank (0x20 ∷ 0xFF ∷ []) ≡ false
unfolding blank all_white pieces_of pieces_from decode_first table decode_two within least_second greatest_second is_white_space among white_space
not_blank = refl
