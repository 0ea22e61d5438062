-- Worked examples of the standard's session: the frame and the lines that stand there, byte for byte.
use Rattle.std.specs.Prelude.{Ok, Err}
use Prim.Native.Nat.{ℕ}
use mathlib.Core.Path.{◌≡◌, refl}
use mathlib.Core.List.{List, [], ◌∷◌}
use Rattle.buffer.specs.Numbers.{number_bytes}
use Rattle.frame.specs.Text.{text_of}
use Rattle.frame.specs.Framed.{frame_of}
use Rattle.frame.specs.Hex.{digit_of, hex_of, digit_value, pair_of, unhex, first_bad}
use Rattle.frame.specs.House.{LF, house_line, ends_in_lF, digits_of, read_digits, read_house}
use Rattle.frame.specs.declared.house.HouseRefusal.TheVariants.{NoDigit}

-- the report of `log`, frame 11 with the path word
log : List ℕ
log = frame_of 0x11 (0x6c ∷ 0x6f ∷ 0x67 ∷ [])

report : log ≡ 0x11 ∷ 0x00 ∷ 0x03 ∷ 0x6c ∷ 0x6f ∷ 0x67 ∷ []
unfolding log frame_of text_of number_bytes
report = refl

-- the key line `206c6f670d`, written, read, and refused in upper case
keys : List ℕ
keys = 0x20 ∷ 0x6c ∷ 0x6f ∷ 0x67 ∷ 0x0d ∷ []

line : List ℕ
line = 50 ∷ 48 ∷ 54 ∷ 99 ∷ 54 ∷ 102 ∷ 54 ∷ 55 ∷ 48 ∷ 100 ∷ LF ∷ []

written : house_line keys ≡ line
unfolding keys line house_line hex_of digit_of
written = refl

read : read_house line 5 ≡ Ok 5
unfolding line read_house ends_in_lF digits_of read_digits first_bad digit_value
read = refl

bytes : unhex (digits_of line) ≡ keys
unfolding keys line digits_of unhex pair_of digit_value
bytes = refl

upper : read_house (50 ∷ 48 ∷ 54 ∷ 67 ∷ LF ∷ []) 5 ≡ Err (NoDigit 3)
unfolding read_house ends_in_lF digits_of read_digits first_bad digit_value
upper = refl
