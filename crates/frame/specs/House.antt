-- House lines: one frame a line, in lower-case hexadecimal, ended by LF (STANDARD 6.1 to 6.3, 10.1, 10.17, 11.9).
use Rattle.std.specs.Prelude.{ℕ, ◌-◌, ◌/◌, ◌%◌, ◌≡◌, Bool, cond, List, [], ◌∷◌, ◌++◌, ltb, eqb, length, take, get_or, Ok, Err, Result}
use Rattle.buffer.specs.Write.{over, over_if_fits}
use Rattle.frame.specs.Hex.{hex_of, unhex, first_bad}
use Rattle.frame.specs.declared.house.HouseRefusal.{HouseRefusal}
use Rattle.frame.specs.declared.house.HouseRefusal.TheVariants.{Unended, Empty, TooLong, Odd, NoDigit, Short}
use Rattle.buffer.specs.declared.show.TooShort.{TooShort}

-- the byte that ends a line
abbrev pub LF : ℕ
LF = 10

-- (6.1)
unfoldable pub house_line : List ℕ → List ℕ
house_line bytes = hex_of bytes ++ (LF ∷ [])

-- whether the last byte is LF; an empty line has no last byte (6.2)
unfoldable pub ends_in_lF : List ℕ → Bool
ends_in_lF line = eqb (get_or line (length line - 1) 0) LF

-- what stands before the last byte (6.2)
unfoldable pub digits_of : List ℕ → List ℕ
digits_of line = take (length line - 1) line

-- the digits of a line that is read (6.2)
abbrev pub digits_limit : ℕ
digits_limit = 1024

-- what digits are, with room for so many bytes (6.2, 11.9)
unfoldable pub read_digits : List ℕ → ℕ → Result ℕ HouseRefusal
read_digits digits room =
    cond (eqb (length digits) 0) (Err Empty)
    (cond (ltb digits_limit (length digits)) (Err TooLong)
    (cond (eqb (length digits % 2) 1) (Err Odd)
    (cond (ltb (first_bad digits) (length digits)) (Err (NoDigit (first_bad digits)))
    (cond (ltb room (length digits / 2)) (Err (Short (length digits / 2)))
    (Ok (length digits / 2))))))

-- what a line is, with room for so many bytes (6.2)
unfoldable pub read_house : List ℕ → ℕ → Result ℕ HouseRefusal
read_house line room = cond (ends_in_lF line) (read_digits (digits_of line) room) (Err Unended)

-- only a frame is written
abbrev pub left_by : Result ℕ HouseRefusal → List ℕ → List ℕ → List ℕ
left_by (Ok n) bytes out = over bytes out
left_by (Err Unended) bytes out = out
left_by (Err Empty) bytes out = out
left_by (Err TooLong) bytes out = out
left_by (Err Odd) bytes out = out
left_by (Err (NoDigit place)) bytes out = out
left_by (Err (Short needed)) bytes out = out

-- what reading a line leaves in the buffer
unfoldable pub house_leaves : List ℕ → List ℕ → List ℕ
house_leaves line out = left_by (read_house line (length out)) (unhex (digits_of line)) out

pub record HouseRead (line out : List ℕ) (r : Result ℕ HouseRefusal) (left : List ℕ) : Type 0 where
  pub answer : r ≡ read_house line (length out)
  pub bytes : left ≡ house_leaves line out

-- what writing a line answers, with that much room (6.3)
unfoldable pub write_house : List ℕ → ℕ → Result ℕ TooShort
write_house bytes room =
    cond (ltb room (length (house_line bytes))) (Err (record { needed = length (house_line bytes) })) (Ok (length (house_line bytes)))

-- (6.3)
pub record HouseWritten (frame out : List ℕ) (r : Result ℕ TooShort) (left : List ℕ) : Type 0 where
  pub answer : r ≡ write_house frame (length out)
  pub bytes : left ≡ over_if_fits (house_line frame) out

-- The refusal's number in the standard (0: none), and the value that goes with it. A buffer that is too short is 9, with the length needed. The faults of a line have no number in the
-- table of the standard: a line of no such form is the console's to answer, by a frame 2F with the line's number, which only the console knows. So 2F stands for each.
-- (10.1, 10.17)
abbrev pub number : Result ℕ HouseRefusal → ℕ
number (Ok n) = 0
number (Err Unended) = 0x2F
number (Err Empty) = 0x2F
number (Err TooLong) = 0x2F
number (Err Odd) = 0x2F
number (Err (NoDigit place)) = 0x2F
number (Err (Short needed)) = 9

-- a frame's length; where the first byte that is no digit stands (10.1, 10.17)
abbrev pub value : Result ℕ HouseRefusal → ℕ
value (Ok n) = n
value (Err Unended) = 0
value (Err Empty) = 0
value (Err TooLong) = 0
value (Err Odd) = 0
value (Err (NoDigit place)) = place
value (Err (Short needed)) = needed

-- (10.1)
abbrev pub line_number : Result ℕ TooShort → ℕ
line_number (Ok n) = 0
line_number (Err refusal) = 9

-- (10.1)
abbrev pub line_value : Result ℕ TooShort → ℕ
line_value (Ok n) = n
line_value (Err refusal) = refusal.needed
