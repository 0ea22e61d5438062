-- What a redraw of the line writes (STANDARD 2), and what `clear_line_and_redraw` answers and leaves.
use Rattle.std.specs.Prelude.{ℕ, zero, suc, ◌-◌, min, ◌≡◌, cond, List, [], ◌∷◌, ◌++◌, ltb, length, Ok, Err, Result}
use Rattle.buffer.specs.Write.{over_if_fits}
use Rattle.screen.specs.Decimal.{decimal}
use Rattle.buffer.specs.declared.show.TooShort.{TooShort}

-- CR, then ESC `[2K`: the cursor goes to the left, and the line is cleared (2.19)
abbrev pub clear_line : List ℕ
clear_line = 0x0D ∷ 0x1B ∷ 0x5B ∷ 0x32 ∷ 0x4B ∷ []

-- ESC `[`nD: the cursor goes n places back; nothing for none (2.19)
unfoldable pub move_back : ℕ → List ℕ
move_back zero = []
move_back (suc n) = 0x1B ∷ 0x5B ∷ (decimal (suc n) ++ (0x44 ∷ []))

-- the bytes of a redraw; a cursor at the content's end or past it has nothing after it (2.19, 2.21)
unfoldable pub redraw : List ℕ → List ℕ → ℕ → List ℕ
redraw prompt content cursor = clear_line ++ (prompt ++ (content ++ move_back (length content - cursor)))

-- the greatest number of 64 bits: a length needed that is above it is given as this one (10.18)
abbrev pub greatest_number : ℕ
greatest_number = 0xFFFFFFFFFFFFFFFF

-- the answer for n bytes and a buffer of `room` bytes (10.18)
unfoldable pub room_answer : ℕ → ℕ → Result ℕ TooShort
room_answer n room = cond (ltb room n) (Err (record { needed = min n greatest_number })) (Ok n)

pub record Redraw (prompt content : List ℕ) (cursor : ℕ) (out : List ℕ) (r : Result ℕ TooShort) (left : List ℕ) : Type 0 where
  pub answer : r ≡ room_answer (length (redraw prompt content cursor)) (length out)
  pub bytes : left ≡ over_if_fits (redraw prompt content cursor) out

-- the refusal's number (STANDARD 10.1; 0: none), and the value that goes with it
abbrev pub number : Result ℕ TooShort → ℕ
number (Ok n) = 0
number (Err refusal) = 9

abbrev pub value : Result ℕ TooShort → ℕ
value (Ok n) = n
value (Err refusal) = refusal.needed
