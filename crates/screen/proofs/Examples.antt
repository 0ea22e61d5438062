-- Worked examples: the standard's session, and a cursor in the line, byte for byte.
use Rattle.std.specs.Prelude.{Ok, Err}
use Prim.Native.Nat.{ℕ}
use mathlib.Core.Path.{◌≡◌, refl}
use mathlib.Core.List.{List, [], ◌∷◌}
use Rattle.screen.specs.Decimal.{digits_in, decimal}
use Rattle.screen.specs.Redraw.{move_back, redraw, room_answer}

-- `axvisor:$ `
prompt : List ℕ
prompt = 0x61 ∷ 0x78 ∷ 0x76 ∷ 0x69 ∷ 0x73 ∷ 0x6f ∷ 0x72 ∷ 0x3a ∷ 0x24 ∷ 0x20 ∷ []

-- `log` typed, the cursor at the end: the third line of the session
log : redraw prompt (0x6c ∷ 0x6f ∷ 0x67 ∷ []) 3
    ≡ 0x0d ∷ 0x1b ∷ 0x5b ∷ 0x32 ∷ 0x4b ∷ 0x61 ∷ 0x78 ∷ 0x76 ∷ 0x69 ∷ 0x73 ∷ 0x6f ∷ 0x72 ∷ 0x3a ∷ 0x24 ∷ 0x20 ∷ 0x6c ∷ 0x6f ∷ 0x67 ∷ []
unfolding prompt redraw move_back
log = refl

-- no prompt and `log`, the cursor after the `l`: ESC `[2D` at the end
inside : redraw [] (0x6c ∷ 0x6f ∷ 0x67 ∷ []) 1 ≡ 0x0d ∷ 0x1b ∷ 0x5b ∷ 0x32 ∷ 0x4b ∷ 0x6c ∷ 0x6f ∷ 0x67 ∷ 0x1b ∷ 0x5b ∷ 0x32 ∷ 0x44 ∷ []
unfolding redraw move_back decimal digits_in
inside = refl

-- an empty line, and a cursor past the content
empty : redraw [] [] 7 ≡ 0x0d ∷ 0x1b ∷ 0x5b ∷ 0x32 ∷ 0x4b ∷ []
unfolding redraw move_back
empty = refl

nought : decimal 0 ≡ 0x30 ∷ []
unfolding decimal digits_in
nought = refl

ten : decimal 10 ≡ 0x31 ∷ 0x30 ∷ []
unfolding decimal digits_in
ten = refl

-- the longest move that the editor makes, `255`
whole : move_back 255 ≡ 0x1b ∷ 0x5b ∷ 0x32 ∷ 0x35 ∷ 0x35 ∷ 0x44 ∷ []
unfolding move_back decimal digits_in
whole = refl

-- the greatest number of 64 bits, `18446744073709551615`
most : decimal 0xFFFFFFFFFFFFFFFF
    ≡ 0x31 ∷ 0x38 ∷ 0x34 ∷ 0x34 ∷ 0x36 ∷ 0x37 ∷ 0x34 ∷ 0x34 ∷ 0x30 ∷ 0x37 ∷ 0x33 ∷ 0x37 ∷ 0x30 ∷ 0x39 ∷ 0x35 ∷ 0x35 ∷ 0x31 ∷ 0x36 ∷ 0x31 ∷ 0x35 ∷ []
unfolding decimal digits_in
most = refl

-- a buffer of the length needed, and one byte less
enough : room_answer 18 18 ≡ Ok 18
unfolding room_answer
enough = refl

short : room_answer 18 17 ≡ Err (record { needed = 18 })
unfolding room_answer
short = refl
