-- The same in steps: where a stream stands, what is still to be printed from there, and how far a step goes with room for so many bytes.
-- (STANDARD 11.10, 11.12, 11.13)
use Rattle.std.specs.Prelude.{ℕ, ◌+◌, ◌-◌, cond, List, [], ◌∷◌, ◌++◌, ltb, length}
use Rattle.keys.specs.declared.standing.Profile.{Profile}
use Rattle.session.specs.Prints.{Printed, bad_line, lines_of}
use Rattle.session.specs.Lines.{Standing, beginning, Course, Taking, grown, pressing, refused, take_line, press_key, press_keys, session}
use Rattle.session.specs.Sizes.{last_line, key_room}
use Rattle.stream.specs.Bytes.{closes, cut}

-- some bytes of a line have come; keys of the last line are still to be pressed; the session is at its end
pub data Stand : Type 0 where
  reads : (at : Standing) (held : List ℕ) → Stand
  waits : (at : Standing) (keys : List ℕ) → Stand
  closed : Stand

-- nothing has come, and keys are read as the profile has them (2.23)
abbrev pub start : Profile → Stand
start profile = reads (beginning profile) []

-- what is still to be printed, if these bytes are all that come
abbrev pub onward : Course → (Standing → List Printed) → List Printed
onward course further = cond course.ends course.prints (course.prints ++ further course.after)

-- (11.13)
unfoldable pub rest : Stand → List ℕ → List Printed
rest (reads at held) bytes = session at (cut held bytes)
rest (waits at keys) bytes = onward (press_keys at keys) (λ after. session after (cut [] bytes))
rest closed bytes = []

-- after a line: nothing is read past line 65,535 (11.12)
unfoldable pub after_line : Standing → Stand
after_line at = cond (ltb at.lines last_line) (reads at []) closed

-- a move: what it prints, and where the stream stands then
pub record Move : Type 0 where
  pub prints : List Printed
  pub after : Stand

abbrev pub printing : List Printed → Move → Move
printing before move = record { prints = before ++ move.prints; after = move.after }

-- how many bytes are printed so
abbrev pub size : List Printed → ℕ
size prints = length (lines_of prints)

-- keys are pressed one after the other, each with room for what a key may print (11.13)
unfoldable pub press_some : ℕ → Standing → List ℕ → Move
press_some room at [] = record { prints = []; after = after_line at }
press_some room at (byte ∷ keys) =
    cond (ltb room key_room) (record { prints = []; after = waits at (byte ∷ keys) })
    (cond (press_key at byte).ends (record { prints = (press_key at byte).prints; after = closed })
    (printing (press_key at byte).prints (press_some (room - size (press_key at byte).prints) (press_key at byte).after keys)))

-- a whole line: a frame of the tree, keys that are pressed, or a 2F and the end
abbrev pub move_by : ℕ → Taking → Move
move_by room (grown after) = record { prints = []; after = after_line after }
move_by room (pressing keys after) = press_some room after keys
move_by room (refused number) = record { prints = bad_line number ∷ []; after = closed }

unfoldable pub line_move : ℕ → Standing → List ℕ → Move
line_move room at line = move_by room (take_line at line)

-- a step: a move, and the bytes of the piece that it left
pub record Went : Type 0 where
  pub move : Move
  pub left : List ℕ

abbrev pub stays : Stand → List ℕ → Went
stays s left = record { move = record { prints = []; after = s }; left = left }

abbrev pub printed : List Printed → Went → Went
printed before went = record { move = printing before went.move; left = went.left }

-- bytes are taken while there is room for what a key may print, up to keys that wait or the session's end (11.13)
unfoldable pub take_some : ℕ → Stand → List ℕ → Went
take_some room s [] = stays s []
take_some room closed (byte ∷ bytes) = stays closed (byte ∷ bytes)
take_some room (waits at keys) (byte ∷ bytes) = stays (waits at keys) (byte ∷ bytes)
take_some room (reads at held) (byte ∷ bytes) =
    cond (ltb room key_room) (stays (reads at held) (byte ∷ bytes))
    (cond (closes (length held) byte)
    (let move : Move = line_move room at (held ++ (byte ∷ [])) in printed move.prints (take_some (room - size move.prints) move.after bytes))
    (take_some room (reads at (held ++ (byte ∷ []))) bytes))

-- keys that wait are pressed first
abbrev pub resume : ℕ → Stand → Move
resume room (reads at held) = record { prints = []; after = reads at held }
resume room (waits at keys) = press_some room at keys
resume room closed = record { prints = []; after = closed }

-- (11.13)
unfoldable pub step_by : ℕ → Stand → List ℕ → Went
step_by room s piece =
    let move : Move = resume room s in printed move.prints (take_some (room - size move.prints) move.after piece)

-- at the input's end: a line without its end is a bad one (11.10)
abbrev pub last : Stand → List Printed
last (reads at []) = []
last (reads at (byte ∷ held)) = bad_line (at.lines + 1) ∷ []
last (waits at keys) = []
last closed = []
