-- Where a session stands, what a line makes of it and prints, and a whole session (STANDARD 11).
use Rattle.std.specs.Prelude.{ℕ, ◌+◌, Bool, true, false, cond, List, [], ◌∷◌, ◌++◌, eqb, ltb, Ok, Err, Result}
use Rattle.frame.specs.House.{read_house, digits_of}
use Rattle.frame.specs.Hex.{unhex}
use Rattle.frame.specs.declared.house.HouseRefusal.{HouseRefusal}
use Rattle.frame.specs.declared.house.HouseRefusal.TheVariants.{Unended, Empty, TooLong, Odd, NoDigit, Short}
use Rattle.tree.specs.Images.{frames_of}
use Rattle.tree.specs.Growth.{takes}
use Rattle.keys.specs.declared.standing.Profile.{Profile}
use Rattle.editor.specs.Turns.{State, fresh_state, turn_of}
use Rattle.session.specs.Sizes.{last_line, frame_room}
use Rattle.session.specs.Prints.{Printed, bad_line, prompt, key_prints, key_ends}

-- what a house line is: a tree frame, keys after a 20, or of no such form (11.3)
pub data Form : Type 0 where
  tree : (frame : List ℕ) → Form
  keys : (bytes : List ℕ) → Form
  formless : Form

-- (11.1, 11.3, 11.9)
unfoldable pub form_of : List ℕ → Form
form_of [] = formless
form_of (kind ∷ bytes) = cond (eqb kind 0x20) (keys bytes) (tree (kind ∷ bytes))

-- every fault of a house line makes it one of no such form; a frame has at most 512 bytes (11.9)
abbrev pub form_by : Result ℕ HouseRefusal → List ℕ → Form
form_by (Ok n) bytes = form_of bytes
form_by (Err Unended) bytes = formless
form_by (Err Empty) bytes = formless
form_by (Err TooLong) bytes = formless
form_by (Err Odd) bytes = formless
form_by (Err (NoDigit place)) bytes = formless
form_by (Err (Short needed)) bytes = formless

-- (11.1)
unfoldable pub line_form : List ℕ → Form
line_form line = form_by (read_house line frame_room) (unhex (digits_of line))

-- where a session stands: the image so far, whether a frame 20 has come, the editor and its history, the lines read
pub record Standing : Type 0 where
  pub image : List ℕ
  pub keyed : Bool
  pub state : State
  pub lines : ℕ

-- keys are read as the profile has them, from the fresh state on (2.23, 11.2)
abbrev pub beginning : Profile → Standing
beginning profile = record { image = []; keyed = false; state = fresh_state profile; lines = 0 }

-- the same with one line more, and with what the line brings
abbrev pub with_image : Standing → List ℕ → Standing
with_image s image = record { image = image; keyed = s.keyed; state = s.state; lines = s.lines + 1 }

abbrev pub with_keys : Standing → Standing
with_keys s = record { image = s.image; keyed = true; state = s.state; lines = s.lines + 1 }

abbrev pub in_state : Standing → State → Standing
in_state s state = record { image = s.image; keyed = s.keyed; state = state; lines = s.lines }

-- what a line brings: a longer image, keys to be pressed, or a 2F with its number from 1, and the end
pub data Taking : Type 0 where
  grown : (after : Standing) → Taking
  pressing : (bytes : List ℕ) (after : Standing) → Taking
  refused : (number : ℕ) → Taking

-- a tree line holds one frame, and the image with it is well-formed; one that comes after a frame 20 is refused (11.1, 11.3, 11.9)
unfoldable pub take_form : Standing → Form → Taking
take_form s (tree frame) =
    cond s.keyed (refused (s.lines + 1))
    (cond (takes s.image frame) (grown (with_image s (s.image ++ frame)))
    (refused (s.lines + 1)))
take_form s (keys bytes) = pressing bytes (with_keys s)
take_form s formless = refused (s.lines + 1)

unfoldable pub take_line : Standing → List ℕ → Taking
take_line s line = take_form s (line_form line)

-- what a key or a line prints, and where the session stands after it if it goes on
pub record Course : Type 0 where
  pub prints : List Printed
  pub ends : Bool
  pub after : Standing

abbrev pub preceded : List Printed → Course → Course
preceded before course = record { prints = before ++ course.prints; ends = course.ends; after = course.after }

unfoldable pub press_key : Standing → ℕ → Course
press_key s byte =
    record {
      prints = key_prints (frames_of s.image) (turn_of prompt s.state byte);
      ends = key_ends (frames_of s.image) (turn_of prompt s.state byte);
      after = in_state s (turn_of prompt s.state byte).after;
    }

-- (11.3, 11.11)
unfoldable pub press_keys : Standing → List ℕ → Course
press_keys s [] = record { prints = []; ends = false; after = s }
press_keys s (byte ∷ bytes) =
    cond (press_key s byte).ends (press_key s byte) (preceded (press_key s byte).prints (press_keys (press_key s byte).after bytes))

-- (11.9)
unfoldable pub on_taking : Standing → Taking → Course
on_taking s (grown after) = record { prints = []; ends = false; after = after }
on_taking s (pressing bytes after) = press_keys after bytes
on_taking s (refused number) = record { prints = bad_line number ∷ []; ends = true; after = s }

-- (11.11)
unfoldable pub line_course : Standing → List ℕ → Course
line_course s line = on_taking s (take_line s line)

-- a session is the fold of its lines: nothing is read past its end, nor past line 65,535 (11.1, 11.7, 11.11, 11.12)
unfoldable pub session : Standing → List (List ℕ) → List Printed
session s [] = []
session s (line ∷ lines) =
    cond (ltb s.lines last_line)
    (cond (line_course s line).ends (line_course s line).prints
    ((line_course s line).prints ++ session (line_course s line).after lines))
    []
