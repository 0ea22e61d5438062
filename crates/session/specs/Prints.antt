-- What a session prints (STANDARD 11): frames 22, 21, 23 and 2F, a house line each.
use Rattle.std.specs.Prelude.{ℕ, ◌/◌, ◌%◌, Bool, true, false, List, [], ◌∷◌, ◌++◌}
use Rattle.frame.specs.House.{house_line}
use Rattle.buffer.specs.Ascii.{ascii}
use Rattle.image.specs.Frames.{Frame}
use Rattle.message.specs.Messages.{goodbye}
use Rattle.editor.specs.Turns.{Kind, shows, enters, drops, Turn, line_feed}
use Rattle.shell.specs.Lines.{Said, silence, text, farewell, handed, said_of}

-- 22 screen bytes, 21 handler and report, 23 exit, 2F a bad line with its number (11.4)
pub data Printed : Type 0 where
  screen : (bytes : List ℕ) → Printed
  handler : (number : ℕ) (report : List ℕ) → Printed
  exit : Printed
  bad_line : (number : ℕ) → Printed

-- a number in 16 bits, high byte first (1.2, 11.4)
unfoldable pub wide : ℕ → List ℕ
wide n = n / 256 % 256 ∷ n % 256 ∷ []

-- (11.4)
unfoldable pub frame_of : Printed → List ℕ
frame_of (screen bytes) = 0x22 ∷ bytes
frame_of (handler number report) = 0x21 ∷ (wide number ++ report)
frame_of exit = 0x23 ∷ []
frame_of (bad_line number) = 0x2F ∷ wide number

-- one frame a line (11.4)
unfoldable pub lines_of : List Printed → List ℕ
lines_of [] = []
lines_of (p ∷ l) = house_line (frame_of p) ++ lines_of l

-- a key, a message or a prompt that writes any bytes prints one 22 (11.5)
unfoldable pub shown : List ℕ → List Printed
shown [] = []
shown (b ∷ bytes) = screen (b ∷ bytes) ∷ []

-- without the `fs` feature (2.5, 11.2)
unfoldable pub prompt : List ℕ
prompt = ascii "axvisor:$ "

-- what a line that was run prints, and the prompt after the command; exit ends the session (2.9, 11.6)
unfoldable pub answered : Said → List Printed
answered silence = shown prompt
answered (text number bytes) = shown bytes ++ shown prompt
answered farewell = shown goodbye ++ (exit ∷ [])
answered (handed number report) = handler number report ∷ shown prompt

-- (11.6, 11.11)
unfoldable pub leaves : Said → Bool
leaves silence = false
leaves (text number bytes) = false
leaves farewell = true
leaves (handed number report) = false

-- what a key prints under the frames of a tree: at Enter the line feed, then what the line says (11.2, 11.5, 11.6)
abbrev pub turn_prints : List Frame → Turn → Kind → List Printed
turn_prints frames t shows = shown t.screen
turn_prints frames t enters = shown line_feed ++ answered (said_of frames t.submitted)
turn_prints frames t drops = []

-- (11.5)
unfoldable pub key_prints : List Frame → Turn → List Printed
key_prints frames t = turn_prints frames t t.kind

-- whether it is the last
abbrev pub turn_ends : List Frame → Turn → Kind → Bool
turn_ends frames t shows = false
turn_ends frames t enters = leaves (said_of frames t.submitted)
turn_ends frames t drops = false

-- (11.6)
unfoldable pub key_ends : List Frame → Turn → Bool
key_ends frames t = turn_ends frames t t.kind
