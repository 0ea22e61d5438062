-- How the code holds where a stream stands, and what its calls answer and leave.
use Rattle.std.specs.Prelude.{ℕ, ◌+◌, ◌-◌, ◌<◌, ◌≤◌, ◌≡◌, Bool, true, false, cond, List, [], ◌∷◌, ltb, leb, eqb, length, take, drop}
use Rattle.buffer.specs.Write.{over}
use Rattle.frame.specs.House.{ends_in_lF}
use Rattle.tree.specs.Rules.{image_limit}
use Rattle.history.specs.Slots.{slots_size}
use Rattle.keys.specs.declared.standing.Profile.{Profile}
use Rattle.editor.specs.Answer.{state_of}
use Rattle.session.specs.Sizes.{last_line}
use Rattle.session.specs.Prints.{Printed, bad_line, lines_of}
use Rattle.session.specs.Lines.{Standing}
use Rattle.session.specs.Calls.{fresh, image_of}
use Rattle.session.specs.Held.{Holds}
use Rattle.session.specs.declared.standing.Session.{Session}
use Rattle.stream.specs.Bytes.{line_room}
use Rattle.stream.specs.Moves.{Stand, reads, waits, closed, size, Went, step_by}
use Rattle.stream.specs.declared.standing.Stream.{Stream}
use Rattle.stream.specs.declared.standing.Step.{Step}

-- a session with so many bytes of a line, with keys to be pressed, after a line, and at its end
abbrev pub reading : Session → ℕ → Stream
reading h held = record { session = h; held = held; next = 0; keys = 0; over = false }

abbrev pub waiting : Session → ℕ → ℕ → Stream
waiting h next keys = record { session = h; held = 0; next = next; keys = keys; over = false }

abbrev pub settled : Session → Stream
settled h = record { session = h; held = 0; next = 0; keys = 0; over = leb last_line h.lines }

abbrev pub stopped : Session → Stream
stopped h = record { session = h; held = 0; next = 0; keys = 0; over = true }

-- nothing has come, and keys are read as the profile has them (2.23)
abbrev pub starting : Profile → Stream
starting profile = reading (fresh profile) 0

-- no byte can be taken: keys are still to be pressed, or the session is at its end
unfoldable pub busy_with : Stream → Bool
busy_with s = cond s.over true (ltb s.next s.keys)

-- where a session stands, and a stream
abbrev pub standing_of : Session → List ℕ → List ℕ → Standing
standing_of h image slots =
    record { image = image_of h image; keyed = h.keyed; state = state_of h.editor h.history slots; lines = h.lines }

abbrev pub keys_of : List ℕ → ℕ → ℕ → List ℕ
keys_of line next keys = take (keys - next) (drop next line)

unfoldable pub stand_of : Stream → List ℕ → List ℕ → List ℕ → Stand
stand_of s line image slots =
    cond s.over closed
    (cond (ltb s.next s.keys) (waits (standing_of s.session image slots) (keys_of line s.next s.keys))
    (reads (standing_of s.session image slots) (take s.held line)))

-- a session that is held, and buffers of their lengths
pub record Ready (h : Session) (line image slots : List ℕ) : Type 0 where
  pub holds : Holds (standing_of h image slots) h image slots
  pub whole : length line ≡ line_room
  pub room : length image ≡ image_limit
  pub slot : length slots ≡ slots_size

-- a stream that the steps lead to: its numbers lie within the buffer for a line, and what is held of a line is not at its end
pub record Sound (s : Stream) (line image slots : List ℕ) : Type 0 where
  pub ready : Ready s.session line image slots
  pub held : s.held < line_room
  pub keys : s.keys ≤ line_room
  pub early : s.over ≡ false → ltb s.next s.keys ≡ false → s.session.lines < last_line
  pub unended : ends_in_lF (take s.held line) ≡ false

-- a step over a piece of the input, printed at the front
pub record Stepped (went : Went) (piece out : List ℕ) (r : Step) (line' image' slots' out' : List ℕ) : Type 0 where
  pub after : stand_of r.stream line' image' slots' ≡ went.move.after
  pub printed : r.printed ≡ size went.move.prints
  pub bytes : out' ≡ over (lines_of went.move.prints) out
  pub took : r.took ≤ length piece
  pub left : drop r.took piece ≡ went.left
  pub outs : length out' ≡ length out
  pub sound : Sound r.stream line' image' slots'

-- a step over a piece, from where a stream stands
abbrev pub Stepping : Stream → List ℕ → List ℕ → List ℕ → List ℕ → List ℕ → Step → List ℕ → List ℕ → List ℕ → List ℕ → Type 0
Stepping s piece line image slots out r line' image' slots' out' =
    Stepped (step_by (length out) (stand_of s line image slots) piece) piece out r line' image' slots' out'

-- at the input's end
unfoldable pub last_of : Stream → List Printed
last_of s = cond (busy_with s) [] (cond (eqb s.held 0) [] (bad_line (s.session.lines + 1) ∷ []))

pub record Finished (prints : List Printed) (out : List ℕ) (r : ℕ) (out' : List ℕ) : Type 0 where
  pub printed : r ≡ size prints
  pub bytes : out' ≡ over (lines_of prints) out
