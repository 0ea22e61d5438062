-- What only contracts of inner functions cite: bytes put after those that are held, keys and lines printed at a place, bytes of a piece taken.
use Rattle.std.specs.Prelude.{ℕ, suc, ◌+◌, ◌-◌, ◌≤◌, ◌≡◌, Bool, true, false, cond, List, [], ◌∷◌, ◌++◌, length, take, drop}
use Rattle.buffer.specs.Write.{over_at}
use Rattle.session.specs.Prints.{bad_line, lines_of}
use Rattle.session.specs.Lines.{Standing, Course, press_key}
use Rattle.session.specs.Calls.{TakingLine}
use Rattle.session.specs.Held.{Holds}
use Rattle.session.specs.declared.standing.Session.{Session}
use Rattle.session.specs.declared.taking.Took.{Took}
use Rattle.stream.specs.Bytes.{closes as closes_at}
use Rattle.stream.specs.Moves.{Stand, reads, Move, size, press_some, line_move, Went, take_some, resume}
use Rattle.stream.specs.Held.{stopped, standing_of, stand_of, Sound}
use Rattle.stream.specs.declared.standing.Stream.{Stream}
use Rattle.stream.specs.declared.standing.Step.{Step}
use Rattle.stream.specs.declared.standing.Printout.{Printout}
use Rattle.stream.specs.declared.pressing.Keyed.{Keyed}

-- bytes put after those that are held: how many up to one that ends the line, and whether there is one
unfoldable pub reach : ℕ → List ℕ → ℕ
reach held [] = 0
reach held (byte ∷ bytes) = cond (closes_at held byte) 1 (suc (reach (held + 1) bytes))

unfoldable pub is_closed : ℕ → List ℕ → Bool
is_closed held [] = false
is_closed held (byte ∷ bytes) = cond (closes_at held byte) true (is_closed (held + 1) bytes)

pub record Holding (line : List ℕ) (held : ℕ) (bytes : List ℕ) (count : ℕ) (ended : Bool) (line' : List ℕ) : Type 0 where
  pub counts : count ≡ held + reach held bytes
  pub closes : ended ≡ is_closed held bytes
  pub left : line' ≡ over_at (take (reach held bytes) bytes) line held

-- a key, printed at a place
pub record KeyMade (course : Course) (image slots out : List ℕ) (at : ℕ) (r : Keyed) (slots' out' : List ℕ) : Type 0 where
  pub ends : r.ends ≡ course.ends
  pub place : r.printed ≡ at + size course.prints
  pub holds : Holds course.after r.session image slots'
  pub bytes : out' ≡ over_at (lines_of course.prints) out at
  pub outs : length out' ≡ length out
  pub slot : length slots' ≡ length slots

-- a key of a session, pressed at a place
abbrev pub PressedAt : Session → ℕ → List ℕ → List ℕ → List ℕ → ℕ → Keyed → List ℕ → List ℕ → Type 0
PressedAt h byte image slots out at r slots' out' = KeyMade (press_key (standing_of h image slots) byte) image slots out at r slots' out'

-- a move, printed at a place: where the stream stands then, the place after what was printed, and the bytes
pub record Makes (move : Move) (out : List ℕ) (at : ℕ) (s : Stand) (printed : ℕ) (out' : List ℕ) : Type 0 where
  pub after : s ≡ move.after
  pub place : printed ≡ at + size move.prints
  pub bytes : out' ≡ over_at (lines_of move.prints) out at

pub record Moved (move : Move) (out : List ℕ) (at : ℕ) (r : Printout) (line' image' slots' out' : List ℕ) : Type 0 where
  pub makes : Makes move out at (stand_of r.stream line' image' slots') r.printed out'
  pub outs : length out' ≡ length out
  pub sound : Sound r.stream line' image' slots'

-- keys pressed from a place on, as many as find room; those that wait then; and a whole line
abbrev pub PressedSome : Session → List ℕ → List ℕ → List ℕ → List ℕ → ℕ → Printout → List ℕ → List ℕ → List ℕ → Type 0
PressedSome h keys image slots out at r line' slots' out' =
    Moved (press_some (length out - at) (standing_of h image slots) keys) out at r line' image slots' out'

abbrev pub Resumed : Stream → List ℕ → List ℕ → List ℕ → List ℕ → Printout → List ℕ → List ℕ → Type 0
Resumed s line image slots out r slots' out' = Moved (resume (length out) (stand_of s line image slots)) out 0 r line image slots' out'

abbrev pub LineMoved : Session → List ℕ → List ℕ → List ℕ → List ℕ → ℕ → Printout → List ℕ → List ℕ → List ℕ → List ℕ → Type 0
LineMoved h whole image slots out at r line' image' slots' out' =
    Moved (line_move (length out - at) (standing_of h image slots) whole) out at r line' image' slots' out'

-- a line given to the session: the buffers keep their lengths
pub record LineRead (h : Session) (line image frame : List ℕ) (r : Took) (image' frame' : List ℕ) : Type 0 where
  pub taking : TakingLine h line image frame r image' frame'
  pub images : length image' ≡ length image
  pub frames : length frame' ≡ length frame

-- the 2F of a line, printed at a place
pub record Refuses (h : Session) (number : ℕ) (out : List ℕ) (at : ℕ) (r : Printout) (out' : List ℕ) : Type 0 where
  pub stream : r.stream ≡ stopped h
  pub place : r.printed ≡ at + size (bad_line number ∷ [])
  pub bytes : out' ≡ over_at (lines_of (bad_line number ∷ [])) out at
  pub outs : length out' ≡ length out

-- the move up to the end of a line, or over all bytes where there is none
unfoldable pub line_of : ℕ → Standing → List ℕ → List ℕ → Move
line_of room at held bytes =
    cond (is_closed (length held) bytes) (line_move room at (held ++ take (reach (length held) bytes) bytes))
    (record { prints = []; after = reads at (held ++ bytes) })

pub record Takes (move : Move) (count : ℕ) (out : List ℕ) (at : ℕ) (r : Step) (line' image' slots' out' : List ℕ) : Type 0 where
  pub makes : Makes move out at (stand_of r.stream line' image' slots') r.printed out'
  pub took : r.took ≡ count
  pub outs : length out' ≡ length out
  pub sound : Sound r.stream line' image' slots'

-- bytes taken from where a stream stands, up to the end of a line
abbrev pub TakesBytes : Stream → List ℕ → List ℕ → List ℕ → List ℕ → List ℕ → ℕ → Step → List ℕ → List ℕ → List ℕ → List ℕ → Type 0
TakesBytes s bytes line image slots out at r line' image' slots' out' =
    Takes (line_of (length out - at) (standing_of s.session image slots) (take s.held line) bytes) (reach s.held bytes) out at r line' image' slots' out'

-- bytes of a piece, and what they print at a place
pub record Pieced (went : Went) (piece out : List ℕ) (at : ℕ) (r : Step) (line' image' slots' out' : List ℕ) : Type 0 where
  pub makes : Makes went.move out at (stand_of r.stream line' image' slots') r.printed out'
  pub took : r.took ≤ length piece
  pub left : drop r.took piece ≡ went.left
  pub outs : length out' ≡ length out
  pub sound : Sound r.stream line' image' slots'

-- bytes taken line by line
abbrev pub TakesPiece : Stream → List ℕ → List ℕ → List ℕ → List ℕ → List ℕ → ℕ → Step → List ℕ → List ℕ → List ℕ → List ℕ → Type 0
TakesPiece s piece line image slots out at r line' image' slots' out' =
    Pieced (take_some (length out - at) (stand_of s line image slots) piece) piece out at r line' image' slots' out'
