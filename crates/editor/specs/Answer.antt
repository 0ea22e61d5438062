-- What `key` answers and leaves (STANDARD 10: 12, 11, 9, a line buffer under 255 first).
use Rattle.std.specs.Prelude.{ℕ, ◌≡◌, Bool, false, cond, List, ltb, leb, length, Ok, Err, Result, is_err}
use Rattle.buffer.specs.Write.{over}
use Rattle.text.specs.Decoding.{well_formed}
use Rattle.history.specs.Journal.{record_of, slots_of as journal_slots, journal_of, good}
use Rattle.history.specs.declared.stepping.History.{History}
use Rattle.editor.specs.declared.line.Editor.{Editor}
use Rattle.editor.specs.declared.drawing.KeyAnswer.{KeyAnswer}
use Rattle.editor.specs.declared.drawing.Pressed.{Pressed}
use Rattle.editor.specs.declared.drawing.KeyRefusal.{KeyRefusal}
use Rattle.editor.specs.declared.drawing.Pressed.TheVariants.{Shown, Entered, Dropped}
use Rattle.editor.specs.declared.drawing.KeyRefusal.TheVariants.{BadState, BadPrompt, NoRoom}
use Rattle.editor.specs.Line.{limit, holding, line_of, good_editor}
use Rattle.editor.specs.Turns.{State, Kind, shows, enters, drops, Turn, turn_of}

-- the state that editor, record and slots hold, and what holds a state
unfoldable pub state_of : Editor → History → List ℕ → State
state_of e h slots = record { line = line_of e; cursor = e.cursor; mode = e.mode; profile = e.profile; history = journal_of h slots }

unfoldable pub editor_of : State → Editor
editor_of s = holding s.line s.cursor s.mode s.profile

-- (3.12)
abbrev pub history_of : State → History
history_of s = record_of s.history

-- (3.12, 4.5)
abbrev pub slots_of : State → List ℕ
slots_of s = journal_slots s.history

-- a state is good if its editor is and its history is (3.13)
unfoldable pub good_state : Editor → History → List ℕ → Bool
good_state e h slots = cond (good_editor e) (good h slots) false

-- the prompt is 0 to 128 bytes of UTF-8 (2.5)
unfoldable pub good_prompt : List ℕ → Bool
good_prompt prompt = cond (leb (length prompt) 128) (well_formed prompt) false

-- what a key that is taken answers (10.14)
abbrev pub taken : Turn → Kind → Result Pressed KeyRefusal
taken t shows = Ok (Shown (length t.screen))
taken t enters = Ok (Entered (length t.submitted))
taken t drops = Ok Dropped

-- the answer for a turn, and buffers of so many bytes for the line and for the screen (10.14)
unfoldable pub turn_answer : Turn → ℕ → ℕ → Result Pressed KeyRefusal
turn_answer t line screen =
    cond (ltb line limit) (Err (NoRoom limit))
    (cond (ltb screen (length t.screen)) (Err (NoRoom (length t.screen)))
    (taken t t.kind))

-- (10.14)
unfoldable pub key_answer : Bool → List ℕ → Turn → ℕ → ℕ → Result Pressed KeyRefusal
key_answer is prompt t line screen =
    cond is
    (cond (good_prompt prompt) (turn_answer t line screen)
    (Err (BadPrompt (length prompt))))
    (Err BadState)

-- a refusal keeps the state and every byte (2.4)
abbrev pub refused : Result Pressed KeyRefusal → Bool
refused told = is_err told

-- (2.4, 2.8)
pub record Pressing (e : Editor) (h : History) (slots prompt : List ℕ) (byte : ℕ) (line screen : List ℕ)
    (k : KeyAnswer) (slots' line' screen' : List ℕ) : Type 0 where
  pub answer : k.answer ≡ key_answer (good_state e h slots) prompt (turn_of prompt (state_of e h slots) byte) (length line) (length screen)
  pub editor : k.editor ≡ cond (refused k.answer) e (editor_of (turn_of prompt (state_of e h slots) byte).after)
  pub history : k.history ≡ cond (refused k.answer) h (history_of (turn_of prompt (state_of e h slots) byte).after)
  pub held : slots' ≡ cond (refused k.answer) slots (slots_of (turn_of prompt (state_of e h slots) byte).after)
  pub given : line' ≡ cond (refused k.answer) line (over (turn_of prompt (state_of e h slots) byte).submitted line)
  pub shown : screen' ≡ cond (refused k.answer) screen (over (turn_of prompt (state_of e h slots) byte).screen screen)

-- the refusal's number (STANDARD 10.1; 0: none), and the value that goes with it
abbrev pub number : Result Pressed KeyRefusal → ℕ
number (Ok pressed) = 0
number (Err BadState) = 12
number (Err (BadPrompt n)) = 11
number (Err (NoRoom n)) = 9

-- at Enter one byte is shown (10.14)
abbrev pub value : Result Pressed KeyRefusal → ℕ
value (Ok (Shown n)) = n
value (Ok (Entered n)) = 1
value (Ok Dropped) = 0
value (Err BadState) = 0
value (Err (BadPrompt n)) = n
value (Err (NoRoom n)) = n

-- a key that is taken has one of three kinds, by number: it shows bytes 0, enters 1, drops its byte 2. The kind of an answer; a refusal has none, 0
-- (10.14)
abbrev pub kind_number : Kind → ℕ
kind_number shows = 0
kind_number enters = 1
kind_number drops = 2

-- (10.14)
abbrev pub kind : Result Pressed KeyRefusal → ℕ
kind (Ok (Shown n)) = 0
kind (Ok (Entered n)) = 1
kind (Ok Dropped) = 2
kind (Err refusal) = 0

-- the second value: the length of the line that is submitted (10.14)
abbrev pub beside : Result Pressed KeyRefusal → ℕ
beside (Ok (Shown n)) = 0
beside (Ok (Entered n)) = n
beside (Ok Dropped) = 0
beside (Err refusal) = 0
