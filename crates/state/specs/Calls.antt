-- What the calls on a saved state answer and leave (STANDARD 3.6, 3.19, 4.1, 4.3, 4.5, 10.15, 10.16, 10.23, 10.24; 9 and 12 of 10.1).
use Rattle.std.specs.Prelude.{ℕ, ◌<◌, ◌≡◌, ◌⊎◌, Bool, true, false, cond, List, ltb, length, Ok, Err, Result, ⊤}
use Rattle.buffer.specs.Write.{over}
use Rattle.history.specs.Slots.{slots_size}
use Rattle.history.specs.Journal.{Journal, no_entries, offered, record_of, slots_of as journal_slots, journal_of}
use Rattle.history.specs.Answer.{add_answer, slots_by}
use Rattle.history.specs.Forgotten.{forgotten, forget_answer, is_gone, slots_left}
use Rattle.history.specs.declared.adding.AddRefusal.{AddRefusal}
use Rattle.history.specs.declared.adding.AddRefusal.TheVariants.{BadState as BadHistory, TooLong, IllFormed}
use Rattle.history.specs.declared.forgetting.ForgetRefusal.{ForgetRefusal}
use Rattle.keys.specs.Modes.{is_profile, profile_of}
use Rattle.editor.specs.declared.drawing.Pressed.{Pressed}
use Rattle.editor.specs.declared.drawing.KeyRefusal.{KeyRefusal}
use Rattle.editor.specs.Line.{fresh_editor}
use Rattle.editor.specs.Turns.{State, Turn, turn_of}
use Rattle.editor.specs.Answer.{state_of, editor_of, history_of, slots_of, key_answer, refused}
use Rattle.state.specs.State.{state_size, saved_of, editor_in, history_in, good_saved}
use Rattle.state.specs.declared.calls.BeginRefusal.{BeginRefusal}
use Rattle.state.specs.declared.calls.BeginRefusal.TheVariants.{NoRoom, BadState}

-- a fresh session: a number that is no profile's is refused first; then, the state before the slots, a buffer that is too short, with the length needed, and one that is too long
-- (10.16, 10.23)
unfoldable pub begin_answer : ℕ → ℕ → ℕ → Result ⊤ BeginRefusal
begin_answer profile state slots =
    cond (is_profile profile)
    (cond (ltb state state_size) (Err (NoRoom state_size))
    (cond (ltb state_size state) (Err BadState)
    (cond (ltb slots slots_size) (Err (NoRoom slots_size))
    (cond (ltb slots_size slots) (Err BadState)
    (Ok tt)))))
    (Err BadState)

-- a buffer that is too short, with the length needed, or too long
abbrev pub Misfit : ℕ → ℕ → BeginRefusal → Type 0
Misfit length needed r = ((length < needed) × (r ≡ NoRoom needed)) ⊎ ((needed < length) × (r ≡ BadState))

abbrev pub is_ready : Result ⊤ BeginRefusal → Bool
is_ready (Ok u) = true
is_ready (Err (NoRoom n)) = false
is_ready (Err BadState) = false

-- the refusal's number (STANDARD 10.1; 0: none), and the value that goes with it
abbrev pub number : Result ⊤ BeginRefusal → ℕ
number (Ok u) = 0
number (Err (NoRoom n)) = 9
number (Err BadState) = 12

abbrev pub value : Result ⊤ BeginRefusal → ℕ
value (Ok u) = 0
value (Err (NoRoom n)) = n
value (Err BadState) = 0

-- the bytes of a fresh session (4.3)
unfoldable pub fresh_saved : ℕ → List ℕ
fresh_saved profile = saved_of (fresh_editor (profile_of profile)) (record_of no_entries)

-- (4.3, 10.16, 10.23)
pub record Beginning (profile : ℕ) (state slots : List ℕ) (told : Result ⊤ BeginRefusal) (state' slots' : List ℕ) : Type 0 where
  pub answer : told ≡ begin_answer profile (length state) (length slots)
  pub kept : state' ≡ cond (is_ready told) (fresh_saved profile) state
  pub held : slots' ≡ cond (is_ready told) (journal_slots no_entries) slots

-- one key: the turn that it takes in a saved state
unfoldable pub turn_in : List ℕ → List ℕ → List ℕ → ℕ → Turn
turn_in state slots prompt byte = turn_of prompt (state_of (editor_in state) (history_in state) slots) byte

unfoldable pub press_answer : List ℕ → List ℕ → List ℕ → ℕ → ℕ → ℕ → Result Pressed KeyRefusal
press_answer state slots prompt byte line screen = key_answer (good_saved state slots) prompt (turn_in state slots prompt byte) line screen

-- (4.5)
unfoldable pub saved_after : State → List ℕ
saved_after s = saved_of (editor_of s) (history_of s)

-- a refusal keeps the state and every byte (4.1, 4.5)
pub record SavedKey (state slots prompt : List ℕ) (byte : ℕ) (line screen : List ℕ) (told : Result Pressed KeyRefusal) (state' slots' line' screen' : List ℕ) : Type 0 where
  pub answer : told ≡ press_answer state slots prompt byte (length line) (length screen)
  pub kept : state' ≡ cond (refused told) state (saved_after (turn_in state slots prompt byte).after)
  pub held : slots' ≡ cond (refused told) slots (slots_of (turn_in state slots prompt byte).after)
  pub given : line' ≡ cond (refused told) line (over (turn_in state slots prompt byte).submitted line)
  pub shown : screen' ≡ cond (refused told) screen (over (turn_in state slots prompt byte).screen screen)

-- a text added to the history of a saved state, of which all is to be good (10.15)
unfoldable pub saved_answer : List ℕ → List ℕ → List ℕ → Result ⊤ AddRefusal
saved_answer state slots text = add_answer (good_saved state slots) text

-- a refusal keeps every byte; otherwise the history is saved (4.5)
abbrev pub state_by : Result ⊤ AddRefusal → List ℕ → Journal → List ℕ
state_by (Ok u) state j = saved_of (editor_in state) (record_of j)
state_by (Err BadHistory) state j = state
state_by (Err (TooLong n)) state j = state
state_by (Err (IllFormed n)) state j = state

-- (3.6, 4.1, 4.5)
pub record SavedAdd (state slots text : List ℕ) (told : Result ⊤ AddRefusal) (state' slots' : List ℕ) : Type 0 where
  pub answer : told ≡ saved_answer state slots text
  pub kept : state' ≡ state_by told state (offered text (journal_of (history_in state) slots))
  pub held : slots' ≡ slots_by told slots (offered text (journal_of (history_in state) slots))

-- an entry forgotten in the history of a saved state, of which all is to be good (10.24)
unfoldable pub saved_forget_answer : List ℕ → List ℕ → ℕ → Result ℕ ForgetRefusal
saved_forget_answer state slots k = forget_answer (good_saved state slots) k (journal_of (history_in state) slots).entries

-- a refusal keeps every byte; otherwise the history is saved (4.5)
abbrev pub state_left : Result ℕ ForgetRefusal → List ℕ → Journal → List ℕ
state_left told state j = cond (is_gone told) (saved_of (editor_in state) (record_of j)) state

-- (3.19, 4.1, 4.5)
pub record SavedForget (state slots : List ℕ) (k : ℕ) (told : Result ℕ ForgetRefusal) (state' slots' : List ℕ) : Type 0 where
  pub answer : told ≡ saved_forget_answer state slots k
  pub kept : state' ≡ state_left told state (forgotten k (journal_of (history_in state) slots))
  pub held : slots' ≡ slots_left told slots (forgotten k (journal_of (history_in state) slots))
