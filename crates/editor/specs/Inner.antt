-- What only contracts of inner functions cite: what a turn comes to, given the room on the screen.
use Rattle.std.specs.Prelude.{ℕ, ◌≡◌, cond, List, [], ltb, length, Some, None, Option, Ok, Err, Result}
use Rattle.buffer.specs.Write.{over}
use Rattle.history.specs.Journal.{Journal, entry_of}
use Rattle.history.specs.declared.stepping.History.{History}
use Rattle.history.specs.declared.stepping.Step.{Step}
use Rattle.screen.specs.Redraw.{redraw}
use Rattle.editor.specs.declared.line.Editor.{Editor}
use Rattle.editor.specs.declared.drawing.KeyAnswer.{KeyAnswer}
use Rattle.editor.specs.declared.drawing.Pressed.{Pressed}
use Rattle.editor.specs.declared.drawing.KeyRefusal.{KeyRefusal}
use Rattle.editor.specs.declared.drawing.Pressed.TheVariants.{Shown}
use Rattle.editor.specs.declared.drawing.KeyRefusal.TheVariants.{NoRoom}
use Rattle.keys.specs.declared.standing.Action.{Action}
use Rattle.editor.specs.Line.{holding, line_of, content}
use Rattle.editor.specs.Turns.{Turn, enter, turn_by, turn_of}
use Rattle.editor.specs.Answer.{state_of, taken, editor_of, history_of, slots_of}

-- bytes are shown and the state is another, or there is no room and it stays
unfoldable pub attempt : {A : Type 0} → List ℕ → ℕ → A → A → A
attempt bytes room stays goes = cond (ltb room (length bytes)) stays goes

abbrev pub key_of : Editor → History → Result Pressed KeyRefusal → KeyAnswer
key_of e h told = record { editor = e; history = h; answer = told }

pub record Shows (bytes : List ℕ) (stays : Editor) (before : History) (goes : Editor) (history : History) (screen : List ℕ) (k : KeyAnswer) (screen' : List ℕ) : Type 0 where
  pub made : k ≡ attempt bytes (length screen) (key_of stays before (Err (NoRoom (length bytes)))) (key_of goes history (Ok (Shown (length bytes))))
  pub shown : screen' ≡ attempt bytes (length screen) screen (over bytes screen)

-- the line that a step through history recalls: an entry, or nothing
abbrev pub recalled_text : Option ℕ → Journal → List ℕ
recalled_text (Some n) j = entry_of j n
recalled_text None j = []

abbrev pub recalling : Editor → List ℕ → Editor
recalling e text = holding text (length text) e.mode e.profile

-- it becomes the line, which is drawn anew
abbrev pub Recalls : Editor → History → Step → Journal → (prompt screen : List ℕ) → KeyAnswer → List ℕ → Type 0
Recalls e h step j prompt screen k screen' =
    Shows (redraw prompt (content (line_of (recalling e (recalled_text step.recalled j)))) (recalling e (recalled_text step.recalled j)).cursor) e h (recalling e (recalled_text step.recalled j)) step.history screen k screen'

-- what a turn comes to for one who holds e and h, with the record that is handed back if it is taken
unfoldable pub made_by : Editor → History → Turn → History → ℕ → KeyAnswer
made_by e h t after room =
    attempt t.screen room (key_of e h (Err (NoRoom (length t.screen)))) (key_of (editor_of t.after) after (taken t t.kind))

-- a turn that leaves the slots and the line buffer alone
pub record ActsTo (e : Editor) (h : History) (t : Turn) (after : History) (screen : List ℕ) (k : KeyAnswer) (screen' : List ℕ) : Type 0 where
  pub made : k ≡ made_by e h t after (length screen)
  pub shown : screen' ≡ attempt t.screen (length screen) screen (over t.screen screen)

abbrev pub Acts : Editor → History → Turn → List ℕ → KeyAnswer → List ℕ → Type 0
Acts e h t screen k screen' = ActsTo e h t (history_of t.after) screen k screen'

-- one that leaves the history alone too: the record is handed back as it came, whatever the slots hold
abbrev pub ActsFor : (List ℕ → Turn) → Editor → History → List ℕ → KeyAnswer → List ℕ → Type 0
ActsFor t e h screen k screen' = (slots : List ℕ) → ActsTo e h (t slots) h screen k screen'

-- any turn
pub record Does (e : Editor) (h : History) (t : Turn) (slots line screen : List ℕ) (k : KeyAnswer) (slots' line' screen' : List ℕ) : Type 0 where
  pub acts : Acts e h t screen k screen'
  pub held : slots' ≡ attempt t.screen (length screen) slots (slots_of t.after)
  pub given : line' ≡ attempt t.screen (length screen) line (over t.submitted line)

-- the turn of an action, of a key and of Enter, in the state that editor, record and slots hold
abbrev pub DoesAction : Action → Editor → History → (slots prompt line screen : List ℕ) → KeyAnswer → (slots' line' screen' : List ℕ) → Type 0
DoesAction action e h slots prompt line screen = Does e h (turn_by prompt (state_of e h slots) action) slots line screen

abbrev pub DoesKey : ℕ → Editor → History → (slots prompt line screen : List ℕ) → KeyAnswer → (slots' line' screen' : List ℕ) → Type 0
DoesKey byte e h slots prompt line screen = Does e h (turn_of prompt (state_of e h slots) byte) slots line screen

abbrev pub DoesEnter : Editor → History → (slots line screen : List ℕ) → KeyAnswer → (slots' line' screen' : List ℕ) → Type 0
DoesEnter e h slots line screen = Does e h (enter (state_of e h slots)) slots line screen
