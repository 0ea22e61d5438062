-- A saved state: what the editor saves of itself, then what the history does. 266 bytes in all, good or bad together with the slots.
-- (STANDARD 4.1 to 4.4)
use Rattle.std.specs.Prelude.{ℕ, ◌+◌, ◌≡◌, Bool, true, false, cond, List, ◌++◌, take, drop}
use Rattle.history.specs.declared.stepping.History.{History}
use Rattle.history.specs.Saved.{saved_size as history_size, saved_of as history_saved, saved_in as history_saved_in, is_saved as is_history}
use Rattle.editor.specs.declared.line.Editor.{Editor}
use Rattle.editor.specs.Saved.{saved_size as editor_size, saved_of as editor_saved, saved_in as editor_saved_in, is_saved as is_editor}

-- how many bytes that is (4.1)
unfoldable pub state_size : ℕ
state_size = editor_size + history_size

-- the bytes of a state (4.2, 4.3)
unfoldable pub saved_of : Editor → History → List ℕ
saved_of e h = editor_saved e ++ history_saved h

-- the editor and the history that bytes hold (4.2)
unfoldable pub editor_in : List ℕ → Editor
editor_in state = editor_saved_in (take editor_size state)

-- (4.2)
unfoldable pub history_in : List ℕ → History
history_in state = history_saved_in (drop editor_size state)

-- bytes and slots that are a good state: a good editor's bytes, then those of a history that is good with the slots (4.4)
unfoldable pub good_saved : List ℕ → List ℕ → Bool
good_saved state slots = cond (is_editor (take editor_size state)) (is_history (drop editor_size state) slots) false

-- what is read of such a state
pub record Read (e : Editor) (h : History) (state slots : List ℕ) : Type 0 where
  pub is : good_saved state slots ≡ true
  pub editor : e ≡ editor_in state
  pub history : h ≡ history_in state
