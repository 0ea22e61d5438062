-- A saved state into which another history was written, or none: the editor's bytes stay, what is good stays good, and what the bytes hold is the editor with that history.
use Rattle.std.specs.Prelude.{Ok, Err, Result, ⊤}
use Prim.Native.Nat.{ℕ}
use mathlib.Core.Path.{◌≡◌, refl, sym, ap, ◌∙◌}
use mathlib.Core.Bool.{Bool, true, false, cond}
use mathlib.Core.List.{List}
use lib.ListN.{length, take}
use Rattle.history.specs.Journal.{Journal, offered, record_of, slots_of as journal_slots, journal_of}
use Rattle.history.specs.Answer.{record_by, slots_by}
use Rattle.history.specs.Forgotten.{forgotten, is_gone}
use Rattle.history.specs.declared.stepping.History.{History}
use Rattle.history.specs.declared.adding.AddRefusal.{AddRefusal}
use Rattle.history.specs.declared.adding.AddRefusal.TheVariants.{BadState, TooLong, IllFormed}
use Rattle.history.specs.declared.forgetting.ForgetRefusal.{ForgetRefusal}
use Rattle.history.proofs.Journals.{Fair, fair_good}
use Rattle.history.proofs.Called.{is_done}
use Rattle.editor.specs.declared.line.Editor.{Editor}
use Rattle.editor.specs.Turns.{State}
use Rattle.editor.specs.Answer.{state_of, good_state}
use Rattle.editor.specs.Saved.{saved_size as editor_size, saved_in as editor_saved_in}
use Rattle.editor.proofs.Lines.{good_line_lem, length_of_lem}
use Rattle.editor.proofs.States.{good_parts, state_parts, good_state_lem}
use Rattle.state.specs.State.{saved_of, editor_in, history_in, good_saved}
use Rattle.state.specs.Calls.{state_by, SavedAdd, SavedForget}
use Rattle.state.proofs.Savings.{front_saved, held_saved, good_saved_lem, IsState, good_saved_parts, good_whole, saved_restored}

-- the state that bytes and slots hold
abbrev pub held_in : List ℕ → List ℕ → State
held_in state slots = state_of (editor_in state) (history_in state) slots

-- what is good is good when it is saved
pub saved_good : (e : Editor) (h : History) (slots : List ℕ) → good_state e h slots ≡ true → good_saved (saved_of e h) slots ≡ true
saved_good e h slots g = good_saved_lem e h slots (length_of_lem e (good_line_lem e (good_parts e h slots g).0)).0 ∙ g

-- state and slots after a call that writes a history where it is taken, and else nothing
pub record Stored (state slots : List ℕ) (taken : Bool) (j : Journal) (state' slots' : List ℕ) : Type 0 where
  pub kept : state' ≡ cond taken (saved_of (editor_in state) (record_of j)) state
  pub held : slots' ≡ cond taken (journal_slots j) slots

-- a text that is added, and an entry that is forgotten
pub stored_add : (state slots text : List ℕ) (told : Result ⊤ AddRefusal) (state' slots' : List ℕ) → SavedAdd state slots text told state' slots'
    → Stored state slots (is_done told) (offered text (journal_of (history_in state) slots)) state' slots'
stored_add state slots text told state' slots' p = record { kept = p.kept ∙ (by told _).0; held = p.held ∙ (by told _).1 }
  where
    by : (x : Result ⊤ AddRefusal) (j : Journal) → (state_by x state j ≡ cond (is_done x) (saved_of (editor_in state) (record_of j)) state) × (slots_by x slots j ≡ cond (is_done x) (journal_slots j) slots)
    by (Ok u) j = (refl, refl)
    by (Err BadState) j = (refl, refl)
    by (Err (TooLong n)) j = (refl, refl)
    by (Err (IllFormed n)) j = (refl, refl)

pub record_done : (x : Result ⊤ AddRefusal) (h : History) (j : Journal) → record_by x h j ≡ cond (is_done x) (record_of j) h
record_done (Ok u) h j = refl
record_done (Err BadState) h j = refl
record_done (Err (TooLong n)) h j = refl
record_done (Err (IllFormed n)) h j = refl

pub stored_forget : (state slots : List ℕ) (k : ℕ) (told : Result ℕ ForgetRefusal) (state' slots' : List ℕ) → SavedForget state slots k told state' slots'
    → Stored state slots (is_gone told) (forgotten k (journal_of (history_in state) slots)) state' slots'
stored_forget state slots k told state' slots' p = record { kept = p.kept; held = p.held }

module _ (state slots : List ℕ) (taken : Bool) (j : Journal) (state' slots' : List ℕ) (s : Stored state slots taken j state' slots') where
  -- the bytes are those of the editor, and of the history where one was written
  pub stored_saved : IsState state → state' ≡ saved_of (editor_in state) (cond taken (record_of j) (history_in state))
  stored_saved is = s.kept ∙ by taken
    where
      by : (t : Bool) → cond t (saved_of (editor_in state) (record_of j)) state ≡ saved_of (editor_in state) (cond t (record_of j) (history_in state))
      by true = refl
      by false = sym (saved_restored state is)

  module _ (g : good_saved state slots ≡ true) where
    is : IsState state
    is = (good_saved_parts state slots g).0

    whole : length (editor_in state).line ≡ 255
    whole = good_whole state slots g

    pub stored_held : held_in state' slots' ≡ state_of (editor_in state) (cond taken (record_of j) (history_in state)) slots'
    stored_held = ap (λ (x : List ℕ). held_in x slots') (stored_saved is) ∙ held_saved (editor_in state) (cond taken (record_of j) (history_in state)) slots' whole

    stored_front : take editor_size state' ≡ take editor_size state
    stored_front =
        ap (take editor_size) (stored_saved is)
        ∙ front_saved (editor_in state) (cond taken (record_of j) (history_in state)) whole
        ∙ sym (front_saved (editor_in state) (history_in state) whole)
        ∙ ap (take editor_size) (saved_restored state is)

    -- a good state stays good
    pub stored_stays : (taken ≡ true → Fair j) → good_saved state' slots' ≡ true
    stored_stays fair = ap (λ (x : List ℕ). good_saved x slots') s.kept ∙ ap (good_saved (cond taken (saved_of (editor_in state) (record_of j)) state)) s.held ∙ by taken refl
      where
        by : (t : Bool) → taken ≡ t → good_saved (cond t (saved_of (editor_in state) (record_of j)) state) (cond t (journal_slots j) slots) ≡ true
        by true e =
            saved_good (editor_in state) (record_of j) (journal_slots j)
            (good_state_lem (editor_in state) (record_of j) (journal_slots j) (state_parts (editor_in state) (history_in state) slots (good_saved_parts state slots g).1).0 (fair_good j (fair e)))
        by false e = g

  -- the editor's bytes stay, whatever the state, if a history is written into good ones only
  pub editor_stays : (taken ≡ true → good_saved state slots ≡ true) → take editor_size state' ≡ take editor_size state
  editor_stays only = by taken refl
    where
      by : (t : Bool) → taken ≡ t → take editor_size state' ≡ take editor_size state
      by true e = stored_front (only e)
      by false e = ap (take editor_size) (s.kept ∙ ap (λ (t : Bool). cond t (saved_of (editor_in state) (record_of j)) state) e)

pub same_editor : (state state' : List ℕ) → take editor_size state' ≡ take editor_size state → editor_in state' ≡ editor_in state
unfolding editor_in
same_editor state state' e = ap editor_saved_in e
