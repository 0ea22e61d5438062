-- A call on a saved state is the call by value on what the bytes hold, and leaves the bytes of what that hands back.
use Rattle.std.specs.Prelude.{Result, ⊤, Ok}
use Prim.Native.Nat.{ℕ, ◌≤◌}
use mathlib.Core.Path.{◌≡◌, refl, sym, ap, ◌∙◌}
use mathlib.Core.Bool.{Bool, true, false, cond}
use mathlib.Core.List.{List}
use lib.ListN.{length, take}
use Rattle.buffer.proofs.Choices.{then_is, else_is}
use Rattle.history.specs.Journal.{offered, journal_of, good}
use Rattle.history.specs.Answer.{add_answer, record_by, slots_by, Addition}
use Rattle.history.specs.declared.stepping.History.{History}
use Rattle.history.specs.declared.adding.AddRefusal.{AddRefusal}
use Rattle.history.specs.Forgotten.{forgotten, forget_answer, is_gone, record_left, Forgets}
use Rattle.history.specs.declared.forgetting.ForgetRefusal.{ForgetRefusal}
use Rattle.history.proofs.Called.{is_done}
use Rattle.keys.specs.declared.standing.Mode.TheVariants.{Typing}
use Rattle.editor.specs.declared.line.Editor.{Editor}
use Rattle.editor.specs.declared.drawing.KeyAnswer.{KeyAnswer}
use Rattle.editor.specs.declared.drawing.Pressed.{Pressed}
use Rattle.editor.specs.declared.drawing.KeyRefusal.{KeyRefusal}
use Rattle.editor.specs.declared.drawing.Pressed.TheVariants.{Dropped}
use Rattle.editor.specs.Line.{limit, good_editor}
use Rattle.editor.specs.Saved.{saved_size as editor_size}
use Rattle.editor.specs.Turns.{State, Turn, turn_of}
use Rattle.editor.specs.Answer.{state_of, editor_of, history_of, good_state, good_prompt, key_answer, refused, Pressing}
use Rattle.editor.proofs.Lines.{good_line_lem, length_of_lem}
use Rattle.editor.proofs.States.{good_parts}
use Rattle.editor.proofs.Fine.{stays_good}
use Rattle.editor.proofs.Called.{dropped, profile_kept}
use Rattle.state.specs.State.{saved_of, editor_in, history_in, good_saved}
use Rattle.state.specs.Calls.{turn_in, press_answer, saved_after, SavedKey, saved_answer, SavedAdd, saved_forget_answer, SavedForget}
use Rattle.state.proofs.Savings.{editor_saved_lem, history_saved_lem, IsState, good_as, good_saved_parts, good_history, good_whole, saved_restored}
use Rattle.state.proofs.Stored.{stored_add, record_done, stored_forget, stored_saved, editor_stays, same_editor}

-- what `key` hands back for a turn from a saved state, with this answer
abbrev pub key_for : List ℕ → Turn → Result Pressed KeyRefusal → KeyAnswer
key_for state t told =
    record {
      editor = cond (refused told) (editor_in state) (editor_of t.after);
      history = cond (refused told) (history_in state) (history_of t.after);
      answer = told;
    }

pub same_saved : {e e' : Editor} {h h' : History} → e ≡ e' → h ≡ h' → saved_of e h ≡ saved_of e' h'
same_saved p q = cc

module _ (state slots prompt : List ℕ) (byte : ℕ) (line screen : List ℕ) (told : Result Pressed KeyRefusal) (state' slots' line' screen' : List ℕ)
    (p : SavedKey state slots prompt byte line screen told state' slots' line' screen') (is : IsState state) where
  pub key_by_value : Pressing (editor_in state) (history_in state) slots prompt byte line screen (key_for state (turn_in state slots prompt byte) told) slots' line' screen'
  unfolding press_answer turn_in
  key_by_value =
      record {
        answer =
            p.answer
            ∙ ap (λ (t : Bool). key_answer t prompt (turn_of prompt (state_of (editor_in state) (history_in state) slots) byte) (length line) (length screen)) (good_as state slots is);
        editor = refl;
        history = refl;
        held = p.held;
        given = p.given;
        shown = p.shown;
      }

  pub key_saved : let k : KeyAnswer = key_for state (turn_in state slots prompt byte) told in state' ≡ saved_of k.editor k.history
  unfolding saved_after
  key_saved = p.kept ∙ by (refused told) (turn_in state slots prompt byte).after
    where
      by : (r : Bool) (s : State) → cond r state (saved_of (editor_of s) (history_of s)) ≡ saved_of (cond r (editor_in state) (editor_of s)) (cond r (history_in state) (history_of s))
      by true s = sym (saved_restored state is)
      by false s = refl

module _ (state slots text : List ℕ) (told : Result ⊤ AddRefusal) (state' slots' : List ℕ) (p : SavedAdd state slots text told state' slots')
    (is : IsState state) (fair : good_editor (editor_in state) ≡ true) where
  pub add_by_value : Addition (history_in state) slots text (record_by told (history_in state) (offered text (journal_of (history_in state) slots))) told slots'
  unfolding saved_answer good_state
  add_by_value =
      let a : told ≡ add_answer (good (history_in state) slots) text =
      p.answer ∙ ap (λ (t : Bool). add_answer t text) (good_as state slots is ∙ then_is _ _ _ fair) in
      record {
        answer = a;
        state = ap (λ (x : Result ⊤ AddRefusal). record_by x (history_in state) (offered text (journal_of (history_in state) slots))) a;
        bytes = p.held ∙ ap (λ (x : Result ⊤ AddRefusal). slots_by x slots (offered text (journal_of (history_in state) slots))) a;
      }

  pub add_saved : state' ≡ saved_of (editor_in state) (record_by told (history_in state) (offered text (journal_of (history_in state) slots)))
  add_saved =
      stored_saved state slots (is_done told) (offered text (journal_of (history_in state) slots)) state' slots' (stored_add state slots text told state' slots' p) is
      ∙ ap (saved_of (editor_in state)) (sym (record_done told (history_in state) (offered text (journal_of (history_in state) slots))))

-- what `forget` hands back for an entry of a saved state's history, with this answer
abbrev forget_for : List ℕ → List ℕ → ℕ → Result ℕ ForgetRefusal → History
forget_for state slots k told = record_left told (history_in state) (forgotten k (journal_of (history_in state) slots))

module _ (state slots : List ℕ) (k : ℕ) (told : Result ℕ ForgetRefusal) (state' slots' : List ℕ) (p : SavedForget state slots k told state' slots') (g : good_saved state slots ≡ true) where
  saved_for : state' ≡ saved_of (editor_in state) (forget_for state slots k told)
  saved_for =
      stored_saved state slots (is_gone told) (forgotten k (journal_of (history_in state) slots)) state' slots' (stored_forget state slots k told state' slots' p) (good_saved_parts state slots g).0

  held_for : history_in state' ≡ forget_for state slots k told
  held_for = ap history_in saved_for ∙ history_saved_lem (editor_in state) (forget_for state slots k told) (good_whole state slots g)

  pub forget_by_value : Forgets (history_in state) slots k (history_in state') told slots'
  unfolding saved_forget_answer
  forget_by_value =
      record {
        answer = p.answer ∙ ap (λ (t : Bool). forget_answer t k (journal_of (history_in state) slots).entries) (g ∙ sym (good_history state slots g));
        state = held_for;
        bytes = p.held;
      }

  pub forget_saved : state' ≡ saved_of (editor_in state) (history_in state')
  forget_saved = saved_for ∙ ap (saved_of (editor_in state)) (sym held_for)

-- a byte typed into a full line is answered dropped, and nothing changes: not a byte of the state, nor of any buffer
pub dropped_saved : (state slots prompt : List ℕ) (byte : ℕ) (line screen : List ℕ) (told : Result Pressed KeyRefusal) (state' slots' line' screen' : List ℕ)
    → SavedKey state slots prompt byte line screen told state' slots' line' screen' → good_saved state slots ≡ true → good_prompt prompt ≡ true → limit ≤ length line
    → (editor_in state).mode ≡ Typing → limit ≤ (editor_in state).length → 0x20 ≤ byte → (byte ≡ 0x7F → ⊥)
    → (told ≡ Ok Dropped) × (state' ≡ state) × (slots' ≡ slots) × (line' ≡ line) × (screen' ≡ screen)
dropped_saved state slots prompt byte line screen told state' slots' line' screen' p good fair room typing full shown not-del =
    let is = good_saved_parts state slots good in
    let d = dropped (editor_in state) (history_in state) slots prompt byte line screen (key_for state (turn_in state slots prompt byte) told) slots' line' screen'
    (key_by_value state slots prompt byte line screen told state' slots' line' screen' p is.0) is.1 fair room typing full shown not-del in (
      d.0,
      key_saved state slots prompt byte line screen told state' slots' line' screen' p is.0 ∙ same_saved d.1 d.2 ∙ saved_restored state is.0,
      d.3,
      d.4,
      d.5,
    )

-- no key changes the profile of a saved state, taken or refused; a text that is added and an entry that is forgotten leave every byte of the editor
module _ (state slots prompt : List ℕ) (byte : ℕ) (line screen : List ℕ) (told : Result Pressed KeyRefusal) (state' slots' line' screen' : List ℕ)
    (p : SavedKey state slots prompt byte line screen told state' slots' line' screen') where
  kept_good : good_saved state slots ≡ true → (editor_in state').profile ≡ (editor_in state).profile
  kept_good good =
      let is = good_saved_parts state slots good in
      let k : KeyAnswer = key_for state (turn_in state slots prompt byte) told in
      let v = key_by_value state slots prompt byte line screen told state' slots' line' screen' p is.0 in
      let g = stays_good (editor_in state) (history_in state) slots prompt byte line screen k slots' line' screen' is.1 v in
      let whole = (length_of_lem k.editor (good_line_lem k.editor (good_parts k.editor k.history slots' g).0)).0 in
      ap (λ (x : List ℕ). (editor_in x).profile) (key_saved state slots prompt byte line screen told state' slots' line' screen' p is.0)
      ∙ ap (λ (x : Editor). x.profile) (editor_saved_lem k.editor k.history whole)
      ∙ profile_kept (editor_in state) (history_in state) slots prompt byte line screen k slots' line' screen' v

  pub kept_saved : (editor_in state').profile ≡ (editor_in state).profile
  unfolding press_answer key_answer
  kept_saved = by (good_saved state slots) refl
    where
      by : (t : Bool) → good_saved state slots ≡ t → (editor_in state').profile ≡ (editor_in state).profile
      by true g = kept_good g
      by false g = ap (λ (x : List ℕ). (editor_in x).profile) (p.kept ∙ then_is _ _ _ (ap refused (p.answer ∙ else_is _ _ _ g)))

add_keeps : (state slots text : List ℕ) (told : Result ⊤ AddRefusal) (state' slots' : List ℕ) → SavedAdd state slots text told state' slots' → take editor_size state' ≡ take editor_size state
unfolding saved_answer add_answer
add_keeps state slots text told state' slots' p =
    editor_stays state slots (is_done told) (offered text (journal_of (history_in state) slots)) state' slots' (stored_add state slots text told state' slots' p) (λ t. by (good_saved state slots) refl t)
  where
    by : (b : Bool) → good_saved state slots ≡ b → is_done told ≡ true → b ≡ true
    by true g t = refl
    by false g t = sym (ap is_done (p.answer ∙ else_is _ _ _ g)) ∙ t

pub add_kept : (state slots text : List ℕ) (told : Result ⊤ AddRefusal) (state' slots' : List ℕ) → SavedAdd state slots text told state' slots'
    → (editor_in state').profile ≡ (editor_in state).profile
add_kept state slots text told state' slots' p = ap (λ (x : Editor). x.profile) (same_editor state state' (add_keeps state slots text told state' slots' p))

pub forget_keeps : (state slots : List ℕ) (k : ℕ) (told : Result ℕ ForgetRefusal) (state' slots' : List ℕ) → SavedForget state slots k told state' slots' → take editor_size state' ≡ take editor_size state
unfolding saved_forget_answer forget_answer
forget_keeps state slots k told state' slots' p =
    editor_stays state slots (is_gone told) (forgotten k (journal_of (history_in state) slots)) state' slots' (stored_forget state slots k told state' slots' p) (λ t. by (good_saved state slots) refl t)
  where
    by : (b : Bool) → good_saved state slots ≡ b → is_gone told ≡ true → b ≡ true
    by true g t = refl
    by false g t = sym (ap is_gone (p.answer ∙ else_is _ _ _ g)) ∙ t

pub forget_kept : (state slots : List ℕ) (k : ℕ) (told : Result ℕ ForgetRefusal) (state' slots' : List ℕ) → SavedForget state slots k told state' slots'
    → (editor_in state').profile ≡ (editor_in state).profile
forget_kept state slots k told state' slots' p = ap (λ (x : Editor). x.profile) (same_editor state state' (forget_keeps state slots k told state' slots' p))
