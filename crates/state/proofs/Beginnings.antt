-- Where a history begins, of saved states: a key and an add change the bytes of one slot at most and drop no entry where there is room; and in two good states that differ in nothing else
-- every call answers the same and leaves two such states.
use Rattle.std.specs.Prelude.{Result, ⊤}
use Prim.Native.Nat.{ℕ, ◌<◌}
use mathlib.Core.Path.{◌≡◌, refl, sym, ap, ◌∙◌}
use mathlib.Core.Bool.{Bool, true, false}
use mathlib.Core.List.{List}
use Rattle.buffer.proofs.Choices.{else_is, then_is}
use Rattle.history.specs.Slots.{slot_after, ChangesOnly}
use Rattle.history.specs.Journal.{Journal, offered, Alike, Longer, journal_of}
use Rattle.history.specs.Answer.{add_answer, slots_by, record_by, Addition}
use Rattle.history.specs.declared.stepping.History.{History}
use Rattle.history.specs.declared.adding.AddRefusal.{AddRefusal}
use Rattle.history.specs.declared.forgetting.ForgetRefusal.{ForgetRefusal}
use Rattle.history.proofs.Called.{is_done, add_longer}
use Rattle.history.proofs.Begun.{changes_none, add_changes, add_alike as add_alike_by_value}
use Rattle.history.proofs.Shortened.{forget_alike as forget_alike_by_value}
use Rattle.editor.specs.declared.line.Editor.{Editor}
use Rattle.editor.specs.declared.drawing.KeyAnswer.{KeyAnswer}
use Rattle.editor.specs.declared.drawing.Pressed.{Pressed}
use Rattle.editor.specs.declared.drawing.KeyRefusal.{KeyRefusal}
use Rattle.editor.specs.Turns.{State, SameBut}
use Rattle.editor.specs.Answer.{state_of, key_answer, refused, Pressing}
use Rattle.editor.proofs.Lines.{good_line_lem, length_of_lem}
use Rattle.editor.proofs.States.{good_parts, state_parts}
use Rattle.editor.proofs.Fine.{stays_good}
use Rattle.editor.proofs.Begun.{key_changes, key_longer, same_answer, same_given, same_shown, alike_after}
use Rattle.state.specs.State.{editor_in, history_in, good_saved}
use Rattle.state.specs.Calls.{turn_in, press_answer, SavedKey, saved_answer, SavedAdd, SavedForget}
use Rattle.state.proofs.Savings.{held_saved, good_saved_parts, good_history}
use Rattle.state.proofs.Stored.{held_in, stored_add, record_done, stored_held, same_editor}
use Rattle.state.proofs.ByValue.{key_for, key_by_value, key_saved, add_by_value, forget_by_value, forget_keeps}

-- one key
module _ (state slots prompt : List ℕ) (byte : ℕ) (line screen : List ℕ) (told : Result Pressed KeyRefusal) (state' slots' line' screen' : List ℕ)
    (p : SavedKey state slots prompt byte line screen told state' slots' line' screen') where
  abbrev key : KeyAnswer
  key = key_for state (turn_in state slots prompt byte) told

  pub key_changes_saved : ChangesOnly (slot_after (history_in state).first (history_in state).count) slots slots'
  unfolding press_answer key_answer
  key_changes_saved = by (good_saved state slots) refl
    where
      by : (t : Bool) → good_saved state slots ≡ t → ChangesOnly (slot_after (history_in state).first (history_in state).count) slots slots'
      by true g =
          key_changes (editor_in state) (history_in state) slots prompt byte line screen (key_for state (turn_in state slots prompt byte) told) slots' line' screen'
          (key_by_value state slots prompt byte line screen told state' slots' line' screen' p (good_saved_parts state slots g).0)
      by false g = changes_none _ slots slots' (p.held ∙ then_is _ _ _ (ap refused (p.answer ∙ else_is _ _ _ g)))

  module _ (g : good_saved state slots ≡ true) where
    key_pressing : Pressing (editor_in state) (history_in state) slots prompt byte line screen key slots' line' screen'
    key_pressing = key_by_value state slots prompt byte line screen told state' slots' line' screen' p (good_saved_parts state slots g).0

    -- what the bytes hold after it
    key_held : held_in state' slots' ≡ state_of key.editor key.history slots'
    key_held =
        let is = good_saved_parts state slots g in
        let stays = stays_good (editor_in state) (history_in state) slots prompt byte line screen key slots' line' screen' is.1 key_pressing in
        ap (λ (x : List ℕ). held_in x slots') (key_saved state slots prompt byte line screen told state' slots' line' screen' p is.0)
        ∙ held_saved key.editor key.history slots' (length_of_lem key.editor (good_line_lem key.editor (good_parts key.editor key.history slots' stays).0)).0

    pub key_longer_saved : (history_in state).count < 100 → Longer (journal_of (history_in state) slots) (journal_of (history_in state') slots')
    unfolding state_of
    key_longer_saved room =
        rw (ap (λ (s : State). s.history) key_held) (key_longer (editor_in state) (history_in state) slots prompt byte line screen key slots' line' screen' key_pressing room)

-- a text that is added
module _ (state slots text : List ℕ) (told : Result ⊤ AddRefusal) (state' slots' : List ℕ) (p : SavedAdd state slots text told state' slots') where
  pub add_changes_saved : ChangesOnly (slot_after (history_in state).first (history_in state).count) slots slots'
  unfolding saved_answer add_answer
  add_changes_saved = by (good_saved state slots) refl
    where
      j : Journal
      j = offered text (journal_of (history_in state) slots)

      by : (t : Bool) → good_saved state slots ≡ t → ChangesOnly (slot_after (history_in state).first (history_in state).count) slots slots'
      by true g =
          let is = good_saved_parts state slots g in
          add_changes (history_in state) slots text (record_by told (history_in state) j) told slots'
          (add_by_value state slots text told state' slots' p is.0 (state_parts (editor_in state) (history_in state) slots is.1).0)
      by false g = changes_none _ slots slots' (p.held ∙ ap (λ (x : Result ⊤ AddRefusal). slots_by x slots j) (p.answer ∙ else_is _ _ _ g))

  module _ (g : good_saved state slots ≡ true) where
    adds : Addition (history_in state) slots text (record_by told (history_in state) (offered text (journal_of (history_in state) slots))) told slots'
    adds =
        let is = good_saved_parts state slots g in
        add_by_value state slots text told state' slots' p is.0 (state_parts (editor_in state) (history_in state) slots is.1).0

    -- what the bytes hold after it
    add_held : held_in state' slots' ≡ state_of (editor_in state) (record_by told (history_in state) (offered text (journal_of (history_in state) slots))) slots'
    add_held =
        stored_held state slots (is_done told) (offered text (journal_of (history_in state) slots)) state' slots' (stored_add state slots text told state' slots' p) g
        ∙ ap (λ (x : History). state_of (editor_in state) x slots') (sym (record_done told (history_in state) (offered text (journal_of (history_in state) slots))))

    pub add_longer_saved : (history_in state).count < 100 → Longer (journal_of (history_in state) slots) (journal_of (history_in state') slots')
    unfolding state_of
    add_longer_saved room =
        rw (ap (λ (s : State). s.history) add_held) (add_longer (history_in state) slots text (record_by told (history_in state) (offered text (journal_of (history_in state) slots))) told slots' room adds)

-- the histories of two such states, and the states with others
histories : (e : Editor) (h : History) (slots : List ℕ) (e₂ : Editor) (h₂ : History) (slots₂ : List ℕ) → SameBut (state_of e h slots) (state_of e₂ h₂ slots₂)
    → Alike (journal_of h slots) (journal_of h₂ slots₂)
unfolding state_of
histories e h slots e₂ h₂ slots₂ a = a.history

with_histories : (e : Editor) (h : History) (slots : List ℕ) (e₂ : Editor) (h₂ : History) (slots₂ : List ℕ) (r : History) (left : List ℕ) (r₂ : History) (left₂ : List ℕ)
    → SameBut (state_of e h slots) (state_of e₂ h₂ slots₂) → Alike (journal_of r left) (journal_of r₂ left₂) → SameBut (state_of e r left) (state_of e₂ r₂ left₂)
unfolding state_of
with_histories e h slots e₂ h₂ slots₂ r left r₂ left₂ a b = record { line = a.line; cursor = a.cursor; mode = a.mode; profile = a.profile; history = b }

-- two good states that differ in where their history begins and in nothing else: a key, a text that is added, and an entry that is forgotten
module _ (state slots state₂ slots₂ : List ℕ) (g : good_saved state slots ≡ true) (g₂ : good_saved state₂ slots₂ ≡ true) (a : SameBut (held_in state slots) (held_in state₂ slots₂)) where
  pub record SameKey (told told₂ : Result Pressed KeyRefusal) (state' slots' line' screen' state₂' slots₂' line₂' screen₂' : List ℕ) : Type 0 where
    pub answer : told₂ ≡ told
    pub given : line₂' ≡ line'
    pub shown : screen₂' ≡ screen'
    pub after : SameBut (held_in state' slots') (held_in state₂' slots₂')

  pub key_alike : (prompt : List ℕ) (byte : ℕ) (line screen : List ℕ) (told told₂ : Result Pressed KeyRefusal) (state' slots' line' screen' state₂' slots₂' line₂' screen₂' : List ℕ)
      → SavedKey state slots prompt byte line screen told state' slots' line' screen' → SavedKey state₂ slots₂ prompt byte line screen told₂ state₂' slots₂' line₂' screen₂'
      → SameKey told told₂ state' slots' line' screen' state₂' slots₂' line₂' screen₂'
  key_alike prompt byte line screen told told₂ state' slots' line' screen' state₂' slots₂' line₂' screen₂' p q =
      let h : History = history_in state in
      let h₂ : History = history_in state₂ in
      let k : KeyAnswer = key_for state (turn_in state slots prompt byte) told in
      let k₂ : KeyAnswer = key_for state₂ (turn_in state₂ slots₂ prompt byte) told₂ in
      let good = (good_saved_parts state slots g).1 in
      let good₂ = (good_saved_parts state₂ slots₂ g₂).1 in
      let v = key_pressing state slots prompt byte line screen told state' slots' line' screen' p g in
      let w = key_pressing state₂ slots₂ prompt byte line screen told₂ state₂' slots₂' line₂' screen₂' q g₂ in
      let alike = alike_after (editor_in state) h slots (editor_in state₂) h₂ slots₂ good good₂ a prompt byte line screen k k₂ slots' slots₂' line' line₂' screen' screen₂' v w in
      record {
        answer = same_answer (editor_in state) h slots (editor_in state₂) h₂ slots₂ good good₂ a prompt byte line screen k k₂ slots' slots₂' line' line₂' screen' screen₂' v w;
        given = same_given (editor_in state) h slots (editor_in state₂) h₂ slots₂ good good₂ a prompt byte line screen k k₂ slots' slots₂' line' line₂' screen' screen₂' v w;
        shown = same_shown (editor_in state) h slots (editor_in state₂) h₂ slots₂ good good₂ a prompt byte line screen k k₂ slots' slots₂' line' line₂' screen' screen₂' v w;
        after =
            rw (
              key_held state slots prompt byte line screen told state' slots' line' screen' p g,
              key_held state₂ slots₂ prompt byte line screen told₂ state₂' slots₂' line₂' screen₂' q g₂,
            ) alike;
      }

  pub add_alike : (text : List ℕ) (told told₂ : Result ⊤ AddRefusal) (state' slots' state₂' slots₂' : List ℕ) → SavedAdd state slots text told state' slots' → SavedAdd state₂ slots₂ text told₂ state₂' slots₂'
      → (told₂ ≡ told) × SameBut (held_in state' slots') (held_in state₂' slots₂')
  add_alike text told told₂ state' slots' state₂' slots₂' p q =
      let h : History = history_in state in
      let h₂ : History = history_in state₂ in
      let good = good_history state slots g in
      let good₂ = good_history state₂ slots₂ g₂ in
      let both =
      add_alike_by_value h slots h₂ slots₂ good good₂ (histories (editor_in state) h slots (editor_in state₂) h₂ slots₂ a) text _ _ told told₂ slots' slots₂'
      (adds state slots text told state' slots' p g) (adds state₂ slots₂ text told₂ state₂' slots₂' q g₂)
      in (
        both.0,
        rw (add_held state slots text told state' slots' p g, add_held state₂ slots₂ text told₂ state₂' slots₂' q g₂)
            (with_histories (editor_in state) h slots (editor_in state₂) h₂ slots₂ _ slots' _ slots₂' a both.1),
      )

  pub forget_alike : (k : ℕ) (told told₂ : Result ℕ ForgetRefusal) (state' slots' state₂' slots₂' : List ℕ) → SavedForget state slots k told state' slots' → SavedForget state₂ slots₂ k told₂ state₂' slots₂'
      → (told₂ ≡ told) × SameBut (held_in state' slots') (held_in state₂' slots₂')
  forget_alike k told told₂ state' slots' state₂' slots₂' p q =
      let h : History = history_in state in
      let h₂ : History = history_in state₂ in
      let both =
      forget_alike_by_value h slots h₂ slots₂ (good_history state slots g) (good_history state₂ slots₂ g₂) (histories (editor_in state) h slots (editor_in state₂) h₂ slots₂ a) k (history_in state')
      (history_in state₂')
      told
      told₂
      slots'
      slots₂'
      (forget_by_value state slots k told state' slots' p g)
      (forget_by_value state₂ slots₂ k told₂ state₂' slots₂' q g₂)
      in (
        both.0,
        rw (same_editor state state' (forget_keeps state slots k told state' slots' p), same_editor state₂ state₂' (forget_keeps state₂ slots₂ k told₂ state₂' slots₂' q))
            (with_histories (editor_in state) h slots (editor_in state₂) h₂ slots₂ (history_in state') slots' (history_in state₂') slots₂' a both.1),
      )
