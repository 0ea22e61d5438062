-- No call leads from a good saved state to a bad one, and a fresh session is good: no sequence of calls reaches a bad one.
use Rattle.std.specs.Prelude.{Ok, Err, Result, ⊤}
use Prim.Native.Nat.{ℕ}
use mathlib.Core.Path.{◌≡◌, sym, ap, ◌∙◌}
use mathlib.Core.Bool.{Bool, true, false, cond}
use mathlib.Core.List.{List, []}
use Rattle.buffer.proofs.Choices.{true_is_not_false}
use Rattle.history.specs.Journal.{no_entries, offered, record_of, slots_of as journal_slots, journal_of}
use Rattle.history.specs.Answer.{add_answer}
use Rattle.history.specs.declared.adding.AddRefusal.{AddRefusal}
use Rattle.history.specs.declared.adding.AddRefusal.TheVariants.{BadState as BadHistory, TooLong, IllFormed}
use Rattle.history.specs.Forgotten.{forgotten, is_gone}
use Rattle.history.specs.declared.forgetting.ForgetRefusal.{ForgetRefusal}
use Rattle.history.specs.declared.forgetting.ForgetRefusal.TheVariants.{BadState as NoHistory, NoEntry}
use Rattle.history.proofs.Journals.{Fair, good_fair}
use Rattle.history.proofs.Called.{is_done, done_has, taken_fair}
use Rattle.history.proofs.Shortened.{gone_has, fair_forgotten}
use Rattle.keys.specs.Modes.{profile_of}
use Rattle.editor.specs.declared.drawing.Pressed.{Pressed}
use Rattle.editor.specs.declared.drawing.KeyRefusal.{KeyRefusal}
use Rattle.editor.specs.Line.{holding, fresh_editor}
use Rattle.editor.specs.Turns.{State, turn_of, after_keys}
use Rattle.editor.specs.Answer.{state_of, editor_of, history_of, slots_of, refused}
use Rattle.editor.proofs.Fine.{fine_of, fine_good, turn_fine, never_bad}
use Rattle.state.specs.State.{saved_of, editor_in, history_in, good_saved}
use Rattle.state.specs.Calls.{fresh_saved, Beginning, turn_in, saved_after, SavedKey, saved_answer, SavedAdd, saved_forget_answer, SavedForget}
use Rattle.state.proofs.Savings.{good_saved_parts, good_history}
use Rattle.state.proofs.Stored.{saved_good, stored_add, stored_forget, stored_stays}

pub fresh_good : (number : ℕ) → good_saved (fresh_saved number) (journal_slots no_entries) ≡ true
unfolding fresh_saved editor_of after_keys holding
fresh_good number = saved_good (fresh_editor (profile_of number)) (record_of no_entries) (journal_slots no_entries) (never_bad (profile_of number) [] [])

either_good : (t : Bool) (a b s r : List ℕ) → good_saved a s ≡ true → good_saved b r ≡ true → good_saved (cond t a b) (cond t s r) ≡ true
either_good true a b s r p q = p
either_good false a b s r p q = q

pub key_stays : (state slots prompt : List ℕ) (byte : ℕ) (line screen : List ℕ) (told : Result Pressed KeyRefusal) (state' slots' line' screen' : List ℕ) → good_saved state slots ≡ true
    → SavedKey state slots prompt byte line screen told state' slots' line' screen' → good_saved state' slots' ≡ true
unfolding saved_after turn_in
key_stays state slots prompt byte line screen told state' slots' line' screen' g k =
    let a : State = (turn_of prompt (state_of (editor_in state) (history_in state) slots) byte).after in
    let fine = turn_fine prompt (state_of (editor_in state) (history_in state) slots) byte (fine_of (editor_in state) (history_in state) slots (good_saved_parts state slots g).1) in
    ap (λ (x : List ℕ). good_saved x slots') k.kept
    ∙ ap (good_saved (cond (refused told) state (saved_of (editor_of a) (history_of a)))) k.held
    ∙ either_good (refused told) state (saved_of (editor_of a) (history_of a)) slots (slots_of a) g (saved_good (editor_of a) (history_of a) (slots_of a) (fine_good a fine))

-- a text that is added, and an entry that is forgotten: the history that is written keeps the rules
done_fair : (state slots text : List ℕ) (told : Result ⊤ AddRefusal) → good_saved state slots ≡ true → told ≡ saved_answer state slots text → is_done told ≡ true
    → Fair (offered text (journal_of (history_in state) slots))
unfolding saved_answer
done_fair state slots text (Ok u) g a t =
    taken_fair (history_in state) slots text (done_has (history_in state) slots text (ap (λ (t : Bool). add_answer t text) (good_history state slots g ∙ sym g) ∙ sym a))
done_fair state slots text (Err BadHistory) g a t = absurd (true_is_not_false (sym t))
done_fair state slots text (Err (TooLong n)) g a t = absurd (true_is_not_false (sym t))
done_fair state slots text (Err (IllFormed n)) g a t = absurd (true_is_not_false (sym t))

pub add_stays : (state slots text : List ℕ) (told : Result ⊤ AddRefusal) (state' slots' : List ℕ) → good_saved state slots ≡ true → SavedAdd state slots text told state' slots'
    → good_saved state' slots' ≡ true
add_stays state slots text told state' slots' g k =
    stored_stays state slots (is_done told) (offered text (journal_of (history_in state) slots)) state' slots' (stored_add state slots text told state' slots' k) g
    (done_fair state slots text told g k.answer)

gone_fair : (state slots : List ℕ) (k : ℕ) (told : Result ℕ ForgetRefusal) → good_saved state slots ≡ true → told ≡ saved_forget_answer state slots k → is_gone told ≡ true
    → Fair (forgotten k (journal_of (history_in state) slots))
unfolding saved_forget_answer
gone_fair state slots k (Ok n) g a t =
    fair_forgotten k (journal_of (history_in state) slots) (gone_has (good_saved state slots) k (journal_of (history_in state) slots).entries n a).1 (good_fair (history_in state) slots (good_history state slots g))
gone_fair state slots k (Err NoHistory) g a t = absurd (true_is_not_false (sym t))
gone_fair state slots k (Err (NoEntry n)) g a t = absurd (true_is_not_false (sym t))

pub forget_stays : (state slots : List ℕ) (k : ℕ) (told : Result ℕ ForgetRefusal) (state' slots' : List ℕ) → good_saved state slots ≡ true → SavedForget state slots k told state' slots'
    → good_saved state' slots' ≡ true
forget_stays state slots k told state' slots' g p =
    stored_stays state slots (is_gone told) (forgotten k (journal_of (history_in state) slots)) state' slots' (stored_forget state slots k told state' slots' p) g
    (gone_fair state slots k told g p.answer)

-- what calls reach: a session that was begun by any profile, whatever its buffers held, then keys, adds and entries forgotten in any order, each with buffers of its own
pub data Reached : List ℕ → List ℕ → Type 0 where
  begun : {profile : ℕ} {state slots state' slots' : List ℕ} → Beginning profile state slots (Ok tt) state' slots' → Reached state' slots'
  by_key : {state slots prompt line screen state' slots' line' screen' : List ℕ} {byte : ℕ} {told : Result Pressed KeyRefusal} → Reached state slots
      → SavedKey state slots prompt byte line screen told state' slots' line' screen' → Reached state' slots'
  by_add : {state slots text state' slots' : List ℕ} {told : Result ⊤ AddRefusal} → Reached state slots → SavedAdd state slots text told state' slots' → Reached state' slots'
  by_forget : {state slots state' slots' : List ℕ} {k : ℕ} {told : Result ℕ ForgetRefusal} → Reached state slots → SavedForget state slots k told state' slots' → Reached state' slots'

-- no sequence of calls reaches a bad state
pub never_reached_bad : (state slots : List ℕ) → Reached state slots → good_saved state slots ≡ true
never_reached_bad state' slots' (begun {profile} b) = ap (λ (x : List ℕ). good_saved x slots') b.kept ∙ ap (good_saved (fresh_saved profile)) b.held ∙ fresh_good profile
never_reached_bad state' slots' (by_key {state} {slots} {prompt} {line} {screen} {line' = line'} {screen' = screen'} {byte = byte} {told = told} r k) =
    key_stays state slots prompt byte line screen told state' slots' line' screen' (never_reached_bad state slots r) k
never_reached_bad state' slots' (by_add {state} {slots} {text} {told = told} r k) =
    add_stays state slots text told state' slots' (never_reached_bad state slots r) k
never_reached_bad state' slots' (by_forget {state} {slots} {k = k} {told = told} r p) =
    forget_stays state slots k told state' slots' (never_reached_bad state slots r) p
