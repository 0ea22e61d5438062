-- What the public calls of history and editor hand out by value, from the fresh editor and a fresh history on, is a good state.
use Rattle.std.specs.Prelude.{Result, ⊤, Some, Option}
use Prim.Native.Nat.{ℕ, ◌≤◌}
use mathlib.Core.Path.{◌≡◌, sym, ap, ◌∙◌}
use mathlib.Core.Bool.{true}
use mathlib.Core.List.{List}
use native.Mathlib.Omega.{arith}
use lib.ListN.{length}
use Rattle.text.specs.Decoding.{well_formed}
use Rattle.history.specs.Journal.{good}
use Rattle.history.specs.Answer.{Emptied, Offered, Addition}
use Rattle.history.specs.Forgotten.{Forgets}
use Rattle.history.specs.Steps.{back, onward}
use Rattle.history.specs.Saved.{restored as restored_history}
use Rattle.history.specs.declared.stepping.History.{History}
use Rattle.history.specs.declared.stepping.Step.{Step}
use Rattle.history.specs.declared.adding.AddRefusal.{AddRefusal}
use Rattle.history.specs.declared.forgetting.ForgetRefusal.{ForgetRefusal}
use Rattle.history.proofs.Journals.{back_good, onward_good}
use Rattle.history.proofs.Lasting.{emptied_good, offered_good, added_good, forgets_good}
use Rattle.history.proofs.Saved.{restored_good as restored_history_good}
use Rattle.keys.specs.declared.standing.Profile.{Profile}
use Rattle.editor.specs.declared.line.Editor.{Editor}
use Rattle.editor.specs.declared.drawing.KeyAnswer.{KeyAnswer}
use Rattle.editor.specs.Line.{limit, holding, fresh_editor, good_line, good_editor}
use Rattle.editor.specs.Answer.{good_state, Pressing}
use Rattle.editor.specs.Saved.{restored}
use Rattle.editor.proofs.States.{editor_parts, good_editor_lem, state_parts, good_state_lem, held_good}
use Rattle.editor.proofs.Fine.{fresh_good, stays_good}
use Rattle.editor.proofs.Saved.{restored_good}

-- What calls reach, in any order and each with buffers of its own: an editor, and a history with its slots. Every public call that hands out one of them is counted. At any time
-- `Editor::fresh`, `Editor::recalled` and `Editor::restored` hand out an editor, `History::fresh_in` (`History::fresh` is the same record, for slots that are zeros already) and
-- `History::restored` a history with its slots, both `restored` from any bytes; all other calls take a state that was reached (`key_tested` as `key`, `add_tested` as `add_command`, `forget_tested` as `forget`).
pub data Reached : Editor → History → List ℕ → Type 0 where
  by_fresh : {h : History} {slots : List ℕ} (profile : Profile) → Emptied h slots → Reached (fresh_editor profile) h slots
  by_fresh_editor : {e : Editor} {h : History} {slots : List ℕ} (profile : Profile) → Reached e h slots → Reached (fresh_editor profile) h slots
  by_recalled : {e r : Editor} {h : History} {slots : List ℕ} (text : List ℕ) → Reached e h slots → length text ≤ limit → r ≡ holding text (length text) e.mode e.profile
      → Reached r h slots
  by_restored_editor : {e r : Editor} {h : History} {slots : List ℕ} {told : Option Editor} (bytes : List ℕ) → Reached e h slots → told ≡ restored bytes → told ≡ Some r → Reached r h slots
  by_fresh_in : {e : Editor} {h r : History} {slots left : List ℕ} → Reached e h slots → Emptied r left → Reached e r left
  by_restored_history : {e : Editor} {h r : History} {slots left : List ℕ} {told : Option History} (bytes : List ℕ) → Reached e h slots → told ≡ restored_history bytes left
      → told ≡ Some r → Reached e r left
  by_previous : {e : Editor} {h : History} {slots : List ℕ} {step : Step} → Reached e h slots → step ≡ back h → Reached e step.history slots
  by_next : {e : Editor} {h : History} {slots : List ℕ} {step : Step} → Reached e h slots → step ≡ onward h → Reached e step.history slots
  by_offer : {e : Editor} {h r : History} {slots left : List ℕ} (text : List ℕ) → Reached e h slots → length text ≤ 255 → well_formed text ≡ true → Offered h slots text r left
      → Reached e r left
  by_add_command : {e : Editor} {h r : History} {slots text left : List ℕ} {told : Result ⊤ AddRefusal} → Reached e h slots → Addition h slots text r told left → Reached e r left
  by_forget : {e : Editor} {h r : History} {slots left : List ℕ} {k : ℕ} {told : Result ℕ ForgetRefusal} → Reached e h slots → Forgets h slots k r told left → Reached e r left
  by_key : {e : Editor} {h : History} {slots prompt line screen slots' line' screen' : List ℕ} {byte : ℕ} {k : KeyAnswer} → Reached e h slots
      → Pressing e h slots prompt byte line screen k slots' line' screen' → Reached k.editor k.history slots'

-- the editor that holds another text in the same mode
text_held : (e : Editor) (text : List ℕ) → length text ≤ limit → good_line (holding text (length text) e.mode e.profile) ≡ true
unfolding limit
text_held e text l = held_good text (length text) e.mode e.profile l (omega arith)

recalled_good : (e : Editor) (text : List ℕ) → length text ≤ limit → good_editor e ≡ true → good_editor (holding text (length text) e.mode e.profile) ≡ true
unfolding holding
recalled_good e text l g = good_editor_lem (holding text (length text) e.mode e.profile) (editor_parts e g).0 (text_held e text l)

pub never_reached_bad : (e : Editor) (h : History) (slots : List ℕ) → Reached e h slots → good_state e h slots ≡ true
never_reached_bad _ h slots (by_fresh profile o) = good_state_lem (fresh_editor profile) h slots (fresh_good profile) (emptied_good h slots o)
never_reached_bad _ h slots (by_fresh_editor {e} profile r) = good_state_lem (fresh_editor profile) h slots (fresh_good profile) (state_parts e h slots (never_reached_bad e h slots r)).1
never_reached_bad r h slots (by_recalled {e} text t l q) =
    let b = state_parts e h slots (never_reached_bad e h slots t) in
    good_state_lem r h slots (ap good_editor q ∙ recalled_good e text l b.0) b.1
never_reached_bad r h slots (by_restored_editor {e} bytes t q p) =
    good_state_lem r h slots (restored_good bytes r (sym q ∙ p)) (state_parts e h slots (never_reached_bad e h slots t)).1
never_reached_bad e r left (by_fresh_in {h = h} {slots = slots} t o) =
    good_state_lem e r left (state_parts e h slots (never_reached_bad e h slots t)).0 (emptied_good r left o)
never_reached_bad e r left (by_restored_history {h = h} {slots = slots} bytes t q p) =
    good_state_lem e r left (state_parts e h slots (never_reached_bad e h slots t)).0 (restored_history_good bytes left r (sym q ∙ p))
never_reached_bad e _ slots (by_previous {h = h} {step = step} r q) =
    let p = state_parts e h slots (never_reached_bad e h slots r) in
    good_state_lem e step.history slots p.0 (ap (λ (x : Step). good x.history slots) q ∙ back_good h slots p.1)
never_reached_bad e _ slots (by_next {h = h} {step = step} r q) =
    let p = state_parts e h slots (never_reached_bad e h slots r) in
    good_state_lem e step.history slots p.0 (ap (λ (x : Step). good x.history slots) q ∙ onward_good h slots p.1)
never_reached_bad e r left (by_offer {h = h} {slots = slots} text t l w o) =
    let p = state_parts e h slots (never_reached_bad e h slots t) in
    good_state_lem e r left p.0 (offered_good h slots text r left (record { is_good_lem = p.1; short = l; formed = w }) o)
never_reached_bad e r left (by_add_command {h = h} {slots = slots} {text = text} {told = told} t a) =
    let p = state_parts e h slots (never_reached_bad e h slots t) in
    good_state_lem e r left p.0 (added_good h slots text r told left p.1 a)
never_reached_bad e r left (by_forget {h = h} {slots = slots} {k = k} {told = told} t a) =
    let p = state_parts e h slots (never_reached_bad e h slots t) in
    good_state_lem e r left p.0 (forgets_good h slots k r told left p.1 a)
never_reached_bad _ _ slots' (by_key {e} {h} {slots} {prompt} {line} {screen} {line' = line'} {screen' = screen'} {byte = byte} {k = k} r p) =
    stays_good e h slots prompt byte line screen k slots' line' screen' (never_reached_bad e h slots r) p
