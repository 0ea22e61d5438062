-- Demand 1, what lasts: no sequence of calls from fresh reaches a bad state; a byte typed into a full line is dropped; two further bytes bring typing back, in the profile of ECMA-48
-- seventeen.
use Rattle.std.specs.Prelude.{Ok, Err, Result, ⊤}
use Prim.Native.Nat.{ℕ, ◌≤◌}
use mathlib.Core.Path.{◌≡◌, refl, ap, ◌∙◌}
use mathlib.Core.Bool.{Bool, true, false, cond}
use mathlib.Core.List.{List}
use native.Mathlib.Omega.{arith}
use lib.Dec.{ltb}
use lib.ListN.{length}
use borrow.Author.Tests.{ltb-true, ltb-false}
use Rattle.tree.specs.declared.check.BadFrame.{BadFrame}
use Rattle.tree.specs.Growth.{admits}
use Rattle.history.specs.Journal.{no_entries, record_of, slots_of as journal_slots}
use Rattle.history.specs.declared.stepping.History.{History}
use Rattle.keys.specs.declared.standing.Profile.{Profile}
use Rattle.keys.specs.declared.standing.Profile.TheVariants.{Rust}
use Rattle.keys.specs.declared.standing.Mode.TheVariants.{Typing}
use Rattle.keys.specs.Modes.{patience}
use Rattle.editor.specs.declared.line.Editor.{Editor}
use Rattle.editor.specs.declared.drawing.KeyAnswer.{KeyAnswer}
use Rattle.editor.specs.declared.drawing.Pressed.{Pressed}
use Rattle.editor.specs.declared.drawing.KeyRefusal.{KeyRefusal}
use Rattle.editor.specs.declared.drawing.Pressed.TheVariants.{Dropped}
use Rattle.editor.specs.Line.{limit, fresh_editor}
use Rattle.editor.specs.Turns.{State}
use Rattle.editor.specs.Answer.{state_of, good_state, good_prompt, refused, Pressing}
use Rattle.editor.proofs.Fine.{fine_of, fine_good, turn_fine, stays_good}
use Rattle.editor.proofs.Called.{dropped, Presses, no_key, taken_key, typing_back}
use Rattle.editor.proofs.Lasting.{Reached as ReachedByValue, by_fresh, never_reached_bad as never_reached_bad_by_value}
use Rattle.state.specs.State.{editor_in, good_saved}
use Rattle.state.specs.Calls.{SavedKey}
use Rattle.state.proofs.Lasting.{Reached, never_reached_bad}
use Rattle.state.proofs.ByValue.{dropped_saved}
use Rattle.session.specs.Prints.{prompt}
use Rattle.session.specs.Lines.{Form, tree, keys, formless, line_form}
use Rattle.session.specs.Calls.{fresh, with_state, took_by, on_line, TakingLine, image_of, turn_in, tree_before, Kept, PressingKey}
use Rattle.session.specs.Sizes.{key_room}
use Rattle.session.specs.declared.standing.Session.{Session}
use Rattle.session.specs.declared.taking.Took.{Took}
use Rattle.session.specs.declared.taking.Taken.TheVariants.{Over, NoRoom as NoBuffer}
use Rattle.session.specs.declared.pressing.Pressing.{Pressing as SessionKey}

-- NO BAD STATE: what the public calls reach (`Reached`: in any order, each with its own buffers, refused or not) is good. As saved states: `begin`, `press`, `add`, `forget`.
pub never_bad : (state slots : List ℕ) → Reached state slots → good_saved state slots ≡ true
never_bad = never_reached_bad

-- By value: `Editor::fresh`, `recalled`, `restored`, `key` and `key_tested`, `History::fresh`, `fresh_in`, `restored`, `previous` and `next`, `offer`, `add_command` and
-- `add_tested`, `forget` and `forget_tested`.
pub never_bad_by_value : (e : Editor) (h : History) (slots : List ℕ) → ReachedByValue e h slots → good_state e h slots ≡ true
never_bad_by_value = never_reached_bad_by_value

module _ (e : Editor) (h : History) (slots prompt : List ℕ) (byte : ℕ) (line screen : List ℕ) (k : KeyAnswer) (slots₁ line₁ screen₁ : List ℕ)
    (first : Pressing e h slots prompt byte line screen k slots₁ line₁ screen₁) where
  -- the same by value: a good state stays good, whatever the key and its answer
  pub stays : good_state e h slots ≡ true → good_state k.editor k.history slots₁ ≡ true
  stays g = stays_good e h slots prompt byte line screen k slots₁ line₁ screen₁ g first

  -- DROPPED: while typing, at length 255, a byte of 20 to FF other than 7F is answered dropped, and nothing changes
  pub full_line : good_state e h slots ≡ true → good_prompt prompt ≡ true → limit ≤ length line → e.mode ≡ Typing → limit ≤ e.length → 0x20 ≤ byte → (byte ≡ 0x7F → ⊥)
      → (k.answer ≡ Ok Dropped) × (k.editor ≡ e) × (k.history ≡ h) × (slots₁ ≡ slots) × (line₁ ≡ line) × (screen₁ ≡ screen)
  full_line = dropped e h slots prompt byte line screen k slots₁ line₁ screen₁ first

  -- (the same of a saved state: `full_line_saved`; of `rissemat_key`: Exported)

  -- TYPING BACK in the profile of the original: from every state, after two keys that are taken, neither of them ESC
  pub back_to_typing : e.profile ≡ Rust → (prompt' : List ℕ) (byte' : ℕ) (line' screen' : List ℕ) (k' : KeyAnswer) (slots₂ line₂ screen₂ : List ℕ)
      → Pressing k.editor k.history slots₁ prompt' byte' line' screen' k' slots₂ line₂ screen₂
      → refused k.answer ≡ false → refused k'.answer ≡ false → (byte ≡ 0x1B → ⊥) → (byte' ≡ 0x1B → ⊥) → k'.editor.mode ≡ Typing
  back_to_typing o prompt' byte' line' screen' k' slots₂ line₂ screen₂ second t t' n n' =
      (typing_back e h slots 2 k'.editor k'.history slots₂ (rw o (omega arith))
      (taken_key (taken_key no_key first t n) second t' n')).0

-- TYPING BACK in every profile: from every state, after as many keys that are taken as the profile's patience, 2 or 17, none of them ESC, however many were refused between them. The
-- profile is still the one that was chosen.
pub back_to_typing_in : (e : Editor) (h : History) (slots : List ℕ) (n : ℕ) (e' : Editor) (h' : History) (slots' : List ℕ)
    → patience e.profile ≤ n → Presses e h slots n e' h' slots' → (e'.mode ≡ Typing) × (e'.profile ≡ e.profile)
back_to_typing_in = typing_back

-- DROPPED, as `press` on a saved state answers it
pub full_line_saved : (state slots prompt : List ℕ) (byte : ℕ) (line screen : List ℕ) (told : Result Pressed KeyRefusal) (state' slots' line' screen' : List ℕ)
    → SavedKey state slots prompt byte line screen told state' slots' line' screen' → good_saved state slots ≡ true → good_prompt prompt ≡ true → limit ≤ length line
    → (editor_in state).mode ≡ Typing → limit ≤ (editor_in state).length → 0x20 ≤ byte → (byte ≡ 0x7F → ⊥)
    → (told ≡ Ok Dropped) × (state' ≡ state) × (slots' ≡ slots) × (line' ≡ line) × (screen' ≡ screen)
full_line_saved = dropped_saved

-- NO BAD STATE in a session: what its lines and keys reach from `Session::fresh` and slots that hold no entry, each with buffers of its own, refused or not
pub data ReachedInSession : Session → List ℕ → Type 0 where
  begun : (profile : Profile) → ReachedInSession (fresh profile) (journal_slots no_entries)
  by_line : {h : Session} {slots line image frame image' frame' : List ℕ} {r : Took} → ReachedInSession h slots → TakingLine h line image frame r image' frame'
      → ReachedInSession r.session slots
  by_key : {h : Session} {image slots out slots' out' : List ℕ} {byte : ℕ} {r : SessionKey} → ReachedInSession h slots → PressingKey h image slots byte out r slots' out'
      → ReachedInSession r.session slots'

-- a line leaves editor and history
Leaves : Session → Took → Type 0
Leaves h t = (t.session.editor ≡ h.editor) × (t.session.history ≡ h.history)

picks : (h : Session) (b : Bool) (t u : Took) → Leaves h t → Leaves h u → Leaves h (cond b t u)
picks h true t u p q = p
picks h false t u p q = q

form_leaves : (h : Session) (image : List ℕ) (f : Form) → Leaves h (took_by h image f)
unfolding took_by Leaves
form_leaves h image (tree frame) =
    picks h h.keyed _ _ (refl, refl) (picks h (admits h.walk frame image) _ _ (refl, refl) (refl, refl))
form_leaves h image (keys bytes) = (refl, refl)
form_leaves h image formless = (refl, refl)

line_leaves : (h : Session) (line image frame : List ℕ) → Leaves h (on_line h image frame (record { session = h; answer = Over }) (λ n. record { session = h; answer = NoBuffer n }) (took_by h image (line_form line)))
unfolding on_line Leaves
line_leaves h line image frame =
    picks h (ltb h.lines 65535) _ _
    (picks h (ltb (length frame) 512) _ _ (refl, refl) (picks h (ltb (length image) 32768) _ _ (refl, refl) (form_leaves h image (line_form line)))) (refl, refl)

same_good : {e e' : Editor} {h h' : History} {slots slots' : List ℕ} → e ≡ e' → h ≡ h' → slots ≡ slots' → good_state e h slots ≡ good_state e' h' slots'
same_good p q r = cc

line_good : (h : Session) (slots line image frame image' frame' : List ℕ) (r : Took) → TakingLine h line image frame r image' frame' → good_state h.editor h.history slots ≡ true
    → good_state r.session.editor r.session.history slots ≡ true
unfolding Leaves
line_good h slots line image frame image' frame' r t g =
    let k = line_leaves h line image frame in
    same_good (ap (λ (x : Took). x.session.editor) t.answer ∙ k.0) (ap (λ (x : Took). x.session.history) t.answer ∙ k.1) refl ∙ g

key_good : (h : Session) (image slots : List ℕ) (byte : ℕ) (out : List ℕ) (r : SessionKey) (slots' out' : List ℕ) → PressingKey h image slots byte out r slots' out'
    → good_state h.editor h.history slots ≡ true → good_state r.session.editor r.session.history slots' ≡ true
key_good h image slots byte out r slots' out' p g = by (ltb (length out) key_room) (tree_before byte (image_of h image)) refl refl
  where
    after : Session → List ℕ → Bool
    after x l = good_state x.editor x.history l

    stays_so : Kept h slots out r slots' out' → after r.session slots' ≡ true
    stays_so k = ap (λ (x : Session). after x slots') k.session ∙ ap (after h) k.held ∙ g

    by : (b : Bool) (c : Result ⊤ BadFrame) → ltb (length out) key_room ≡ b → tree_before byte (image_of h image) ≡ c → after r.session slots' ≡ true
    by true c e f = stays_so (p.short (ltb-true (length out) key_room e)).1
    by false (Err refusal) e f = stays_so (p.bad_tree (ltb-false (length out) key_room e) refusal.number f).1
    by false (Ok u) e f =
        let d = p.pressed (ltb-false (length out) key_room e) f g in
        let s : State = (turn_in h slots byte).after in
        ap (λ (x : Session). after x slots') d.session ∙ ap (after (with_state h s)) d.held
        ∙ fine_good s (turn_fine prompt (state_of h.editor h.history slots) byte (fine_of h.editor h.history slots g))

pub never_bad_in_session : (h : Session) (slots : List ℕ) → ReachedInSession h slots → good_state h.editor h.history slots ≡ true
never_bad_in_session _ _ (begun profile) =
    never_bad_by_value (fresh_editor profile) (record_of no_entries) (journal_slots no_entries) (by_fresh profile (record { state = refl; bytes = refl }))
never_bad_in_session _ slots (by_line {h} {line = line} {image = image} {frame = frame} {image' = image'} {frame' = frame'} {r = r} m t) =
    line_good h slots line image frame image' frame' r t (never_bad_in_session h slots m)
never_bad_in_session _ slots' (by_key {h} {image} {slots} {out} {out' = out'} {byte = byte} {r = r} m p) =
    key_good h image slots byte out r slots' out' p (never_bad_in_session h slots m)
