-- Where a history begins: the record holds the slot of the oldest entry, 0 to 99, and the others follow round the end. An add and a key change the bytes of one slot at most; and what is
-- answered, shown, submitted and held after every key, add and entry that is forgotten is the same wherever the entries lie. (The same of the calls for Rust and C: Exported. What a history is: SameAsRust.)
use Rattle.std.specs.Prelude.{Ok, Result, ⊤}
use Prim.Native.Nat.{ℕ, ◌<◌, ◌≤◌}
use mathlib.Core.Path.{◌≡◌, refl, ap, ◌∙◌}
use mathlib.Core.Bool.{Bool, true, false, cond}
use mathlib.Core.List.{List, []}
use native.Mathlib.Omega.{arith}
use lib.ListN.{get_or}
use Rattle.buffer.specs.Lend.{zeros}
use Rattle.buffer.proofs.Choices.{neither}
use Rattle.history.specs.Slots.{slot_after, slot, slot_at, ChangesOnly}
use Rattle.history.specs.Journal.{Journal, no_entries, entry_of, first_after, Alike, record_of, slots_of as journal_slots, journal_of, good}
use Rattle.history.specs.Answer.{number as added_number, value as added_value, Addition}
use Rattle.history.specs.Forgotten.{Forgets, number as forgot_number, value as forgot_value}
use Rattle.history.specs.declared.stepping.History.{History}
use Rattle.history.specs.declared.adding.AddRefusal.{AddRefusal}
use Rattle.history.specs.declared.forgetting.ForgetRefusal.{ForgetRefusal}
use Rattle.history.specs.Steps.{back, onward}
use Rattle.history.proofs.Steps.{back_placed, onward_placed, same_steps}
use Rattle.history.proofs.States.{good_has}
use Rattle.history.proofs.Journals.{Fair, good_fair, fair_held, fair_good, count_held, slots_held}
use Rattle.history.proofs.Called.{add_after}
use Rattle.history.proofs.Lasting.{added_good, forgets_good}
use Rattle.history.proofs.Begun.{entry_lies, zeros_lie, add_changes, numbers_alike, add_alike as add_alike_by_value}
use Rattle.history.proofs.Shortened.{forget_first, forget_alike as forget_alike_by_value}
use Rattle.keys.specs.declared.standing.Profile.{Profile}
use Rattle.keys.specs.Modes.{profile_number}
use Rattle.editor.specs.declared.line.Editor.{Editor}
use Rattle.editor.specs.declared.drawing.KeyAnswer.{KeyAnswer}
use Rattle.editor.specs.declared.drawing.Pressed.{Pressed}
use Rattle.editor.specs.declared.drawing.KeyRefusal.{KeyRefusal}
use Rattle.editor.specs.Line.{good_editor}
use Rattle.editor.specs.Turns.{State, SameBut, after_keys, shown_by}
use Rattle.editor.specs.Answer.{state_of, good_state, number as pressed_number, value as pressed_value, kind as pressed_kind, beside as pressed_beside, Pressing}
use Rattle.editor.proofs.States.{state_parts}
use Rattle.editor.proofs.Fine.{stays_good}
use Rattle.editor.proofs.Begun.{keys_alike, key_changes, same_answer, same_given, same_shown, alike_after}
use Rattle.editor.proofs.Lasting.{Reached as ReachedByValue}
use Rattle.state.specs.State.{history_in, good_saved}
use Rattle.state.specs.Calls.{fresh_saved, SavedKey, SavedAdd, SavedForget}
use Rattle.state.proofs.Stored.{held_in}
use Rattle.state.proofs.Lasting.{Reached, key_stays, add_stays, forget_stays}
use Rattle.state.proofs.Savings.{good_history, saved_first, fresh_saved_lem}
use Rattle.state.proofs.Beginnings.{key_changes_saved, add_changes_saved, key_alike, add_alike, forget_alike}
use Rattle.session.specs.declared.standing.Session.{Session}
use Rattle.promises.proofs.Tables.{told}
use Rattle.promises.proofs.KeyAnswers.{keyed, Lent, press_bad, saved_add_bad, saved_forget_bad}
use Rattle.promises.proofs.Lasting.{never_bad, never_bad_by_value, ReachedInSession, never_bad_in_session}

-- WHERE ENTRIES LIE in a good state: entry k in the slot that is k after the first, round the end, and zeros in all others
pub entry_in_slot : (h : History) (slots : List ℕ) (k : ℕ) → good h slots ≡ true → k < h.count → slot_at (slot_after h.first k) slots ≡ slot (entry_of (journal_of h slots) k)
unfolding journal_of
entry_in_slot h slots k g l =
    let e = entry_lies (journal_of h slots) (good_fair h slots g) k (let c = count_held h slots in omega arith) in
    rw (slots_held h slots g) at e

pub zeros_in_slot : (h : History) (slots : List ℕ) (k : ℕ) → good h slots ≡ true → h.count ≤ k → k < 100 → slot_at (slot_after h.first k) slots ≡ zeros 256
unfolding journal_of
zeros_in_slot h slots k g l b =
    let e = zeros_lie (journal_of h slots) (good_fair h slots g) k (let c = count_held h slots in omega arith) b in
    rw (slots_held h slots g) at e

-- IN EVERY STATE that calls reach (Lasting) the first slot is one of the hundred: by value, in a session, and in the last byte of a saved state
pub by_value : (e : Editor) (h : History) (slots : List ℕ) → ReachedByValue e h slots → h.first < 100
by_value e h slots r = (good_has h slots (state_parts e h slots (never_bad_by_value e h slots r)).1).begins

pub in_session : (s : Session) (slots : List ℕ) → ReachedInSession s slots → s.history.first < 100
in_session s slots r = (good_has s.history slots (state_parts s.editor s.history slots (never_bad_in_session s slots r)).1).begins

abbrev pub first_byte : List ℕ → ℕ
first_byte state = get_or state 265 0

first_below : (state slots : List ℕ) → good_saved state slots ≡ true → first_byte state < 100
first_below state slots g = rw (saved_first state) (good_has (history_in state) slots (good_history state slots g)).begins

pub in_bytes : (state slots : List ℕ) → Reached state slots → (first_byte state ≡ (history_in state).first) × (first_byte state < 100)
in_bytes state slots r = (saved_first state, first_below state slots (never_bad state slots r))

-- FRESH: slot 0
pub fresh : (record_of no_entries).first ≡ 0
unfolding record_of
fresh = refl

pub fresh_byte : (p : Profile) → first_byte (fresh_saved (profile_number p)) ≡ 0
unfolding zeros
fresh_byte p = ap (λ (s : List ℕ). get_or s 265 0) (fresh_saved_lem p)

-- ANY OF THE HUNDRED is good with any history: what a good state holds can begin at each of them, and is the same there
abbrev pub begun_at : ℕ → Journal → Journal
begun_at first j = record { entries = j.entries; place = j.place; first = first }

pub any_slot : (h : History) (slots : List ℕ) (first : ℕ) → good h slots ≡ true → first < 100
    → let j : Journal = begun_at first (journal_of h slots) in
    (good (record_of j) (journal_slots j) ≡ true) × (journal_of (record_of j) (journal_slots j) ≡ j) × Alike (journal_of h slots) j
any_slot h slots first g l =
    let f = good_fair h slots g in
    let j : Journal = begun_at first (journal_of h slots) in
    let fair : Fair j = record { entries = f.entries; placed = f.placed; begins = l } in
    (fair_good j fair, fair_held j fair, record { entries = refl; place = refl })

-- A STEP leaves it alone, so does AN ENTRY THAT IS FORGOTTEN, also the oldest and the last one, and AN ADD moves it on by one, round the end, where it drops the oldest, and nowhere else
pub by_step : (h : History) → ((back h).history.first ≡ h.first) × ((onward h).history.first ≡ h.first)
by_step h = (ap (λ (x : History). x.first) (back_placed h), ap (λ (x : History). x.first) (onward_placed h))

pub by_add : (h : History) (slots text : List ℕ) (r : History) (left : List ℕ) → Addition h slots text r (Ok tt) left
    → r.first ≡ first_after text (journal_of h slots).entries h.first
unfolding journal_of
by_add h slots text r left a = ap (λ (j : Journal). j.first) (add_after h slots text r left a)

pub by_forget : (h : History) (slots : List ℕ) (k : ℕ) (r : History) (a : Result ℕ ForgetRefusal) (left : List ℕ) → Forgets h slots k r a left → r.first ≡ h.first
by_forget = forget_first

-- ABOVE 99 is bad, whatever else the state is; a saved state with such a byte is refused with 12 by a key, by an add and where an entry is to be forgotten, and every byte stays
pub above : (e : Editor) (h : History) (slots : List ℕ) → 100 ≤ h.first → (good h slots ≡ false) × (good_state e h slots ≡ false)
unfolding good_state
above e h slots n = (bad, ap (λ (t : Bool). cond (good_editor e) t false) bad ∙ neither (good_editor e))
  where
    by : (t : Bool) → good h slots ≡ t → t ≡ false
    by true g = absurd (let b = (good_has h slots g).begins in omega arith)
    by false g = refl

    bad : good h slots ≡ false
    bad = by (good h slots) refl

above_bad : (state slots : List ℕ) → 100 ≤ first_byte state → good_saved state slots ≡ false
above_bad state slots n = by (good_saved state slots) refl
  where
    by : (t : Bool) → good_saved state slots ≡ t → t ≡ false
    by true g = absurd (let b = first_below state slots g in omega arith)
    by false g = refl

pub key_refused : (state slots prompt : List ℕ) (byte : ℕ) (line screen : List ℕ) (r : Result Pressed KeyRefusal) (state' slots' line' screen' : List ℕ)
    → SavedKey state slots prompt byte line screen r state' slots' line' screen' → 100 ≤ first_byte state
    → told (pressed_number r) (pressed_value r) (keyed {L = Lent} (pressed_kind r) (pressed_beside r) (state', slots', line', screen')) ≡ told 12 0 (keyed {L = Lent} 0 0 (state, slots, line, screen))
key_refused state slots prompt byte line screen r state' slots' line' screen' p n =
    press_bad state slots prompt byte line screen r state' slots' line' screen' p (above_bad state slots n)

pub add_refused : (state slots text : List ℕ) (r : Result ⊤ AddRefusal) (state' slots' : List ℕ) → SavedAdd state slots text r state' slots' → 100 ≤ first_byte state
    → told {L = List ℕ × List ℕ} (added_number r) (added_value r) (state', slots') ≡ told 12 0 (state, slots)
add_refused state slots text r state' slots' p n = saved_add_bad state slots text r state' slots' p (above_bad state slots n)

pub forget_refused : (state slots : List ℕ) (k : ℕ) (r : Result ℕ ForgetRefusal) (state' slots' : List ℕ) → SavedForget state slots k r state' slots' → 100 ≤ first_byte state
    → told {L = List ℕ × List ℕ} (forgot_number r) (forgot_value r) (state', slots') ≡ told 12 0 (state, slots)
forget_refused state slots k r state' slots' p n = saved_forget_bad state slots k r state' slots' p (above_bad state slots n)

-- ONE SLOT: whatever an add or a key answers, no byte changes but those of the slot after the newest entry, which in a full history is that of the oldest. By value, and saved.
pub add_changes_one : (h : History) (slots text : List ℕ) (r : History) (a : Result ⊤ AddRefusal) (left : List ℕ) → Addition h slots text r a left → ChangesOnly (slot_after h.first h.count) slots left
add_changes_one = add_changes

pub key_changes_one : (e : Editor) (h : History) (slots prompt : List ℕ) (byte : ℕ) (line screen : List ℕ) (k : KeyAnswer) (slots' line' screen' : List ℕ)
    → Pressing e h slots prompt byte line screen k slots' line' screen' → ChangesOnly (slot_after h.first h.count) slots slots'
key_changes_one = key_changes

pub saved_key_changes_one : (state slots prompt : List ℕ) (byte : ℕ) (line screen : List ℕ) (r : Result Pressed KeyRefusal) (state' slots' line' screen' : List ℕ)
    → SavedKey state slots prompt byte line screen r state' slots' line' screen' → ChangesOnly (slot_after (history_in state).first (history_in state).count) slots slots'
saved_key_changes_one = key_changes_saved

pub saved_add_changes_one : (state slots text : List ℕ) (r : Result ⊤ AddRefusal) (state' slots' : List ℕ) → SavedAdd state slots text r state' slots'
    → ChangesOnly (slot_after (history_in state).first (history_in state).count) slots slots'
saved_add_changes_one = add_changes_saved

-- THE SAME WHEREVER IT BEGINS: two good histories with the same entries and place (`Alike`), wherever these lie. Count, place and total are the same, each number recalls the same entry, a
-- step recalls the same and leads to the same place; a text that is added and an entry that is forgotten are answered the same and leave two such histories, which are good again.
pub same_history : (h : History) (slots : List ℕ) (h₂ : History) (slots₂ : List ℕ) → good h slots ≡ true → good h₂ slots₂ ≡ true → Alike (journal_of h slots) (journal_of h₂ slots₂)
    → ((h₂.count ≡ h.count) × (h₂.place ≡ h.place) × (h₂.total ≡ h.total))
    × ((n : ℕ) → entry_of (journal_of h₂ slots₂) n ≡ entry_of (journal_of h slots) n)
    × ((back h₂).recalled ≡ (back h).recalled) × ((back h₂).history.place ≡ (back h).history.place)
    × ((onward h₂).recalled ≡ (onward h).recalled) × ((onward h₂).history.place ≡ (onward h).history.place)
same_history h slots h₂ slots₂ g g₂ a =
    let n = numbers_alike h slots h₂ slots₂ g g₂ a in
    let s = same_steps h h₂ n.0 n.1 in
    (n, λ k. ap (λ (es : List (List ℕ)). get_or es k []) a.entries, s.0, s.1, s.2, s.3)

pub same_add : (h : History) (slots : List ℕ) (h₂ : History) (slots₂ : List ℕ) → good h slots ≡ true → good h₂ slots₂ ≡ true → Alike (journal_of h slots) (journal_of h₂ slots₂)
    → (text : List ℕ) (r r₂ : History) (x x₂ : Result ⊤ AddRefusal) (left left₂ : List ℕ) → Addition h slots text r x left → Addition h₂ slots₂ text r₂ x₂ left₂
    → (x₂ ≡ x) × Alike (journal_of r left) (journal_of r₂ left₂) × (good r left ≡ true) × (good r₂ left₂ ≡ true)
same_add h slots h₂ slots₂ g g₂ a text r r₂ x x₂ left left₂ p q =
    let s = add_alike_by_value h slots h₂ slots₂ g g₂ a text r r₂ x x₂ left left₂ p q in
    (s.0, s.1, added_good h slots text r x left g p, added_good h₂ slots₂ text r₂ x₂ left₂ g₂ q)

pub same_forget : (h : History) (slots : List ℕ) (h₂ : History) (slots₂ : List ℕ) → good h slots ≡ true → good h₂ slots₂ ≡ true → Alike (journal_of h slots) (journal_of h₂ slots₂)
    → (k : ℕ) (r r₂ : History) (x x₂ : Result ℕ ForgetRefusal) (left left₂ : List ℕ) → Forgets h slots k r x left → Forgets h₂ slots₂ k r₂ x₂ left₂
    → (x₂ ≡ x) × Alike (journal_of r left) (journal_of r₂ left₂) × (good r left ≡ true) × (good r₂ left₂ ≡ true)
same_forget h slots h₂ slots₂ g g₂ a k r r₂ x x₂ left left₂ p q =
    let s = forget_alike_by_value h slots h₂ slots₂ g g₂ a k r r₂ x x₂ left left₂ p q in
    (s.0, s.1, forgets_good h slots k r x left g p, forgets_good h₂ slots₂ k r₂ x₂ left₂ g₂ q)

-- Two good states with the same editor, entries and place, wherever these lie (`SameBut`). A key answers, submits and shows the same, and leaves two such
-- states, which are good again: so it goes on after every key.
pub same_key : (e : Editor) (h : History) (slots : List ℕ) (e₂ : Editor) (h₂ : History) (slots₂ : List ℕ) → good_state e h slots ≡ true → good_state e₂ h₂ slots₂ ≡ true
    → SameBut (state_of e h slots) (state_of e₂ h₂ slots₂) → (prompt : List ℕ) (byte : ℕ) (line screen : List ℕ) (k k₂ : KeyAnswer) (slots' slots₂' line' line₂' screen' screen₂' : List ℕ)
    → Pressing e h slots prompt byte line screen k slots' line' screen' → Pressing e₂ h₂ slots₂ prompt byte line screen k₂ slots₂' line₂' screen₂'
    → (k₂.answer ≡ k.answer) × (line₂' ≡ line') × (screen₂' ≡ screen')
    × SameBut (state_of k.editor k.history slots') (state_of k₂.editor k₂.history slots₂')
    × (good_state k.editor k.history slots' ≡ true) × (good_state k₂.editor k₂.history slots₂' ≡ true)
same_key e h slots e₂ h₂ slots₂ g g₂ a prompt byte line screen k k₂ slots' slots₂' line' line₂' screen' screen₂' p q = (
  same_answer e h slots e₂ h₂ slots₂ g g₂ a prompt byte line screen k k₂ slots' slots₂' line' line₂' screen' screen₂' p q,
  same_given e h slots e₂ h₂ slots₂ g g₂ a prompt byte line screen k k₂ slots' slots₂' line' line₂' screen' screen₂' p q,
  same_shown e h slots e₂ h₂ slots₂ g g₂ a prompt byte line screen k k₂ slots' slots₂' line' line₂' screen' screen₂' p q,
  alike_after e h slots e₂ h₂ slots₂ g g₂ a prompt byte line screen k k₂ slots' slots₂' line' line₂' screen' screen₂' p q,
  stays_good e h slots prompt byte line screen k slots' line' screen' g p,
  stays_good e₂ h₂ slots₂ prompt byte line screen k₂ slots₂' line₂' screen₂' g₂ q,
)

-- the same of a row of keys as turns: the bytes that all of them show, and the state after them
pub same_keys : (prompt : List ℕ) (s t : State) (keys : List ℕ) → SameBut s t → (shown_by prompt t keys ≡ shown_by prompt s keys) × SameBut (after_keys prompt s keys) (after_keys prompt t keys)
same_keys = keys_alike

-- of saved states: a key, a text that is added, and an entry that is forgotten
module _ (state slots state₂ slots₂ : List ℕ) (g : good_saved state slots ≡ true) (g₂ : good_saved state₂ slots₂ ≡ true) (a : SameBut (held_in state slots) (held_in state₂ slots₂)) where
  pub same_saved_key : (prompt : List ℕ) (byte : ℕ) (line screen : List ℕ) (r r₂ : Result Pressed KeyRefusal) (state' slots' line' screen' state₂' slots₂' line₂' screen₂' : List ℕ)
      → SavedKey state slots prompt byte line screen r state' slots' line' screen' → SavedKey state₂ slots₂ prompt byte line screen r₂ state₂' slots₂' line₂' screen₂'
      → (r₂ ≡ r) × (line₂' ≡ line') × (screen₂' ≡ screen') × SameBut (held_in state' slots') (held_in state₂' slots₂')
      × (good_saved state' slots' ≡ true) × (good_saved state₂' slots₂' ≡ true)
  same_saved_key prompt byte line screen r r₂ state' slots' line' screen' state₂' slots₂' line₂' screen₂' p q =
      let s = key_alike state slots state₂ slots₂ g g₂ a prompt byte line screen r r₂ state' slots' line' screen' state₂' slots₂' line₂' screen₂' p q in (
        s.answer,
        s.given,
        s.shown,
        s.after,
        key_stays state slots prompt byte line screen r state' slots' line' screen' g p,
        key_stays state₂ slots₂ prompt byte line screen r₂ state₂' slots₂' line₂' screen₂' g₂ q,
      )

  pub same_saved_add : (text : List ℕ) (r r₂ : Result ⊤ AddRefusal) (state' slots' state₂' slots₂' : List ℕ) → SavedAdd state slots text r state' slots' → SavedAdd state₂ slots₂ text r₂ state₂' slots₂'
      → (r₂ ≡ r) × SameBut (held_in state' slots') (held_in state₂' slots₂') × (good_saved state' slots' ≡ true) × (good_saved state₂' slots₂' ≡ true)
  same_saved_add text r r₂ state' slots' state₂' slots₂' p q =
      let s = add_alike state slots state₂ slots₂ g g₂ a text r r₂ state' slots' state₂' slots₂' p q in
      (s.0, s.1, add_stays state slots text r state' slots' g p, add_stays state₂ slots₂ text r₂ state₂' slots₂' g₂ q)

  pub same_saved_forget : (k : ℕ) (r r₂ : Result ℕ ForgetRefusal) (state' slots' state₂' slots₂' : List ℕ) → SavedForget state slots k r state' slots' → SavedForget state₂ slots₂ k r₂ state₂' slots₂'
      → (r₂ ≡ r) × SameBut (held_in state' slots') (held_in state₂' slots₂') × (good_saved state' slots' ≡ true) × (good_saved state₂' slots₂' ≡ true)
  same_saved_forget k r r₂ state' slots' state₂' slots₂' p q =
      let s = forget_alike state slots state₂ slots₂ g g₂ a k r r₂ state' slots' state₂' slots₂' p q in
      (s.0, s.1, forget_stays state slots k r state' slots' g p, forget_stays state₂ slots₂ k r₂ state₂' slots₂' g₂ q)
