-- The bytes in use: in every state that calls reach the total is the sum of the entries' lengths, at most 25,500, and a status page reads it in two bytes; a state with another total is
-- refused with 12, and no turn of a key depends on it, nor what is the Rust's. (The same of the calls for Rust and C: Exported. That a history is the Rust's: SameAsRust.)
use Rattle.std.specs.Prelude.{Ok, Result, ⊤}
use Prim.Native.Nat.{ℕ, ◌+◌, ◌-◌, ◌*◌, ◌≤◌}
use mathlib.Core.Path.{◌≡◌, refl, ap, ◌∙◌}
use mathlib.Core.Bool.{Bool, true, false, cond}
use mathlib.Core.List.{List}
use lib.Dec.{ltb, eqb}
use lib.ListN.{length, take, drop, get_or}
use Rattle.history.specs.Entries.{most_entries, is_new, total}
use Rattle.history.specs.Journal.{Journal, no_entries, count, entry_of, record_of, journal_of, good}
use Rattle.history.specs.Answer.{number as added_number, value as added_value, Addition}
use Rattle.history.specs.Forgotten.{Forgets, number as forgot_number, value as forgot_value}
use Rattle.history.specs.declared.stepping.History.{History}
use Rattle.history.specs.declared.adding.AddRefusal.{AddRefusal}
use Rattle.history.specs.declared.forgetting.ForgetRefusal.{ForgetRefusal}
use Rattle.history.specs.Steps.{back, onward}
use Rattle.history.proofs.Steps.{back_total, onward_total}
use Rattle.history.proofs.Journals.{good_total, wrong_total, one_total}
use Rattle.history.proofs.Called.{added_total}
use Rattle.history.proofs.Shortened.{forgotten_total}
use Rattle.keys.specs.declared.standing.Profile.{Profile}
use Rattle.keys.specs.Modes.{profile_number}
use Rattle.buffer.specs.Lend.{zeros}
use Rattle.buffer.proofs.Choices.{neither}
use Rattle.editor.specs.declared.line.Editor.{Editor}
use Rattle.editor.specs.declared.drawing.Pressed.{Pressed}
use Rattle.editor.specs.declared.drawing.KeyRefusal.{KeyRefusal}
use Rattle.editor.specs.Line.{line_of, good_editor}
use Rattle.editor.specs.Turns.{turn_of}
use Rattle.editor.specs.Answer.{state_of, good_state, number as pressed_number, value as pressed_value, kind as pressed_kind, beside as pressed_beside}
use Rattle.editor.proofs.States.{state_parts}
use Rattle.editor.proofs.Lasting.{Reached as ReachedByValue}
use Rattle.state.specs.State.{history_in, good_saved}
use Rattle.state.specs.Calls.{fresh_saved, SavedKey, SavedAdd, SavedForget}
use Rattle.state.proofs.Lasting.{Reached}
use Rattle.state.proofs.Savings.{good_saved_parts, good_history, saved_total, fresh_saved_lem}
use Rattle.rust.specs.Same.{original}
use Rattle.session.specs.declared.standing.Session.{Session}
use Rattle.promises.proofs.Tables.{told}
use Rattle.promises.proofs.KeyAnswers.{keyed, Lent, press_bad, saved_add_bad, saved_forget_bad}
use Rattle.promises.proofs.Lasting.{never_bad, never_bad_by_value, ReachedInSession, never_bad_in_session}

-- a record's total is the sum of the lengths of the entries that it holds with its slots, which is at most 25,500
abbrev pub Right : History → List ℕ → Type 0
Right h slots = (h.total ≡ total (journal_of h slots).entries) × (h.total ≤ 25500)

-- IN EVERY STATE that calls reach (Lasting): by value, in a session, and in a saved state
pub by_value : (e : Editor) (h : History) (slots : List ℕ) → ReachedByValue e h slots → Right h slots
by_value e h slots r = good_total h slots (state_parts e h slots (never_bad_by_value e h slots r)).1

pub in_session : (s : Session) (slots : List ℕ) → ReachedInSession s slots → Right s.history slots
in_session s slots r = good_total s.history slots (state_parts s.editor s.history slots (never_bad_in_session s slots r)).1

-- the two bytes of a saved state, as a status page reads them
unfoldable pub in_use : List ℕ → ℕ
in_use state = get_or state 263 0 * 256 + get_or state 264 0

saved_right : (state slots : List ℕ) → good_saved state slots ≡ true → (in_use state ≡ total (journal_of (history_in state) slots).entries) × (in_use state ≤ 25500)
unfolding in_use
saved_right state slots g =
    let k = good_saved_parts state slots g in
    let t : get_or state 263 0 * 256 + get_or state 264 0 ≡ (history_in state).total = saved_total state k.0 in
    let r = good_total (history_in state) slots (good_history state slots g) in
    (t ∙ r.0, rw t r.1)

pub in_bytes : (state slots : List ℕ) → Reached state slots → (in_use state ≡ total (journal_of (history_in state) slots).entries) × (in_use state ≤ 25500)
in_bytes state slots r = saved_right state slots (never_bad state slots r)

-- FRESH: 0
pub fresh : (record_of no_entries).total ≡ 0
unfolding record_of total
fresh = refl

pub fresh_bytes : (p : Profile) → in_use (fresh_saved (profile_number p)) ≡ 0
unfolding in_use zeros
fresh_bytes p = ap (λ (s : List ℕ). get_or s 263 0 * 256 + get_or s 264 0) (fresh_saved_lem p)

-- A STEP leaves it alone
pub by_step : (h : History) → ((back h).history.total ≡ h.total) × ((onward h).history.total ≡ h.total)
by_step h = (back_total h, onward_total h)

-- AN ADD changes it by what it adds and drops: a text that is not new leaves it, one that is makes it greater by its length, and the oldest of 100 less by its own
pub by_add : (h : History) (slots text : List ℕ) (r : History) (left : List ℕ) → Addition h slots text r (Ok tt) left
    → r.total
    ≡ cond (is_new text (journal_of h slots).entries)
    (cond (ltb (count (journal_of h slots)) most_entries) h.total (h.total - length (entry_of (journal_of h slots) 0)) + length text)
    h.total
by_add = added_total

-- AN ENTRY THAT IS FORGOTTEN makes it less by its length, and by that of the older of two equal ones where that goes with it
pub by_forget : (h : History) (slots : List ℕ) (k : ℕ) (r : History) (n : ℕ) (left : List ℕ) → Forgets h slots k r (Ok n) left
    → r.total + total (take n (drop (k + 1 - n) (journal_of h slots).entries)) ≡ h.total
by_forget = forgotten_total

-- ANOTHER TOTAL is bad, whatever else the state is (KeyAnswers: every call that tests one refuses it with 12)
pub wrong : (e : Editor) (h : History) (slots : List ℕ) → (h.total ≡ total (journal_of h slots).entries → ⊥) → (good h slots ≡ false) × (good_state e h slots ≡ false)
unfolding good_state
wrong e h slots n = let bad = wrong_total h slots n in (bad, ap (λ (t : Bool). cond (good_editor e) t false) bad ∙ neither (good_editor e))

-- beside a good state's count, place and slots no total but its own is good
abbrev pub with_total : History → ℕ → History
with_total h n = record { count = h.count; place = h.place; total = n; first = h.first }

pub no_other : (h : History) (slots : List ℕ) (n : ℕ) → good h slots ≡ true → good (with_total h n) slots ≡ eqb n h.total
no_other = one_total

-- a saved state with another one is refused with 12 by a key, by an add and where an entry is to be forgotten, and every byte stays
pub other_bad : (state slots : List ℕ) → (in_use state ≡ total (journal_of (history_in state) slots).entries → ⊥) → good_saved state slots ≡ false
other_bad state slots n = by (good_saved state slots) refl
  where
    by : (t : Bool) → good_saved state slots ≡ t → t ≡ false
    by true g = absurd (n (saved_right state slots g).0)
    by false g = refl

pub key_refused : (state slots prompt : List ℕ) (byte : ℕ) (line screen : List ℕ) (r : Result Pressed KeyRefusal) (state' slots' line' screen' : List ℕ)
    → SavedKey state slots prompt byte line screen r state' slots' line' screen' → (in_use state ≡ total (journal_of (history_in state) slots).entries → ⊥)
    → told (pressed_number r) (pressed_value r) (keyed {L = Lent} (pressed_kind r) (pressed_beside r) (state', slots', line', screen')) ≡ told 12 0 (keyed {L = Lent} 0 0 (state, slots, line, screen))
key_refused state slots prompt byte line screen r state' slots' line' screen' p n =
    press_bad state slots prompt byte line screen r state' slots' line' screen' p (other_bad state slots n)

pub add_refused : (state slots text : List ℕ) (r : Result ⊤ AddRefusal) (state' slots' : List ℕ) → SavedAdd state slots text r state' slots'
    → (in_use state ≡ total (journal_of (history_in state) slots).entries → ⊥)
    → told {L = List ℕ × List ℕ} (added_number r) (added_value r) (state', slots') ≡ told 12 0 (state, slots)
add_refused state slots text r state' slots' p n = saved_add_bad state slots text r state' slots' p (other_bad state slots n)

pub forget_refused : (state slots : List ℕ) (k : ℕ) (r : Result ℕ ForgetRefusal) (state' slots' : List ℕ) → SavedForget state slots k r state' slots'
    → (in_use state ≡ total (journal_of (history_in state) slots).entries → ⊥)
    → told {L = List ℕ × List ℕ} (forgot_number r) (forgot_value r) (state', slots') ≡ told 12 0 (state, slots)
forget_refused state slots k r state' slots' p n = saved_forget_bad state slots k r state' slots' p (other_bad state slots n)

-- NOTHING ELSE depends on it: the history that record and slots hold is the same whatever the total, the Rust's beside it, and what a key does
pub same_history : (h : History) (slots : List ℕ) (n : ℕ) → journal_of (with_total h n) slots ≡ journal_of h slots
unfolding journal_of
same_history h slots n = refl

pub same_original : (h : History) (slots : List ℕ) (n : ℕ) → original (journal_of (with_total h n) slots) ≡ original (journal_of h slots)
same_original h slots n = ap original (same_history h slots n)

pub same_turn : (e : Editor) (h : History) (slots : List ℕ) (n : ℕ) (prompt : List ℕ) (byte : ℕ)
    → turn_of prompt (state_of e (with_total h n) slots) byte ≡ turn_of prompt (state_of e h slots) byte
unfolding state_of
same_turn e h slots n prompt byte =
    ap (λ (j : Journal). turn_of prompt (record { line = line_of e; cursor = e.cursor; mode = e.mode; profile = e.profile; history = j }) byte) (same_history h slots n)
