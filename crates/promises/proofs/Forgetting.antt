-- Forgetting an entry: which go, what remains of the entries, of the buffer and of the state, that the history keeps no trace of what went, and that its room is given back. (What is
-- answered and refused: KeyAnswers. The total: BytesInUse. The first slot: FirstSlot. The Rust's history with the shortened list: SameAsRust. The calls for Rust and C: Exported.)
use Rattle.std.specs.Prelude.{Result, ⊤, Ok}
use Prim.Native.Nat.{ℕ, ◌+◌, ◌-◌, ◌<◌, ◌≤◌}
use mathlib.Core.Path.{◌≡◌, refl, sym, ap, ◌∙◌}
use mathlib.Core.Bool.{Bool, true, false, cond}
use mathlib.Core.List.{List, [], ◌++◌}
use native.Mathlib.Omega.{arith}
use lib.Dec.{ltb}
use lib.ListN.{length, take, drop}
use borrow.Author.Tests.{ltb-true, ltb-false}
use Rattle.buffer.specs.Lend.{zeros}
use Rattle.history.specs.Entries.{sound}
use Rattle.history.specs.Slots.{slot_after, slot, slot_at}
use Rattle.history.specs.Journal.{Journal, entry_of, Longer, slots_of, journal_of, good}
use Rattle.history.specs.Answer.{Addition}
use Rattle.history.specs.Forgotten.{without, remaining, Forgets}
use Rattle.history.specs.declared.stepping.History.{History}
use Rattle.history.specs.declared.adding.AddRefusal.{AddRefusal}
use Rattle.history.specs.declared.forgetting.ForgetRefusal.{ForgetRefusal}
use Rattle.history.proofs.Journals.{count_held, place_held, good_fair, slots_held}
use Rattle.history.proofs.Forgotten.{gone_few, two_go, then_two, remaining_cut, length_remaining, sound_remaining, neighbours}
use Rattle.history.proofs.States.{good_has}
use Rattle.history.proofs.Shortened.{gone_has, was_there, so_many, forget_after, gone_good, forget_first, no_trace as no_trace_by_value}
use Rattle.history.proofs.Called.{longer_same, longer_on, add_longer}
use Rattle.editor.specs.Saved.{saved_size as editor_size}
use Rattle.editor.specs.declared.line.Editor.{Editor}
use Rattle.editor.specs.declared.drawing.KeyAnswer.{KeyAnswer}
use Rattle.editor.specs.declared.drawing.Pressed.{Pressed}
use Rattle.editor.specs.declared.drawing.KeyRefusal.{KeyRefusal}
use Rattle.editor.specs.Answer.{Pressing}
use Rattle.editor.proofs.Begun.{key_longer}
use Rattle.state.specs.State.{history_in, good_saved}
use Rattle.state.specs.Calls.{SavedKey, SavedAdd, SavedForget}
use Rattle.state.proofs.Savings.{good_history}
use Rattle.state.proofs.Stored.{same_editor}
use Rattle.state.proofs.ByValue.{same_saved, forget_by_value, forget_saved, forget_keeps}
use Rattle.state.proofs.Lasting.{key_stays, add_stays}
use Rattle.state.proofs.Beginnings.{key_longer_saved, add_longer_saved}
use Rattle.promises.proofs.FirstSlot.{entry_in_slot, zeros_in_slot}

-- ONE REMOVAL MORE IS ALWAYS ENOUGH: entries of which each differs from the one before it are such again, whichever of them is forgotten
pub enough : (k : ℕ) (es : List (List ℕ)) → k < length es → sound [] es ≡ true → sound [] (remaining k es) ≡ true
enough = sound_remaining

-- AN ENTRY THAT WENT
module _ (h : History) (slots : List ℕ) (k : ℕ) (r : History) (n : ℕ) (left : List ℕ) (a : Forgets h slots k r (Ok n) left) where
  there : k < length (journal_of h slots).entries
  there = let l = was_there h slots k r n left a in let c = count_held h slots in omega arith

  after_is : (journal_of r left).entries ≡ remaining k (journal_of h slots).entries
  after_is = ap (λ (j : Journal). j.entries) (forget_after h slots k r n left a)

  -- WHICH: entry k, which was there, alone or with entry k - 1, and that exactly where the entries on both sides of it are equal
  pub one_or_two : (k < h.count) × (1 ≤ n) × (n ≤ 2)
  one_or_two =
      let g = gone_few k (journal_of h slots).entries there in
      let e = so_many h slots k r n left a in
      (was_there h slots k r n left a, rw e g.0, rw e g.1)

  pub both_go : n ≡ 2 → (0 < k) × (k + 1 < h.count) × (entry_of (journal_of h slots) (k - 1) ≡ entry_of (journal_of h slots) (k + 1))
  both_go e =
      let t = two_go k (journal_of h slots).entries there (sym (so_many h slots k r n left a) ∙ e) in
      let b = t.1 in
      let c = count_held h slots in
      (t.0, omega arith, t.2)

  pub equal_go : 0 < k → k + 1 < h.count → entry_of (journal_of h slots) (k - 1) ≡ entry_of (journal_of h slots) (k + 1) → n ≡ 2
  equal_go p l e =
      let c = count_held h slots in
      so_many h slots k r n left a ∙ then_two k (journal_of h slots).entries there p (omega arith) e

  -- THE OTHERS REMAIN, in their order; the place is their count, and the first slot stays
  pub others : (journal_of r left).entries ≡ take (k + 1 - n) (journal_of h slots).entries ++ drop (k + 1) (journal_of h slots).entries
  others =
      let es : List (List ℕ) = (journal_of h slots).entries in
      after_is ∙ remaining_cut k es there ∙ ap (λ (m : ℕ). take (k + 1 - m) es ++ drop (k + 1) es) (sym (so_many h slots k r n left a))

  pub numbers : (r.count + n ≡ h.count) × (r.place ≡ r.count) × (r.first ≡ h.first)
  numbers =
      let l = length_remaining k (journal_of h slots).entries there in
      let e = so_many h slots k r n left a in
      let c = count_held h slots in
      let d = count_held r left in
      let f = ap length after_is in
      let p = ap (λ (j : Journal). j.place) (forget_after h slots k r n left a) in
      let q = place_held r left in
      (omega arith, sym q ∙ p ∙ sym f ∙ d, forget_first h slots k r (Ok n) left a)

  -- NEIGHBOURS STILL DIFFER, and the state is good
  pub differ : (i : ℕ) → i + 1 < r.count → entry_of (journal_of r left) i ≡ entry_of (journal_of r left) (i + 1) → ⊥
  differ i l = neighbours (journal_of r left).entries i (let c = count_held r left in omega arith) (good_fair r left (gone_good h slots k r n left a)).entries.is_sound

  pub still_good : good r left ≡ true
  still_good = gone_good h slots k r n left a

  -- THE BUFFER is what holds the entries that remain: each in its slot, and zeros in all other slots
  pub whole : left ≡ slots_of (journal_of r left)
  whole = sym (slots_held r left still_good)

  pub every_slot : (i : ℕ) → i < 100 → slot_at (slot_after h.first i) left ≡ cond (ltb i r.count) (slot (entry_of (journal_of r left) i)) (zeros 256)
  every_slot i l = ap (λ (f : ℕ). slot_at (slot_after f i) left) (sym numbers.2) ∙ by (ltb i r.count) refl
    where
      by : (t : Bool) → ltb i r.count ≡ t → slot_at (slot_after r.first i) left ≡ cond t (slot (entry_of (journal_of r left) i)) (zeros 256)
      by true e = entry_in_slot r left i still_good (ltb-true i r.count e)
      by false e = zeros_in_slot r left i still_good (ltb-false i r.count e) l

-- NO TRACE: two good states that begin in one slot and differ in entry k alone, whatever it is and however long, are the same once it is forgotten: the answer, the record, every byte
pub no_trace : (h : History) (slots : List ℕ) (h₂ : History) (slots₂ : List ℕ) (k : ℕ) → good h slots ≡ true → good h₂ slots₂ ≡ true → k < h.count → k < h₂.count → h₂.first ≡ h.first
    → without k (journal_of h₂ slots₂).entries ≡ without k (journal_of h slots).entries
    → (r r₂ : History) (x x₂ : Result ℕ ForgetRefusal) (left left₂ : List ℕ) → Forgets h slots k r x left → Forgets h₂ slots₂ k r₂ x₂ left₂ → (x₂ ≡ x) × (r₂ ≡ r) × (left₂ ≡ left)
no_trace = no_trace_by_value

-- THE ROOM IS GIVEN BACK: keys and adds in any number, whatever each is answered, each to a history that has not 100 entries again, drop none of those that remained, nor move one from
-- its slot (`Longer`)
pub data GoesOn (e : Editor) (h : History) (slots : List ℕ) : Editor → History → List ℕ → Type 0 where
  no_call : GoesOn e h slots e h slots
  by_add : {d : Editor} {i r : History} {held text left : List ℕ} {told : Result ⊤ AddRefusal} → GoesOn e h slots d i held → i.count < 100 → Addition i held text r told left → GoesOn e h slots d r left
  by_key : {d : Editor} {i : History} {held prompt line screen held' line' screen' : List ℕ} {byte : ℕ} {k : KeyAnswer} → GoesOn e h slots d i held → i.count < 100
      → Pressing d i held prompt byte line screen k held' line' screen' → GoesOn e h slots k.editor k.history held'

pub drops_none : (e : Editor) (h : History) (slots : List ℕ) (d : Editor) (r : History) (left : List ℕ) → GoesOn e h slots d r left → Longer (journal_of h slots) (journal_of r left)
drops_none e h slots _ _ _ no_call = longer_same (journal_of h slots) (journal_of h slots) refl refl
drops_none e h slots d r left (by_add {i = i} {held = held} {text = text} {told = told} m room a) =
    longer_on (journal_of h slots) (journal_of i held) (journal_of r left) (drops_none e h slots d i held m) (add_longer i held text r told left room a)
drops_none e h slots _ _ left (by_key {d} {i} {held} {prompt} {line} {screen} {line' = line'} {screen' = screen'} {byte = byte} {k = k} m room p) =
    longer_on (journal_of h slots) (journal_of i held) (journal_of k.history left) (drops_none e h slots d i held m)
    (key_longer d i held prompt byte line screen k left line' screen' p room)

-- and there is room, after an entry went
pub room_after : (h : History) (slots : List ℕ) (k : ℕ) (r : History) (n : ℕ) (left : List ℕ) → Forgets h slots k r (Ok n) left → r.count < 100
room_after h slots k r n left a =
    let c = (numbers h slots k r n left a).0 in
    let few = (one_or_two h slots k r n left a).1 in
    let most = (good_has h slots (gone_has (good h slots) k (journal_of h slots).entries n a.answer).0).counted in
    omega arith

-- of saved states, from a good one on
pub data GoesOnSaved (state slots : List ℕ) : List ℕ → List ℕ → Type 0 where
  no_call : GoesOnSaved state slots state slots
  by_add : {mid held text state' slots' : List ℕ} {told : Result ⊤ AddRefusal} → GoesOnSaved state slots mid held → (history_in mid).count < 100 → SavedAdd mid held text told state' slots'
      → GoesOnSaved state slots state' slots'
  by_key : {mid held prompt line screen state' slots' line' screen' : List ℕ} {byte : ℕ} {told : Result Pressed KeyRefusal} → GoesOnSaved state slots mid held → (history_in mid).count < 100
      → SavedKey mid held prompt byte line screen told state' slots' line' screen' → GoesOnSaved state slots state' slots'

pub drops_none_saved : (state slots state' slots' : List ℕ) → good_saved state slots ≡ true → GoesOnSaved state slots state' slots'
    → (good_saved state' slots' ≡ true) × Longer (journal_of (history_in state) slots) (journal_of (history_in state') slots')
drops_none_saved state slots _ _ g no_call = (g, longer_same _ _ refl refl)
drops_none_saved state slots state' slots' g (by_add {mid} {held} {text} {told = told} m room a) =
    let b = drops_none_saved state slots mid held g m in (
      add_stays mid held text told state' slots' b.0 a,
      longer_on (journal_of (history_in state) slots) (journal_of (history_in mid) held) (journal_of (history_in state') slots') b.1 (add_longer_saved mid held text told state' slots' a b.0 room),
    )
drops_none_saved state slots state' slots' g (by_key {mid} {held} {prompt} {line} {screen} {line' = line'} {screen' = screen'} {byte = byte} {told = told} m room p) =
    let b = drops_none_saved state slots mid held g m in (
      key_stays mid held prompt byte line screen told state' slots' line' screen' b.0 p,
      longer_on (journal_of (history_in state) slots) (journal_of (history_in mid) held) (journal_of (history_in state') slots') b.1
          (key_longer_saved mid held prompt byte line screen told state' slots' line' screen' p b.0 room),
    )

-- A SAVED STATE: the editor's 261 bytes stay, line, cursor, mode, sequence and profile, whatever is answered; and what is forgotten of a good one is forgotten as above
pub editor_stays : (state slots : List ℕ) (k : ℕ) (told : Result ℕ ForgetRefusal) (state' slots' : List ℕ) → SavedForget state slots k told state' slots' → take 261 state' ≡ take 261 state
unfolding editor_size
editor_stays = forget_keeps

pub as_by_value : (state slots : List ℕ) (k : ℕ) (told : Result ℕ ForgetRefusal) (state' slots' : List ℕ) → SavedForget state slots k told state' slots' → good_saved state slots ≡ true
    → Forgets (history_in state) slots k (history_in state') told slots'
as_by_value = forget_by_value

-- NO TRACE of it in the five bytes of the history either: two good saved states with the same editor's bytes and first slot, which differ in entry k alone, are the same once it is forgotten.
-- (The line stays, also where it was recalled from that entry.)
pub no_trace_saved : (state slots state₂ slots₂ : List ℕ) (k : ℕ) → good_saved state slots ≡ true → good_saved state₂ slots₂ ≡ true → k < (history_in state).count → k < (history_in state₂).count
    → take 261 state₂ ≡ take 261 state → (history_in state₂).first ≡ (history_in state).first
    → without k (journal_of (history_in state₂) slots₂).entries ≡ without k (journal_of (history_in state) slots).entries
    → (told told₂ : Result ℕ ForgetRefusal) (state' slots' state₂' slots₂' : List ℕ) → SavedForget state slots k told state' slots' → SavedForget state₂ slots₂ k told₂ state₂' slots₂'
    → (told₂ ≡ told) × (state₂' ≡ state') × (slots₂' ≡ slots')
unfolding editor_size
no_trace_saved state slots state₂ slots₂ k g g₂ l l₂ e f w told told₂ state' slots' state₂' slots₂' p q =
    let same =
    no_trace (history_in state) slots (history_in state₂) slots₂ k (good_history state slots g) (good_history state₂ slots₂ g₂) l l₂ f w (history_in state') (history_in state₂') told told₂ slots' slots₂'
    (forget_by_value state slots k told state' slots' p g)
    (forget_by_value state₂ slots₂ k told₂ state₂' slots₂' q g₂)
    in (
      same.0,
      forget_saved state₂ slots₂ k told₂ state₂' slots₂' q g₂ ∙ same_saved (same_editor state state₂ e) same.1 ∙ sym (forget_saved state slots k told state' slots' p g),
      same.2,
    )
