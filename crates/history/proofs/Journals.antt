-- Laws of a history as one value: who holds one that keeps the rules is good, and holds just what it says, its total among it; offering a text and a step keep the rules.
use Rattle.std.specs.Prelude.{Some, None}
use Prim.Native.Nat.{ℕ, zero, suc, ◌+◌, ◌-◌, ◌<◌, ◌≤◌}
use mathlib.Core.Path.{◌≡◌, refl, sym, ap, ◌∙◌}
use mathlib.Core.Bool.{Bool, true, false, cond}
use mathlib.Core.List.{List, [], ◌∷◌}
use native.Mathlib.Omega.{arith}
use lib.Dec.{eqb, ltb}
use lib.ListN.{length, get_or}
use borrow.Author.Tests.{eq-eqb, eqb-true, eqb-false, ltb-true}
use Rattle.buffer.specs.Compare.{same_bytes}
use Rattle.buffer.specs.Lend.{zeros}
use Rattle.text.proofs.Prefix.{prefix_none, codes_none}
use Rattle.text.specs.Apart.{blank}
use Rattle.text.specs.Decoding.{well_formed}
use Rattle.history.specs.Entries.{most_entries, is_new, usable, sound, total}
use Rattle.history.specs.Slots.{slot_after, layout, entries_from}
use Rattle.history.specs.Journal.{Journal, no_entries, count, entry_of, first_after, offered, at_place, record_of, slots_of, journal_of, good}
use Rattle.history.specs.Steps.{placed_at, back, recalled_at, onward}
use Rattle.history.specs.Saved.{Fits}
use Rattle.history.specs.declared.stepping.History.{History}
use Rattle.history.specs.declared.stepping.Step.{Step}
use Rattle.history.proofs.Turned.{after_below, length_entries}
use Rattle.history.proofs.Layouts.{none, length_layout, entries_layout, no_entries_lem}
use Rattle.history.proofs.Steps.{same_numbers}
use Rattle.history.proofs.Totals.{total_most}
use Rattle.history.proofs.States.{holds, refutes, Good, good_has, good_short, short_at}
use Rattle.history.proofs.Kept.{good_of, Entries, added_entries}

-- a history within the rules of the standard
pub record Fair (j : Journal) : Type 0 where
  pub entries : Entries j.entries
  pub placed : j.place ≤ count j
  pub begins : j.first < 100

-- what a record and slots hold
pub count_held : (h : History) (slots : List ℕ) → count (journal_of h slots) ≡ h.count
unfolding journal_of
count_held h slots = length_entries h.first h.count slots

pub place_held : (h : History) (slots : List ℕ) → (journal_of h slots).place ≡ h.place
unfolding journal_of
place_held h slots = refl

pub first_held : (h : History) (slots : List ℕ) → (journal_of h slots).first ≡ h.first
unfolding journal_of
first_held h slots = refl

pub same_held : {p q : History} {s t : List ℕ} → p ≡ q → s ≡ t → journal_of p s ≡ journal_of q t
same_held u v = cc

pub same_good : {p q : History} {s t : List ℕ} → p ≡ q → s ≡ t → good p s ≡ good q t
same_good u v = cc

-- a good state holds a history within the rules, and holds it as its record and its slots
pub good_fair : (h : History) (slots : List ℕ) → good h slots ≡ true → Fair (journal_of h slots)
unfolding journal_of
good_fair h slots g =
    let k = good_has h slots g in
    let n = length_entries h.first h.count slots in
    let a = k.counted in
    let b = k.placed in
    record { entries = record { short = good_short h slots k; few = omega arith; is_sound = k.is_sound }; placed = omega arith; begins = k.begins }

pub record_held : (h : History) (slots : List ℕ) → good h slots ≡ true → record_of (journal_of h slots) ≡ h
unfolding record_of journal_of
record_held h slots g = same_numbers (length_entries h.first h.count slots) refl (sym (good_has h slots g).tallies) refl

pub slots_held : (h : History) (slots : List ℕ) → good h slots ≡ true → slots_of (journal_of h slots) ≡ slots
unfolding slots_of journal_of
slots_held h slots g = (good_has h slots g).laid

-- and back: what holds a history within the rules is good, and holds that history
pub fair_held : (j : Journal) → Fair j → journal_of (record_of j) (slots_of j) ≡ j
unfolding journal_of record_of slots_of
fair_held j f =
    ap (λ (es : List (List ℕ)). record { entries = es; place = j.place; first = j.first }) (entries_layout j.first j.entries f.begins f.entries.short f.entries.few)

pub fair_good : (j : Journal) → Fair j → good (record_of j) (slots_of j) ≡ true
unfolding record_of slots_of
fair_good j f =
    let es : List (List ℕ) = j.entries in
    let back : entries_from j.first (length es) (layout j.first es) ≡ es = entries_layout j.first es f.begins f.entries.short f.entries.few in
    good_of (record { count = length es; place = j.place; total = total es; first = j.first }) (layout j.first es)
    (record {
      size = length_layout j.first es f.entries.short f.entries.few;
      begins = f.begins;
      counted = f.entries.few;
      placed = f.placed;
      is_sound = ap (sound []) back ∙ f.entries.is_sound;
      laid = ap (layout j.first) back;
      tallies = sym (ap total back);
    })

-- no entry: slots that are all zeros
pub none_zeros : slots_of no_entries ≡ zeros 25600
unfolding slots_of
none_zeros = no_entries_lem

-- no entry, a text offered, another place
pub fair_none : Fair no_entries
unfolding sound
fair_none = record { entries = record { short = none; few = omega arith; is_sound = refl }; placed = omega arith; begins = omega arith }

first_below : (text : List ℕ) (es : List (List ℕ)) (f : ℕ) → f < 100 → first_after text es f < 100
unfolding first_after
first_below text es f h = by (is_new text es) (ltb (length es) most_entries)
  where
    by : (n r : Bool) → cond n (cond r f (slot_after f 1)) f < 100
    by false r = h
    by true true = h
    by true false = after_below f 1

pub fair_offered : (text : List ℕ) (j : Journal) → Fair j → length text ≤ 255 → well_formed text ≡ true → Fair (offered text j)
fair_offered text j f l w =
    record { entries = added_entries j.entries text f.entries l w; placed = omega arith; begins = first_below text j.entries j.first f.begins }

pub fair_placed : (j : Journal) (place : ℕ) → Fair j → place ≤ count j → Fair (at_place j place)
fair_placed j place f h = record { entries = f.entries; placed = h; begins = f.begins }

-- an entry of one is short and well-formed
pub fair_short : (j : Journal) (n : ℕ) → Fair j → length (entry_of j n) ≤ 255
fair_short j n f = short_at j.entries n f.entries.short

formed_nothing : well_formed [] ≡ true
unfolding well_formed
formed_nothing = eq-eqb _ 0 (prefix_none [] codes_none)

formed_at : (before : List ℕ) (es : List (List ℕ)) (n : ℕ) → sound before es ≡ true → well_formed (get_or es n []) ≡ true
unfolding sound usable
formed_at before [] n s = formed_nothing
formed_at before (e ∷ es) zero s = (refutes (blank e) (well_formed e) (holds (usable e) _ s).0).1
formed_at before (e ∷ es) (suc n) s = formed_at e es n (refutes (same_bytes before e) _ (holds (usable e) _ s).1).1

pub fair_formed : (j : Journal) (n : ℕ) → Fair j → well_formed (entry_of j n) ≡ true
fair_formed j n f = formed_at [] j.entries n f.entries.is_sound

-- the total of a good state is that of its entries' lengths, at most 255 for each of at most 100
pub good_total : (h : History) (slots : List ℕ) → good h slots ≡ true → (h.total ≡ total (journal_of h slots).entries) × (h.total ≤ 25500)
unfolding journal_of
good_total h slots g =
    let k = good_has h slots g in
    let a = k.tallies in
    let b = total_most (entries_from h.first h.count slots) (good_short h slots k) in
    let n = length_entries h.first h.count slots in
    let c = k.counted in
    (a, omega arith)

-- any other is bad: whatever else there is, and beside a good state's count, place and slots
pub wrong_total : (h : History) (slots : List ℕ) → (h.total ≡ total (journal_of h slots).entries → ⊥) → good h slots ≡ false
wrong_total h slots n = by (good h slots) refl
  where
    by : (t : Bool) → good h slots ≡ t → t ≡ false
    by true g = absurd (n (good_total h slots g).0)
    by false g = refl

pub one_total : (h : History) (slots : List ℕ) (n : ℕ) → good h slots ≡ true → good (record { count = h.count; place = h.place; total = n; first = h.first }) slots ≡ eqb n h.total
one_total h slots n g = by (eqb n h.total) refl (good (record { count = h.count; place = h.place; total = n; first = h.first }) slots) refl
  where
    k : Good h slots
    k = good_has h slots g

    by : (t : Bool) → eqb n h.total ≡ t → (u : Bool) → good (record { count = h.count; place = h.place; total = n; first = h.first }) slots ≡ u → u ≡ t
    by true e u q = sym q ∙ ap (λ (m : ℕ). good (record { count = h.count; place = h.place; total = m; first = h.first }) slots) (eqb-true n h.total e) ∙ g
    by false e false q = refl
    by false e true q = absurd (eqb-false n h.total e ((good_has _ slots q).tallies ∙ sym k.tallies))

-- its numbers fit the bytes that are saved
pub good_fits : (h : History) (slots : List ℕ) → good h slots ≡ true → Fits h
good_fits h slots g =
    let k = good_has h slots g in
    let a = k.counted in
    let b = k.placed in
    let d = (good_total h slots g).1 in
    let e = k.begins in
    record { count = omega arith; place = omega arith; total = omega arith; first = omega arith }

-- a step moves the place only, and keeps it within the count
pub record_placed : (j : Journal) (place : ℕ) → record_of (at_place j place) ≡ placed_at (record_of j) place
unfolding record_of
record_placed j place = refl

pub slots_placed : (j : Journal) (place : ℕ) → slots_of (at_place j place) ≡ slots_of j
unfolding slots_of
slots_placed j place = refl

pub placed_good : (h : History) (slots : List ℕ) (place : ℕ) → good h slots ≡ true → place ≤ h.count → good (placed_at h place) slots ≡ true
placed_good h slots place g p =
    let k = good_has h slots g in
    good_of (placed_at h place) slots (record { size = k.size; begins = k.begins; counted = k.counted; placed = p; is_sound = k.is_sound; laid = k.laid; tallies = k.tallies })

pub back_good : (h : History) (slots : List ℕ) → good h slots ≡ true → good (back h).history slots ≡ true
unfolding back
back_good h slots g = by (eqb h.place 0)
  where
    placed : h.place ≤ h.count
    placed = (good_has h slots g).placed

    by : (t : Bool) → let r : Step = cond t (record { history = h; recalled = None }) (record { history = placed_at h (h.place - 1); recalled = Some (h.place - 1) }) in good r.history slots ≡ true
    by true = g
    by false = placed_good h slots (h.place - 1) g (let p = placed in omega arith)

pub onward_good : (h : History) (slots : List ℕ) → good h slots ≡ true → good (onward h).history slots ≡ true
unfolding onward
onward_good h slots g = by (ltb h.place h.count) refl
  where
    by : (t : Bool) → ltb h.place h.count ≡ t → let r : Step = cond t (record { history = placed_at h (h.place + 1); recalled = recalled_at h.count (h.place + 1) }) (record { history = h; recalled = None }) in good r.history slots ≡ true
    by true q = placed_good h slots (h.place + 1) g (let l = ltb-true h.place h.count q in omega arith)
    by false q = g
