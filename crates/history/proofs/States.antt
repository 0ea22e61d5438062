-- What a good state has, and that adding keeps it good.
use Prim.Native.Nat.{ℕ, zero, suc, ◌+◌, ◌-◌, ◌*◌, ◌<◌, ◌≤◌}
use mathlib.Core.Path.{◌≡◌, refl, sym, ap, ◌∙◌}
use mathlib.Core.Bool.{Bool, true, false, cond}
use mathlib.Core.List.{List, [], ◌∷◌, ◌++◌}
use native.Mathlib.Omega.{arith}
use lib.Dec.{ltb, leb, eqb}
use lib.ListN.{length, drop, get_or, length-append, length-drop}
use borrow.Author.Tests.{eqb-true, leb-true, ltb-true, ltb-false, eq-eqb, ne_eqb, le-leb, lt-leb, lt-ltb, le-ltb}
use Rattle.buffer.proofs.Choices.{true_is_not_false, then_is, else_is}
use Rattle.buffer.specs.Write.{over_at}
use Rattle.buffer.specs.Compare.{same_bytes}
use Rattle.buffer.proofs.Ordering.{same_is}
use Rattle.history.specs.Entries.{most_entries, is_new, with_room, added, sound, total}
use Rattle.history.specs.Slots.{slot_after, slot, layout, entries_from}
use Rattle.history.specs.Journal.{first_after, record_of, slots_of, journal_of, good}
use Rattle.history.specs.Answer.{Offered}
use Rattle.history.specs.declared.stepping.History.{History}
use Rattle.history.proofs.Steps.{same_numbers}
use Rattle.history.proofs.Totals.{total_more, total_less}
use Rattle.history.proofs.Turned.{length_entries}
use Rattle.history.proofs.Layouts.{Short, none, more, layout_short, layout_more, layout_full, unused_length, oldest_length}

-- a chain of tests of which all hold
pub holds : (t u : Bool) → cond t u false ≡ true → (t ≡ true) × (u ≡ true)
holds true u e = (refl, e)
holds false u e = absurd (true_is_not_false (sym e))

-- a test that must not hold, and one that must
pub refutes : (t u : Bool) → cond t false u ≡ true → (t ≡ false) × (u ≡ true)
refutes true u e = absurd (true_is_not_false (sym e))
refutes false u e = (refl, e)

pub record Good (h : History) (slots : List ℕ) : Type 0 where
  pub size : length slots ≡ 25600
  pub begins : h.first < 100
  pub counted : h.count ≤ 100
  pub placed : h.place ≤ h.count
  pub is_sound : sound [] (entries_from h.first h.count slots) ≡ true
  pub laid : layout h.first (entries_from h.first h.count slots) ≡ slots
  pub tallies : h.total ≡ total (entries_from h.first h.count slots)

pub good_has : (h : History) (slots : List ℕ) → good h slots ≡ true → Good h slots
unfolding good most_entries slots_of journal_of
good_has h slots e =
    let es : List (List ℕ) = entries_from h.first h.count slots in
    let a = holds (eqb (length slots) 25600) _ e in
    let f = holds (ltb h.first 100) _ a.1 in
    let b = holds (leb h.count 100) _ f.1 in
    let d = holds (leb h.place h.count) _ b.1 in
    let i = holds (sound [] es) _ d.1 in
    let j = holds (same_bytes (layout h.first es) slots) _ i.1 in
    record {
      size = eqb-true _ _ a.0;
      begins = ltb-true _ _ f.0;
      counted = leb-true _ _ b.0;
      placed = leb-true _ _ d.0;
      is_sound = i.0;
      laid = same_is _ _ j.0;
      tallies = eqb-true _ _ j.1;
    }

pub good_short : (h : History) (slots : List ℕ) → Good h slots → Short (entries_from h.first h.count slots)
good_short h slots g =
    layout_short h.first (entries_from h.first h.count slots)
    (let n = length_entries h.first h.count slots in let k = g.counted in omega arith)
    (ap length g.laid ∙ g.size)

-- a state that fails one of the first four tests
module _ (h : History) (slots : List ℕ) where
  pub bad_size : (length slots ≡ 25600 → ⊥) → good h slots ≡ false
  unfolding good
  bad_size n = else_is _ _ _ (ne_eqb _ _ n)

  module _ (e : length slots ≡ 25600) where
    pub bad_first : 100 ≤ h.first → good h slots ≡ false
    unfolding good
    bad_first k = then_is _ _ _ (eq-eqb _ _ e) ∙ else_is _ _ _ (le-ltb h.first 100 k)

    module _ (l : h.first < 100) where
      pub bad_count : 100 < h.count → good h slots ≡ false
      unfolding good most_entries
      bad_count k = then_is _ _ _ (eq-eqb _ _ e) ∙ then_is _ _ _ (lt-ltb _ _ l) ∙ else_is _ _ _ (lt-leb _ _ k)

      pub bad_place : h.count ≤ 100 → h.count < h.place → good h slots ≡ false
      unfolding good most_entries
      bad_place k m = then_is _ _ _ (eq-eqb _ _ e) ∙ then_is _ _ _ (lt-ltb _ _ l) ∙ then_is _ _ _ (le-leb _ _ k) ∙ else_is _ _ _ (lt-leb _ _ m)

pub full_layout : (f : ℕ) (es : List (List ℕ)) (t : List ℕ) → f < 100 → Short es → length es ≡ 100 → length t ≤ 255
    → over_at (slot t) (layout f es) (256 * slot_after f 100) ≡ layout (slot_after f 1) (drop 1 es ++ (t ∷ []))
full_layout f [] t b h e l = absurd (omega arith)
full_layout f (x ∷ es) t b h e l = layout_full f x es t b h (omega arith) l

-- the ways of adding
module _ (h : History) (slots text : List ℕ) (is : good h slots ≡ true) where
  es : List (List ℕ)
  es = entries_from h.first h.count slots

  has : Good h slots
  has = good_has h slots is

  counts : length es ≡ h.count
  unfolding es
  counts = length_entries h.first h.count slots

  laid_out : slots ≡ layout h.first es
  unfolding es
  laid_out = sym has.laid

  are_short : Short es
  unfolding es
  are_short = good_short h slots has

  tallies : h.total ≡ total es
  unfolding es
  tallies = has.tallies

  -- a record and slots for the entries after it
  holds_after : (after : List (List ℕ)) (f n t : ℕ) (left : List ℕ) → added text es ≡ after → first_after text es h.first ≡ f
      → n ≡ length after → t ≡ total after → left ≡ layout f after
      → Offered h slots text (record { count = n; place = n; total = t; first = f }) left
  unfolding es record_of slots_of journal_of
  holds_after after f n t left e b c d l =
      record {
        state = let counts-so = c ∙ ap length (sym e) in same_numbers counts-so counts-so (d ∙ ap total (sym e)) (sym b);
        bytes = l ∙ ap (layout f) (sym e) ∙ ap (λ (i : ℕ). layout i (added text es)) (sym b);
      }

  pub offered_old : is_new text (journal_of h slots).entries ≡ false
      → Offered h slots text (record { count = h.count; place = h.count; total = h.total; first = h.first }) slots
  unfolding es added first_after journal_of
  offered_old n = holds_after es h.first h.count h.total slots (else_is _ _ _ n) (else_is _ _ _ n) (sym counts) tallies laid_out

  -- where the text goes: the slot after the newest entry, and the length byte of what it held
  module _ (at dropped : ℕ) (p : at ≡ 256 * slot_after h.first h.count) (d : dropped ≡ get_or slots at 0) where
    -- with room: a slot that is not used, of length 0
    was_unused : h.count < 100 → dropped ≡ 0
    was_unused k =
        let c = counts in
        d ∙ ap (λ (i : ℕ). get_or slots i 0) p ∙ ap (λ (n : ℕ). get_or slots (256 * slot_after h.first n) 0) (sym counts)
        ∙ ap (λ (s : List ℕ). get_or s (256 * slot_after h.first (length es)) 0) laid_out
        ∙ unused_length h.first es has.begins are_short (omega arith)

    -- without: that of the oldest, whose length is part of the total
    was_oldest : 100 ≤ h.count → dropped + total (drop 1 es) ≡ h.total
    was_oldest k =
        let c = counts in
        let most = has.counted in
        let full : h.count ≡ 100 = omega arith in
        let first : dropped ≡ length (get_or es 0 []) =
        d ∙ ap (λ (i : ℕ). get_or slots i 0) p ∙ ap (λ (n : ℕ). get_or slots (256 * slot_after h.first n) 0) full
        ∙ ap (λ (s : List ℕ). get_or s (256 * slot_after h.first 100) 0) laid_out
        ∙ oldest_length h.first es has.begins are_short (omega arith)
        in
        let t = tallies in
        let less = total_less es in
        omega arith

    pub dropped_within : dropped ≤ h.total
    dropped_within = by (ltb h.count 100) refl
      where
        by : (t : Bool) → ltb h.count 100 ≡ t → dropped ≤ h.total
        by true e = let z = was_unused (ltb-true h.count 100 e) in omega arith
        by false e = let z = was_oldest (ltb-false h.count 100 e) in omega arith

    module _ (n : is_new text (journal_of h slots).entries ≡ true) (l : length text ≤ 255) where
      pub offered_more : h.count < 100
          → Offered h slots text (record { count = h.count + 1; place = h.count + 1; total = h.total + length text - dropped; first = h.first }) (over_at (slot text) slots at)
      unfolding es added with_room first_after most_entries journal_of
      offered_more k =
          let c = counts in
          let below : length es < 100 = omega arith in
          let z = was_unused k in
          let t = tallies in
          let m = total_more es text in
          holds_after (es ++ (text ∷ [])) h.first (h.count + 1) (h.total + length text - dropped) (over_at (slot text) slots at)
          (then_is _ _ _ n ∙ ap (λ (es' : List (List ℕ)). es' ++ (text ∷ [])) (then_is _ _ _ (lt-ltb (length es) 100 below)))
          (then_is _ _ _ n ∙ then_is _ _ _ (lt-ltb (length es) 100 below))
          (ap (λ (n : ℕ). n + 1) (sym counts) ∙ sym (length-append es (text ∷ [])))
          (omega arith)
          (ap (over_at (slot text) slots) p
          ∙ ap (λ (s : List ℕ). over_at (slot text) s (256 * slot_after h.first h.count)) laid_out
          ∙ ap (λ (n : ℕ). over_at (slot text) (layout h.first es) (256 * slot_after h.first n)) (sym counts)
          ∙ layout_more h.first es text has.begins are_short below l)

      pub offered_full : 100 ≤ h.count
          → Offered h slots text (record { count = h.count; place = h.count; total = h.total + length text - dropped; first = slot_after h.first 1 }) (over_at (slot text) slots at)
      unfolding es added with_room first_after most_entries journal_of
      offered_full k =
          let c = counts in
          let most = has.counted in
          let full : h.count ≡ 100 = omega arith in
          let all : length es ≡ 100 = omega arith in
          holds_after (drop 1 es ++ (text ∷ [])) (slot_after h.first 1) h.count (h.total + length text - dropped) (over_at (slot text) slots at)
          (then_is _ _ _ n ∙ ap (λ (es' : List (List ℕ)). es' ++ (text ∷ [])) (else_is _ _ _ (le-ltb (length es) 100 (omega arith))))
          (then_is _ _ _ n ∙ else_is _ _ _ (le-ltb (length es) 100 (omega arith)))
          (let a = length-append (drop 1 es) (text ∷ []) in let b = length-drop 1 es in omega arith)
          (let a = was_oldest k in let b = total_more (drop 1 es) text in omega arith)
          (ap (over_at (slot text) slots) p
          ∙ ap (λ (s : List ℕ). over_at (slot text) s (256 * slot_after h.first h.count)) laid_out
          ∙ ap (λ (n : ℕ). over_at (slot text) (layout h.first es) (256 * slot_after h.first n)) full
          ∙ full_layout h.first es text has.begins are_short all l)

-- an entry is as short as its slot
pub short_at : (es : List (List ℕ)) (n : ℕ) → Short es → length (get_or es n []) ≤ 255
short_at [] n none = omega arith
short_at (e ∷ es) zero (more h hs) = h
short_at (e ∷ es) (suc n) (more h hs) = short_at es n hs
