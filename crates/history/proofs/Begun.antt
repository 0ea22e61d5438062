-- Laws of where a history begins: an add writes one slot and no other, and what it answers and what the entries are after it do not depend on where they lie.
use Rattle.std.specs.Prelude.{Ok, Err, Result, ⊤}
use Prim.Native.Nat.{ℕ, ◌+◌, ◌*◌, ◌<◌, ◌≤◌}
use mathlib.Core.Path.{◌≡◌, refl, sym, ap, ◌∙◌}
use mathlib.Core.Bool.{Bool, true, false, cond}
use mathlib.Core.List.{List, [], ◌∷◌, ◌++◌}
use native.Mathlib.Omega.{arith}
use lib.Dec.{ltb}
use lib.ListN.{length, take, drop}
use lib.Seq.{take_at, length-take-le}
use borrow.Author.Tests.{ltb-true, ltb-false}
use Rattle.buffer.specs.Lend.{zeros}
use Rattle.buffer.specs.Write.{over, over_at}
use Rattle.buffer.proofs.Lending.{length_over_at, over_at_past}
use Rattle.history.specs.Entries.{most_entries, is_new, with_room, added, total}
use Rattle.history.specs.Slots.{slot_after, slot, turned, layout, slot_at, ChangesOnly}
use Rattle.history.specs.Journal.{Journal, count, entry_of, first_after, offered, Alike, slots_of, journal_of, good}
use Rattle.history.specs.Answer.{add_answer, slots_by, Addition}
use Rattle.history.specs.declared.stepping.History.{History}
use Rattle.history.specs.declared.adding.AddRefusal.{AddRefusal}
use Rattle.history.specs.declared.adding.AddRefusal.TheVariants.{BadState, TooLong, IllFormed}
use Rattle.history.proofs.Turned.{after_below, slot_turned}
use Rattle.history.proofs.Layouts.{length_slot, length_layout, layout_turned, layout_more, in_order_slot, in_order_unused}
use Rattle.history.proofs.States.{full_layout}
use Rattle.history.proofs.Journals.{Fair, count_held, place_held, first_held, good_fair, slots_held, good_total}
use Rattle.history.proofs.Called.{done_has, is_done, add_leaves}

-- where entries lie: entry k in the slot that is k after the first, and zeros in each that is as far as the count or further
module _ (j : Journal) (f : Fair j) (k : ℕ) where
  size : length (slots_of j) ≡ 25600
  unfolding slots_of
  size = length_layout j.first j.entries f.entries.short f.entries.few

  at_slot : k < 100 → slot_at (slot_after j.first k) (slots_of j) ≡ take 256 (drop (256 * k) (turned j.first (slots_of j)))
  at_slot h = sym (slot_turned j.first k (slots_of j) f.begins h size)

  pub entry_lies : k < count j → slot_at (slot_after j.first k) (slots_of j) ≡ slot (entry_of j k)
  unfolding slots_of
  entry_lies h =
      let few = f.entries.few in
      at_slot (omega arith)
      ∙ ap (λ (s : List ℕ). take 256 (drop (256 * k) s)) (layout_turned j.first j.entries f.begins f.entries.short few)
      ∙ in_order_slot j.entries k f.entries.short h

  pub zeros_lie : count j ≤ k → k < 100 → slot_at (slot_after j.first k) (slots_of j) ≡ zeros 256
  unfolding slots_of
  zeros_lie h b =
      at_slot b
      ∙ ap (λ (s : List ℕ). take 256 (drop (256 * k) s)) (layout_turned j.first j.entries f.begins f.entries.short f.entries.few)
      ∙ in_order_unused j.entries k f.entries.short h b

-- no slot, and one that is written
pub changes_none : (n : ℕ) (s t : List ℕ) → t ≡ s → ChangesOnly n s t
changes_none n s t e = record { size = ap length e; front = ap (take (256 * n)) e; rest = ap (drop (256 * (n + 1))) e }

changes_one : (n : ℕ) (x s : List ℕ) → length x ≡ 256 → 256 * n + 256 ≤ length s → ChangesOnly n s (over_at x s (256 * n))
unfolding over over_at
changes_one n x s l h =
    let front : length (take (256 * n) s) ≡ 256 * n = length-take-le (256 * n) s (omega arith) in
    let tail : List ℕ = drop (length x) (drop (256 * n) s) in
    record {
      size = length_over_at x s (256 * n) (omega arith);
      front = take_at (take (256 * n) s) (x ++ tail) (256 * n) front;
      rest = over_at_past x s (256 * n) (256 * (n + 1)) (omega arith) (omega arith);
    }

changes_as : (n : ℕ) (s t u : List ℕ) → t ≡ u → ChangesOnly n s t → ChangesOnly n s u
changes_as n s t u e c = rw e at c

-- a text that is offered is written into the slot after the newest entry, or nowhere
pub offered_changes : (text : List ℕ) (j : Journal) → Fair j → length text ≤ 255 → ChangesOnly (slot_after j.first (count j)) (slots_of j) (slots_of (offered text j))
unfolding slots_of added with_room first_after most_entries
offered_changes text j f l = by (is_new text j.entries) (ltb (count j) 100) refl
  where
    es : List (List ℕ)
    es = j.entries

    at : ℕ
    at = slot_after j.first (count j)

    room : 256 * at + 256 ≤ length (layout j.first es)
    room =
        let b = after_below j.first (count j) in
        let s = length_layout j.first es f.entries.short f.entries.few in
        omega arith

    written : ChangesOnly at (layout j.first es) (over_at (slot text) (layout j.first es) (256 * at))
    written = changes_one at (slot text) (layout j.first es) (length_slot text l) room

    by : (n r : Bool) → ltb (count j) 100 ≡ r
        → ChangesOnly at (layout j.first es) (layout (cond n (cond r j.first (slot_after j.first 1)) j.first) (cond n (cond r es (drop 1 es) ++ (text ∷ [])) es))
    by false r q = changes_none at _ _ refl
    by true true q = changes_as at _ _ _ (layout_more j.first es text f.begins f.entries.short (ltb-true (count j) 100 q) l) written
    by true false q =
        let few = f.entries.few in
        let many = ltb-false (count j) 100 q in
        let full : count j ≡ 100 = omega arith in
        changes_as at _ _ _
        (ap (λ (n : ℕ). over_at (slot text) (layout j.first es) (256 * slot_after j.first n)) full ∙ full_layout j.first es text f.begins f.entries.short full l)
        written

-- an add, whatever it answers
module _ (h : History) (slots text : List ℕ) (r : History) (told : Result ⊤ AddRefusal) (left : List ℕ) (a : Addition h slots text r told left) where
  pub add_changes : ChangesOnly (slot_after h.first h.count) slots left
  add_changes = by (add_answer (good h slots) text) refl a.bytes
    where
      at : ℕ
      at = slot_after h.first h.count

      by : (x : Result ⊤ AddRefusal) → add_answer (good h slots) text ≡ x → left ≡ slots_by x slots (offered text (journal_of h slots)) → ChangesOnly at slots left
      by (Ok u) d e =
          let t = done_has h slots text d in
          let j : Journal = journal_of h slots in
          let same : slot_after j.first (count j) ≡ at =
          ap (λ (i : ℕ). slot_after i (count j)) (first_held h slots) ∙ ap (slot_after h.first) (count_held h slots)
          in
          let c = offered_changes text j (good_fair h slots t.is_good_lem) t.short in
          rw (same, slots_held h slots t.is_good_lem, sym e) at c
      by (Err BadState) d e = changes_none at slots left e
      by (Err (TooLong n)) d e = changes_none at slots left e
      by (Err (IllFormed n)) d e = changes_none at slots left e

-- entries and place after a text was offered are the same wherever the entries lie
pub offered_alike : (text : List ℕ) (j k : Journal) → Alike j k → Alike (offered text j) (offered text k)
offered_alike text j k a =
    record {
      entries = ap (added text) a.entries;
      place = ap (λ (es : List (List ℕ)). length (added text es)) a.entries;
    }

-- two good states whose histories have the same entries and place: the same answer, and two such histories after it
pub add_alike : (h : History) (slots : List ℕ) (h₂ : History) (slots₂ : List ℕ) → good h slots ≡ true → good h₂ slots₂ ≡ true → Alike (journal_of h slots) (journal_of h₂ slots₂)
    → (text : List ℕ) (r r₂ : History) (told told₂ : Result ⊤ AddRefusal) (left left₂ : List ℕ) → Addition h slots text r told left → Addition h₂ slots₂ text r₂ told₂ left₂
    → (told₂ ≡ told) × Alike (journal_of r left) (journal_of r₂ left₂)
add_alike h slots h₂ slots₂ g g₂ a text r r₂ told told₂ left left₂ p q =
    (answer, rw (add_leaves h slots text r told left p, add_leaves h₂ slots₂ text r₂ told₂ left₂ q, answer) (by (is_done told)))
  where
    answer : told₂ ≡ told
    answer = q.answer ∙ ap (λ (t : Bool). add_answer t text) (g₂ ∙ sym g) ∙ sym p.answer

    by : (t : Bool) → Alike (cond t (offered text (journal_of h slots)) (journal_of h slots)) (cond t (offered text (journal_of h₂ slots₂)) (journal_of h₂ slots₂))
    by true = offered_alike text (journal_of h slots) (journal_of h₂ slots₂) a
    by false = a

-- the numbers of two such states
pub numbers_alike : (h : History) (slots : List ℕ) (h₂ : History) (slots₂ : List ℕ) → good h slots ≡ true → good h₂ slots₂ ≡ true → Alike (journal_of h slots) (journal_of h₂ slots₂)
    → (h₂.count ≡ h.count) × (h₂.place ≡ h.place) × (h₂.total ≡ h.total)
numbers_alike h slots h₂ slots₂ g g₂ a = (
  sym (count_held h₂ slots₂) ∙ ap length a.entries ∙ count_held h slots,
  sym (place_held h₂ slots₂) ∙ a.place ∙ place_held h slots,
  (good_total h₂ slots₂ g₂).0 ∙ ap total a.entries ∙ sym (good_total h slots g).0,
)
