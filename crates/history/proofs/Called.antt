-- What holds of a history's calls: a text that is added was asked of a good state, changes the total by what it adds and drops, and where there is room drops nothing.
use Rattle.std.specs.Prelude.{Ok, Err, Result, ⊤}
use Prim.Native.Nat.{ℕ, ◌+◌, ◌-◌, ◌<◌, ◌≤◌}
use mathlib.Core.Path.{◌≡◌, refl, sym, ap, ◌∙◌}
use mathlib.Core.Bool.{Bool, true, false, cond}
use mathlib.Core.List.{List, [], ◌∷◌, ◌++◌, append-nil, append_assoc}
use native.Mathlib.Omega.{arith}
use lib.Dec.{ltb}
use lib.ListN.{length, drop, get_or}
use borrow.Author.Tests.{lt-ltb, ltb-false}
use Rattle.buffer.proofs.Choices.{true_is_not_false}
use Rattle.text.specs.Decoding.{well_formed_length, well_formed}
use Rattle.history.specs.Entries.{most_entries, is_new, with_room, added, total}
use Rattle.history.specs.Slots.{slot_after}
use Rattle.history.specs.Journal.{Journal, count, entry_of, first_after, offered, Longer, record_of, journal_of, good}
use Rattle.history.specs.Answer.{add_answer, record_by, slots_by, Addition}
use Rattle.history.specs.declared.stepping.History.{History}
use Rattle.history.specs.declared.adding.AddRefusal.{AddRefusal}
use Rattle.history.specs.declared.adding.AddRefusal.TheVariants.{BadState as BadHistory, TooLong, IllFormed}
use Rattle.history.proofs.Journals.{Fair, count_held, same_held, good_fair, fair_held, fair_offered, good_total}
use Rattle.history.proofs.Totals.{total_added}

-- a text that is added is short and well-formed, and the state good
pub record Taken (h : History) (slots text : List ℕ) : Type 0 where
  pub is_good_lem : good h slots ≡ true
  pub short : length text ≤ 255
  pub formed : well_formed text ≡ true

pub done_has : (h : History) (slots text : List ℕ) → add_answer (good h slots) text ≡ Ok tt → Taken h slots text
unfolding add_answer
done_has h slots text d = by (good h slots) (ltb 255 (length text)) (well_formed text) refl refl refl d
  where
    by : (a b w : Bool) → good h slots ≡ a → ltb 255 (length text) ≡ b → well_formed text ≡ w
        → ◌≡◌ {A = Result ⊤ AddRefusal} (cond a (cond b (Err (TooLong (length text))) (cond w (Ok tt) (Err (IllFormed (well_formed_length text))))) (Err BadHistory)) (Ok tt) → Taken h slots text
    by true false true p q r e = record { is_good_lem = p; short = ltb-false _ _ q; formed = r }
    by true false false p q r e = absurd (let z : ◌≡◌ {A = ℕ} 0 1 = cc in omega arith)
    by true true w p q r e = absurd (let z : ◌≡◌ {A = ℕ} 0 1 = cc in omega arith)
    by false b w p q r e = absurd (let z : ◌≡◌ {A = ℕ} 0 1 = cc in omega arith)

-- and the history after it keeps the rules
pub taken_fair : (h : History) (slots text : List ℕ) → Taken h slots text → Fair (offered text (journal_of h slots))
taken_fair h slots text t = fair_offered text (journal_of h slots) (good_fair h slots t.is_good_lem) t.short t.formed

-- what is held after it
pub add_after : (h : History) (slots text : List ℕ) (r : History) (left : List ℕ) → Addition h slots text r (Ok tt) left → journal_of r left ≡ offered text (journal_of h slots)
add_after h slots text r left a =
    let d : add_answer (good h slots) text ≡ Ok tt = sym a.answer in
    let j : Journal = offered text (journal_of h slots) in
    same_held (a.state ∙ ap (λ (x : Result ⊤ AddRefusal). record_by x h j) d) (a.bytes ∙ ap (λ (x : Result ⊤ AddRefusal). slots_by x slots j) d)
    ∙ fair_held j (taken_fair h slots text (done_has h slots text d))

-- whatever the answer: the text was offered, or all is as it was
abbrev pub is_done : Result ⊤ AddRefusal → Bool
is_done (Ok u) = true
is_done (Err BadHistory) = false
is_done (Err (TooLong n)) = false
is_done (Err (IllFormed n)) = false

pub add_leaves : (h : History) (slots text : List ℕ) (r : History) (told : Result ⊤ AddRefusal) (left : List ℕ) → Addition h slots text r told left
    → journal_of r left ≡ cond (is_done told) (offered text (journal_of h slots)) (journal_of h slots)
add_leaves h slots text r told left a = by told a (a.state ∙ ap (λ (x : Result ⊤ AddRefusal). record_by x h j) (sym a.answer)) (a.bytes ∙ ap (λ (x : Result ⊤ AddRefusal). slots_by x slots j) (sym a.answer))
  where
    j : Journal
    j = offered text (journal_of h slots)

    by : (x : Result ⊤ AddRefusal) → Addition h slots text r x left → r ≡ record_by x h j → left ≡ slots_by x slots j → journal_of r left ≡ cond (is_done x) j (journal_of h slots)
    by (Ok u) a p q = add_after h slots text r left a
    by (Err BadHistory) a p q = same_held p q
    by (Err (TooLong n)) a p q = same_held p q
    by (Err (IllFormed n)) a p q = same_held p q

-- the total after it: that before, with what is added and without what is dropped
pub added_total : (h : History) (slots text : List ℕ) (r : History) (left : List ℕ) → Addition h slots text r (Ok tt) left
    → r.total
    ≡ cond (is_new text (journal_of h slots).entries)
    (cond (ltb (count (journal_of h slots)) most_entries) h.total (h.total - length (entry_of (journal_of h slots) 0)) + length text)
    h.total
unfolding record_of
added_total h slots text r left a =
    let es : List (List ℕ) = (journal_of h slots).entries in
    let done : add_answer (good h slots) text ≡ Ok tt = sym a.answer in
    let before : h.total ≡ total es = (good_total h slots (done_has h slots text done).is_good_lem).0 in
    ap (λ (x : History). x.total) (a.state ∙ ap (λ (x : Result ⊤ AddRefusal). record_by x h (offered text (journal_of h slots))) done)
    ∙ total_added text es
    ∙ ap (λ (t : ℕ). cond (is_new text es) (cond (ltb (length es) most_entries) t (t - length (get_or es 0 [])) + length text) t) (sym before)

-- with room no entry is dropped: those that were there stay in front, and in their slots
pub longer_same : (j k : Journal) → k.entries ≡ j.entries → k.first ≡ j.first → Longer j k
longer_same j k e f = record { more = []; entries = e ∙ sym (append-nil j.entries); first = f }

pub longer_on : (i j k : Journal) → Longer i j → Longer j k → Longer i k
longer_on i j k a b =
    record {
      more = a.more ++ b.more;
      entries = b.entries ∙ ap (λ (es : List (List ℕ)). es ++ b.more) a.entries ∙ append_assoc i.entries a.more b.more;
      first = b.first ∙ a.first;
    }

pub offered_longer : (text : List ℕ) (j : Journal) → count j < 100 → Longer j (offered text j)
unfolding added with_room first_after most_entries
offered_longer text j room = by (is_new text j.entries) (ltb (count j) 100) (lt-ltb (count j) 100 room)
  where
    by : (n r : Bool) → r ≡ true
        → let es : List (List ℕ) = cond n (cond r j.entries (drop 1 j.entries) ++ (text ∷ [])) j.entries in
        Longer j (record { entries = es; place = length es; first = cond n (cond r j.first (slot_after j.first 1)) j.first })
    by false r e = longer_same j _ refl refl
    by true true e = record { more = text ∷ []; entries = refl; first = refl }
    by true false e = absurd (true_is_not_false (sym e))

pub add_longer : (h : History) (slots text : List ℕ) (r : History) (told : Result ⊤ AddRefusal) (left : List ℕ) → h.count < 100 → Addition h slots text r told left
    → Longer (journal_of h slots) (journal_of r left)
add_longer h slots text r told left room a = rw (add_leaves h slots text r told left a) (by (is_done told))
  where
    by : (t : Bool) → Longer (journal_of h slots) (cond t (offered text (journal_of h slots)) (journal_of h slots))
    by true = offered_longer text (journal_of h slots) (let n = count_held h slots in omega arith)
    by false = longer_same _ _ refl refl
