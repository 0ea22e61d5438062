-- Laws of forgetting over record and slots: entries cut out of a good state, which answer comes when and that there is one only, what is held after it, and that no trace of what went is left.
use Rattle.std.specs.Prelude.{Ok, Err, Result}
use Prim.Native.Nat.{ℕ, ◌+◌, ◌-◌, ◌*◌, ◌<◌, ◌≤◌}
use mathlib.Core.Path.{◌≡◌, refl, sym, ap, ◌∙◌}
use mathlib.Core.Bool.{Bool, true, false, cond}
use mathlib.Core.List.{List}
use native.Mathlib.Omega.{arith}
use lib.Dec.{ltb}
use lib.ListN.{length, take, drop}
use borrow.Author.Tests.{lt-ltb, le-ltb, ltb-true}
use Rattle.buffer.proofs.Choices.{then_is, else_is}
use Rattle.buffer.specs.Write.{over_at}
use Rattle.buffer.specs.Lend.{zeros}
use Rattle.history.specs.Entries.{total}
use Rattle.history.specs.Slots.{turned, entries_from}
use Rattle.history.specs.Journal.{Journal, count, Alike, record_of, slots_of, journal_of, good}
use Rattle.history.specs.Answer.{Holds}
use Rattle.history.specs.Forgotten.{without, repeats, remaining, gone, forgotten, forget_answer, is_gone, record_left, slots_left, Forgets, value}
use Rattle.history.specs.Inner.{cut_out, cut_from}
use Rattle.history.specs.declared.stepping.History.{History}
use Rattle.history.specs.declared.forgetting.ForgetRefusal.{ForgetRefusal}
use Rattle.history.specs.declared.forgetting.ForgetRefusal.TheVariants.{BadState, NoEntry}
use Rattle.history.proofs.Steps.{same_numbers}
use Rattle.history.proofs.Journals.{Fair, count_held, first_held, same_held, same_good, good_fair, slots_held, fair_held, fair_good, good_total}
use Rattle.history.proofs.Forgotten.{length_cut, total_cut, remaining_cut, total_remaining, entries_remaining}
use Rattle.history.proofs.Closing.{layout_cut}

-- entries cut out of a good state
module _ (h : History) (slots : List ℕ) (is : good h slots ≡ true) (start end : ℕ) (before : start ≤ end) where
  pub lost_within : total (take (end - start) (drop start (journal_of h slots).entries)) ≤ h.total
  lost_within =
      let t = (good_total h slots is).0 in
      let c = total_cut start end (journal_of h slots).entries before in
      omega arith

  pub cut_holds : (mid after : List ℕ) (left sum : ℕ) → end ≤ h.count → left ≡ h.count - (end - start) → sum ≡ total (take (end - start) (drop start (journal_of h slots).entries))
      → length after ≡ 25600 → turned h.first mid ≡ over_at (take (256 * (h.count - end)) (drop (256 * end) (turned h.first slots))) (turned h.first slots) (256 * start)
      → turned h.first after ≡ over_at (zeros (256 * (h.count - left))) (turned h.first mid) (256 * left)
      → Holds (cut_from start end (journal_of h slots)) (record { count = left; place = left; total = h.total - sum; first = h.first }) after
  unfolding record_of slots_of journal_of
  cut_holds mid after left sum within l s size moved wiped =
      let es : List (List ℕ) = entries_from h.first h.count slots in
      let f = good_fair h slots is in
      let n : length es ≡ h.count = count_held h slots in
      let counts : left ≡ length (cut_out start end es) = l ∙ sym (length_cut start end es before (omega arith) ∙ ap (λ (i : ℕ). i - (end - start)) n) in
      let t = (good_total h slots is).0 in
      let c = total_cut start end es before in
      record {
        state = same_numbers counts counts (omega arith) refl;
        bytes =
            layout_cut h.first es slots mid after h.count start end left f.begins f.entries.short f.entries.few (sym (slots_held h slots is)) n before within l size
            moved
            wiped;
      }

-- what holds the entries that remain
holds_remaining : (j : Journal) (k start : ℕ) (r : History) (left : List ℕ) → remaining k j.entries ≡ cut_out start (k + 1) j.entries → Holds (cut_from start (k + 1) j) r left
    → Holds (forgotten k j) r left
holds_remaining j k start r left e o =
    record {
      state = o.state ∙ ap (λ (es : List (List ℕ)). record_of (record { entries = es; place = length es; first = j.first })) (sym e);
      bytes = o.bytes ∙ ap (λ (es : List (List ℕ)). slots_of (record { entries = es; place = length es; first = j.first })) (sym e);
    }

module _ (h : History) (slots : List ℕ) (k : ℕ) where
  -- the tests in their order
  answer_bad : good h slots ≡ false → forget_answer (good h slots) k (journal_of h slots).entries ≡ Err BadState
  unfolding forget_answer
  answer_bad e = else_is _ _ _ e

  answer_past : good h slots ≡ true → h.count ≤ k → forget_answer (good h slots) k (journal_of h slots).entries ≡ Err (NoEntry k)
  unfolding forget_answer
  answer_past e l = then_is _ _ _ e ∙ else_is _ _ _ (let n = count_held h slots in le-ltb k (count (journal_of h slots)) (omega arith))

  answer_gone : good h slots ≡ true → k < h.count → forget_answer (good h slots) k (journal_of h slots).entries ≡ Ok (gone k (journal_of h slots).entries)
  unfolding forget_answer
  answer_gone e l = then_is _ _ _ e ∙ then_is _ _ _ (let n = count_held h slots in lt-ltb k (count (journal_of h slots)) (omega arith))

  -- the contract, at each answer
  pub forgets_bad : good h slots ≡ false → Forgets h slots k h (Err BadState) slots
  forgets_bad e = record { answer = sym (answer_bad e); state = refl; bytes = refl }

  pub forgets_past : good h slots ≡ true → h.count ≤ k → Forgets h slots k h (Err (NoEntry k)) slots
  forgets_past e l = record { answer = sym (answer_past e l); state = refl; bytes = refl }

  module _ (is : good h slots ≡ true) (there : k < h.count) (r : History) (left : List ℕ) where
    among : k < count (journal_of h slots)
    among = let n = count_held h slots in omega arith

    pub forgets_gone : (n : ℕ) → n ≡ gone k (journal_of h slots).entries → Holds (cut_from (k + 1 - n) (k + 1) (journal_of h slots)) r left → Forgets h slots k r (Ok n) left
    forgets_gone n e o =
        let es : List (List ℕ) = (journal_of h slots).entries in
        let p = holds_remaining (journal_of h slots) k (k + 1 - n) r left (remaining_cut k es among ∙ ap (λ (m : ℕ). cut_out (k + 1 - m) (k + 1) es) (sym e)) o in
        record { answer = ap Ok e ∙ sym (answer_gone is there); state = p.state; bytes = p.bytes }

  -- no second answer, state or buffer satisfies it
  pub one_forget : (r r' : History) (told told' : Result ℕ ForgetRefusal) (left left' : List ℕ) → Forgets h slots k r told left → Forgets h slots k r' told' left'
      → (told ≡ told') × (r ≡ r') × (left ≡ left')
  one_forget r r' told told' left left' a b =
      let e : told ≡ told' = a.answer ∙ sym b.answer in (
        e,
        a.state ∙ ap (λ (x : Result ℕ ForgetRefusal). record_left x h (forgotten k (journal_of h slots))) e ∙ sym b.state,
        a.bytes ∙ ap (λ (x : Result ℕ ForgetRefusal). slots_left x slots (forgotten k (journal_of h slots))) e ∙ sym b.bytes,
      )

-- an entry goes only of a good state, and if it is there
pub gone_has : (is : Bool) (k : ℕ) (es : List (List ℕ)) (n : ℕ) → Ok n ≡ forget_answer is k es → (is ≡ true) × (k < length es) × (n ≡ gone k es)
unfolding forget_answer
gone_has is k es n e = by is (ltb k (length es)) refl e
  where
    by : (a b : Bool) → ltb k (length es) ≡ b → Ok n ≡ cond a (cond b (Ok (gone k es)) (Err (NoEntry k))) (Err BadState) → (a ≡ true) × (k < length es) × (n ≡ gone k es)
    by true true q e = (refl, ltb-true k (length es) q, ap value e)
    by true false q e = absurd (let z : ◌≡◌ {A = ℕ} 0 1 = cc in omega arith)
    by false b q e = absurd (let z : ◌≡◌ {A = ℕ} 0 1 = cc in omega arith)

-- the history after it keeps the rules
pub fair_forgotten : (k : ℕ) (j : Journal) → k < count j → Fair j → Fair (forgotten k j)
fair_forgotten k j l f = record { entries = entries_remaining k j.entries l f.entries; placed = omega arith; begins = f.begins }

-- an entry that went: what is held after it, how many went, and the total
module _ (h : History) (slots : List ℕ) (k : ℕ) (r : History) (n : ℕ) (left : List ℕ) (a : Forgets h slots k r (Ok n) left) where
  was_good : good h slots ≡ true
  was_good = (gone_has (good h slots) k (journal_of h slots).entries n a.answer).0

  pub was_there : k < h.count
  was_there = let l = (gone_has (good h slots) k (journal_of h slots).entries n a.answer).1 in let c = count_held h slots in omega arith

  pub so_many : n ≡ gone k (journal_of h slots).entries
  so_many = (gone_has (good h slots) k (journal_of h slots).entries n a.answer).2

  fair_after : Fair (forgotten k (journal_of h slots))
  fair_after = fair_forgotten k (journal_of h slots) (gone_has (good h slots) k (journal_of h slots).entries n a.answer).1 (good_fair h slots was_good)

  pub forget_after : journal_of r left ≡ forgotten k (journal_of h slots)
  forget_after = same_held a.state a.bytes ∙ fair_held (forgotten k (journal_of h slots)) fair_after

  pub gone_good : good r left ≡ true
  gone_good = same_good a.state a.bytes ∙ fair_good (forgotten k (journal_of h slots)) fair_after

  pub forgotten_total : r.total + total (take n (drop (k + 1 - n) (journal_of h slots).entries)) ≡ h.total
  unfolding record_of
  forgotten_total =
      let es : List (List ℕ) = (journal_of h slots).entries in
      ap (λ (x : History). x.total + total (take n (drop (k + 1 - n) es))) a.state
      ∙ ap (λ (m : ℕ). total (remaining k es) + total (take m (drop (k + 1 - m) es))) so_many
      ∙ total_remaining k es (let l = was_there in let c = count_held h slots in omega arith)
      ∙ sym (good_total h slots was_good).0

-- an entry that is there goes, of a good state
forgets_it : (h : History) (slots : List ℕ) (k : ℕ) (r : History) (told : Result ℕ ForgetRefusal) (left : List ℕ) → good h slots ≡ true → k < h.count → Forgets h slots k r told left
    → (told ≡ Ok (gone k (journal_of h slots).entries)) × (r ≡ record_of (forgotten k (journal_of h slots))) × (left ≡ slots_of (forgotten k (journal_of h slots)))
forgets_it h slots k r told left g l a =
    let e : told ≡ Ok (gone k (journal_of h slots).entries) = a.answer ∙ answer_gone h slots k g l in (
      e,
      a.state ∙ ap (λ (x : Result ℕ ForgetRefusal). record_left x h (forgotten k (journal_of h slots))) e,
      a.bytes ∙ ap (λ (x : Result ℕ ForgetRefusal). slots_left x slots (forgotten k (journal_of h slots))) e,
    )

-- NO TRACE of it is left: two good states that begin in one slot and differ in entry k alone are the same after it went, in the answer, in the record and in every byte
gone_alike : (k : ℕ) (es fs : List (List ℕ)) → without k fs ≡ without k es → (remaining k fs ≡ remaining k es) × (gone k fs ≡ gone k es)
unfolding remaining gone
gone_alike k es fs e =
    (ap (λ (l : List (List ℕ)). cond (repeats k l) (without (k - 1) l) l) e, ap (λ (l : List (List ℕ)). cond (repeats k l) 2 1) e)

pub no_trace : (h : History) (slots : List ℕ) (h₂ : History) (slots₂ : List ℕ) (k : ℕ) → good h slots ≡ true → good h₂ slots₂ ≡ true → k < h.count → k < h₂.count → h₂.first ≡ h.first
    → without k (journal_of h₂ slots₂).entries ≡ without k (journal_of h slots).entries
    → (r r₂ : History) (told told₂ : Result ℕ ForgetRefusal) (left left₂ : List ℕ) → Forgets h slots k r told left → Forgets h₂ slots₂ k r₂ told₂ left₂ → (told₂ ≡ told) × (r₂ ≡ r) × (left₂ ≡ left)
no_trace h slots h₂ slots₂ k g g₂ l l₂ f e r r₂ told told₂ left left₂ a b =
    let p = forgets_it h slots k r told left g l a in
    let q = forgets_it h₂ slots₂ k r₂ told₂ left₂ g₂ l₂ b in
    let s = gone_alike k (journal_of h slots).entries (journal_of h₂ slots₂).entries e in
    let first = first_held h₂ slots₂ ∙ f ∙ sym (first_held h slots) in
    let same : forgotten k (journal_of h₂ slots₂) ≡ forgotten k (journal_of h slots) = after s.0 first in
    (q.0 ∙ ap Ok s.1 ∙ sym p.0, q.1 ∙ ap record_of same ∙ sym p.1, q.2 ∙ ap slots_of same ∙ sym p.2)
  where
    after : {es fs : List (List ℕ)} {m n : ℕ} → es ≡ fs → m ≡ n
        → ◌≡◌ {A = Journal} (record { entries = es; place = length es; first = m }) (record { entries = fs; place = length fs; first = n })
    after u v = cc

-- whatever it answers, the first slot stays
pub forget_first : (h : History) (slots : List ℕ) (k : ℕ) (r : History) (told : Result ℕ ForgetRefusal) (left : List ℕ) → Forgets h slots k r told left → r.first ≡ h.first
unfolding record_of journal_of
forget_first h slots k r told left a = ap (λ (x : History). x.first) a.state ∙ by (is_gone told)
  where
    by : (t : Bool) → (cond t (record_of (forgotten k (journal_of h slots))) h).first ≡ h.first
    by true = refl
    by false = refl

-- entries and place after it are the same wherever the entries lie
forgotten_alike : (k : ℕ) (i j : Journal) → Alike i j → Alike (forgotten k i) (forgotten k j)
forgotten_alike k i j a =
    record {
      entries = ap (remaining k) a.entries;
      place = ap (λ (es : List (List ℕ)). length (remaining k es)) a.entries;
    }

pub forget_alike : (h : History) (slots : List ℕ) (h₂ : History) (slots₂ : List ℕ) → good h slots ≡ true → good h₂ slots₂ ≡ true → Alike (journal_of h slots) (journal_of h₂ slots₂)
    → (k : ℕ) (r r₂ : History) (told told₂ : Result ℕ ForgetRefusal) (left left₂ : List ℕ) → Forgets h slots k r told left → Forgets h₂ slots₂ k r₂ told₂ left₂
    → (told₂ ≡ told) × Alike (journal_of r left) (journal_of r₂ left₂)
forget_alike h slots h₂ slots₂ g g₂ a k r r₂ told told₂ left left₂ p q = (same, by told p (rw same at q))
  where
    same : told₂ ≡ told
    same =
        q.answer
        ∙ ap (λ (t : Bool). forget_answer t k (journal_of h₂ slots₂).entries) (g₂ ∙ sym g)
        ∙ ap (forget_answer (good h slots) k) a.entries
        ∙ sym p.answer

    by : (x : Result ℕ ForgetRefusal) → Forgets h slots k r x left → Forgets h₂ slots₂ k r₂ x left₂ → Alike (journal_of r left) (journal_of r₂ left₂)
    by (Ok n) p q = rw (forget_after h slots k r n left p, forget_after h₂ slots₂ k r₂ n left₂ q) (forgotten_alike k (journal_of h slots) (journal_of h₂ slots₂) a)
    by (Err BadState) p q = rw (same_held p.state p.bytes, same_held q.state q.bytes) a
    by (Err (NoEntry m)) p q = rw (same_held p.state p.bytes, same_held q.state q.bytes) a
