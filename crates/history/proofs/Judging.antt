-- The test of a state slot by slot is the test that the standard states: a slot that is not laid out right, or repeats the one before it, is found.
use Prim.Native.Nat.{ℕ, zero, suc, ◌+◌, ◌-◌, ◌*◌, ◌<◌, ◌≤◌}
use mathlib.Core.Path.{◌≡◌, refl, sym, ap, ◌∙◌}
use mathlib.Core.Bool.{Bool, true, false, cond}
use mathlib.Core.List.{List, [], ◌∷◌, ◌++◌, append_assoc}
use native.Mathlib.Omega.{arith}
use lib.Dec.{eqb}
use lib.ListN.{length, take, drop, get_or, length-drop, take-append-drop}
use lib.Seq.{take-add, take_all, drop-drop, length-take-le}
use borrow.Author.Tests.{eq-eqb, ne_eqb, lt-ltb, le-leb}
use Rattle.buffer.proofs.Choices.{then_is, else_is, neither, itself, true_is_not_false}
use Rattle.buffer.proofs.Lists.{drop_step}
use Rattle.buffer.proofs.Zeros.{zero_bytes}
use Rattle.buffer.proofs.Ordering.{same_append, same_after, same_as, same_is}
use Rattle.buffer.proofs.Numbers.{bytes_take, bytes_drop, bytes_append}
use Rattle.buffer.specs.Compare.{same_bytes}
use Rattle.buffer.specs.Numbers.{Bytes}
use Rattle.buffer.specs.Greatest.{greatest}
use Rattle.text.proofs.Pieces.{pieces_none}
use Rattle.text.specs.Apart.{blank, all_white}
use Rattle.history.specs.Entries.{most_entries, usable, sound, total}
use Rattle.buffer.specs.Lend.{zeros}
use Rattle.history.specs.Slots.{slot, run, in_order, turned, layout, entry, entries_from}
use Rattle.history.specs.Journal.{slots_of, journal_of, good}
use Rattle.history.specs.declared.stepping.History.{History}
use Rattle.history.specs.Inner.{unused, good_slot, entries_of, judged, tallied}
use Rattle.history.proofs.Turned.{length_turned, turned_back, turned_on, entries_turned, length_entries}
use Rattle.history.proofs.Layouts.{length_slot, entry_alone}

first_byte : (s : List ℕ) → Bytes s → get_or s 0 0 ≤ 255
unfolding Bytes
first_byte s b = let h = b 0 in omega arith

-- a slot is its length byte, its entry and what lies after
module _ (bs : List ℕ) (whole : length bs ≡ 256) (byte : get_or bs 0 0 ≤ 255) where
  n : ℕ
  n = get_or bs 0 0

  slot_splits : bs ≡ n ∷ (entry bs ++ unused bs)
  unfolding n entry unused
  slot_splits =
      let sum : get_or bs 0 0 + (255 - get_or bs 0 0) ≡ 255 = omega arith in
      let tail : List ℕ = drop 1 bs in
      sym (take_all 256 bs (omega arith))
      ∙ ap (take 256) (drop_step bs 0 0 (omega arith))
      ∙ ap (λ (k : ℕ). get_or bs 0 0 ∷ take k tail) (sym sum)
      ∙ ap (λ (l : List ℕ). get_or bs 0 0 ∷ l) (take-add (get_or bs 0 0) (255 - get_or bs 0 0) tail)
      ∙ ap (λ (l : List ℕ). get_or bs 0 0 ∷ (take (get_or bs 0 0) tail ++ take (255 - get_or bs 0 0) l)) (drop-drop (get_or bs 0 0) 1 bs)

  pub length_entry : length (entry bs) ≡ get_or bs 0 0
  unfolding entry
  length_entry = length-take-le (get_or bs 0 0) (drop 1 bs) (let l = length-drop 1 bs in omega arith)

  length_unused : length (unused bs) ≡ 255 - get_or bs 0 0
  unfolding unused
  length_unused =
      length-take-le (255 - get_or bs 0 0) (drop (1 + get_or bs 0 0) bs) (let l = length-drop (1 + get_or bs 0 0) bs in omega arith)

  slot_of_entry : slot (entry bs) ≡ n ∷ (entry bs ++ zeros (length (unused bs)))
  unfolding n slot
  slot_of_entry =
      let gap : 255 - length (entry bs) ≡ length (unused bs) = let a = length_entry in let b = length_unused in omega arith in
      ap (λ (k : ℕ). k ∷ (entry bs ++ zeros (255 - length (entry bs)))) length_entry
      ∙ ap (λ (k : ℕ). get_or bs 0 0 ∷ (entry bs ++ zeros k)) gap

  -- it is laid out right exactly if zeros lie after its entry
  slot_laid : same_bytes (slot (entry bs)) bs ≡ eqb (greatest (unused bs)) 0
  slot_laid =
      ap (λ (l : List ℕ). same_bytes l bs) slot_of_entry
      ∙ ap (λ (l : List ℕ). same_bytes (n ∷ (entry bs ++ zeros (length (unused bs)))) l) slot_splits
      ∙ same_after (n ∷ entry bs) (zeros (length (unused bs))) (unused bs)
      ∙ zero_bytes (unused bs)

  short_entry : length (entry bs) ≤ 255
  short_entry = let l = length_entry in omega arith

-- the slot before and its entry; before the first slot there is neither
pub data Follows : List ℕ → List ℕ → Type 0 where
  first : Follows [] []
  after : {e : List ℕ} → length e ≤ 255 → Follows (slot e) e

pub usable_some : (e : List ℕ) → usable e ≡ true → same_bytes [] e ≡ false
unfolding usable blank all_white same_bytes
usable_some [] u = absurd (true_is_not_false (sym u ∙ rw pieces_none))
usable_some (x ∷ e) u = refl

no_slot : (e : List ℕ) → same_bytes [] (slot e) ≡ false
unfolding slot same_bytes
no_slot e = refl

slots_differ : (e d : List ℕ) → same_bytes (slot e) (slot d) ≡ same_bytes e d
slots_differ e d =
    same_as (slot e) (slot d) e d
    (λ q. sym (entry_alone e) ∙ ap entry q ∙ entry_alone d)
    (λ q. ap slot q)

follows_same : (before prev e : List ℕ) → Follows before prev → usable e ≡ true → same_bytes before (slot e) ≡ same_bytes prev e
follows_same _ _ e first u = no_slot e ∙ sym (usable_some e u)
follows_same _ prev e (after h) u = slots_differ prev e

-- what a slot more adds to slots in order
order_step : (bs : List ℕ) (es : List (List ℕ)) (rest : List ℕ) → 256 ≤ length bs → get_or (take 256 bs) 0 0 ≤ 255
    → same_bytes ((slot (entry (take 256 bs)) ++ run es) ++ rest) bs ≡ cond (eqb (greatest (unused (take 256 bs))) 0) (same_bytes (run es ++ rest) (drop 256 bs)) false
order_step bs es rest fits byte =
    let s : List ℕ = take 256 bs in
    let whole : length s ≡ 256 = length-take-le 256 bs fits in
    let size : length (slot (entry s)) ≡ length s = length_slot (entry s) (short_entry s whole byte) ∙ sym whole in
    ap (λ (l : List ℕ). same_bytes l bs) (append_assoc (slot (entry s)) (run es) rest)
    ∙ ap (λ (l : List ℕ). same_bytes (slot (entry s) ++ (run es ++ rest)) l) (sym (take-append-drop 256 bs))
    ∙ same_append (slot (entry s)) s (run es ++ rest) (drop 256 bs) size
    ∙ ap (λ (t : Bool). cond t (same_bytes (run es ++ rest) (drop 256 bs)) false) (slot_laid s whole byte)

joined : (p s r j : Bool) → j ≡ cond s r false → cond p false j ≡ cond (cond p false s) r false
joined true s r j e = refl
joined false s r j e = e

-- so many slots, one after the other
pub slot_by_slot : (m n : ℕ) (before prev bs : List ℕ) → n ≤ m → length bs ≡ 256 * m → Bytes bs → Follows before prev
    → judged before n bs ≡ cond (sound prev (entries_of n bs)) (same_bytes (run (entries_of n bs) ++ zeros (256 * m - 256 * n)) bs) false
unfolding judged good_slot sound entries_of run
slot_by_slot m zero before prev bs h l b f =
    let e : length bs ≡ 256 * m - 256 * 0 = omega arith in
    sym (zero_bytes bs) ∙ ap (λ (k : ℕ). same_bytes (zeros k) bs) e
slot_by_slot zero (suc n) before prev bs h l b f = absurd (omega arith)
slot_by_slot (suc m) (suc n) before prev bs h l b f =
    by (λ t q. slot_by_slot m n t e (drop 256 bs) (omega arith) (let d = length-drop 256 bs in omega arith) (bytes_drop 256 bs b) (rw q (after {e = e} (short_entry s whole byte)))) (usable e) (eqb (greatest (unused s)) 0) refl refl
    ∙ ap (λ (t : Bool). cond (cond (usable e) (cond (same_bytes prev e) false (sound e es)) false) t false)
    (sym (order_step bs es (zeros (256 * m - 256 * n)) fits byte) ∙ ap (λ (k : ℕ). same_bytes ((slot e ++ run es) ++ zeros k) bs) less)
  where
    fits : 256 ≤ length bs
    fits = omega arith

    s : List ℕ
    s = take 256 bs

    whole : length s ≡ 256
    whole = length-take-le 256 bs fits

    byte : get_or s 0 0 ≤ 255
    byte = first_byte s (bytes_take 256 bs b)

    less : 256 * m - 256 * n ≡ 256 * suc m - 256 * suc n
    less = omega arith

    e : List ℕ
    e = entry s

    es : List (List ℕ)
    es = entries_of n (drop 256 bs)

    by : ((t : List ℕ) → t ≡ slot e → judged t n (drop 256 bs) ≡ cond (sound e es) (same_bytes (run es ++ zeros (256 * m - 256 * n)) (drop 256 bs)) false)
        → (u v : Bool) → usable e ≡ u → eqb (greatest (unused s)) 0 ≡ v
        → cond (cond u v false) (cond (same_bytes before s) false (judged s n (drop 256 bs))) false
        ≡ cond (cond u (cond (same_bytes prev e) false (sound e es)) false) (cond v (same_bytes (run es ++ zeros (256 * m - 256 * n)) (drop 256 bs)) false) false
    by later false v p q = refl
    by later true false p q = sym (neither (cond (same_bytes prev e) false (sound e es)))
    by later true true p q =
        let is : s ≡ slot e = sym (same_is (slot e) s (slot_laid s whole byte ∙ q)) in
        ap (λ (t : Bool). cond t false (judged s n (drop 256 bs))) (ap (same_bytes before) is ∙ follows_same before prev e f p)
        ∙ joined (same_bytes prev e) (sound e es) _ (judged s n (drop 256 bs)) (later s is)

-- the slots lie where they must exactly if they do in the order of the entries
laid_in_order : (f : ℕ) (es : List (List ℕ)) (slots : List ℕ) → f < 100 → length slots ≡ 25600 → same_bytes (in_order es) (turned f slots) ≡ same_bytes (layout f es) slots
unfolding layout
laid_in_order f es slots low l =
    same_as (in_order es) (turned f slots) (turned (100 - f) (in_order es)) slots
    (λ q. ap (turned (100 - f)) q ∙ turned_back f slots (omega arith) l)
    (λ q. sym (turned_on f (in_order es) (omega arith) (sym (length_turned (100 - f) (in_order es)) ∙ ap length q ∙ l)) ∙ ap (turned f) q)

bytes_turned : (f : ℕ) (s : List ℕ) → Bytes s → Bytes (turned f s)
unfolding turned
bytes_turned f s b = bytes_append (drop (256 * f) s) (take (256 * f) s) (bytes_drop (256 * f) s b) (bytes_take (256 * f) s b)

-- and so the whole state, with its total
nested : (s l t : Bool) → cond (cond s l false) t false ≡ cond s (cond l t false) false
nested true l t = refl
nested false l t = refl

pub good_is : (h : History) (slots : List ℕ) → Bytes slots → length slots ≡ 25600 → h.first < 100 → h.count ≤ 100 → h.place ≤ h.count
    → tallied h.count h.total (turned h.first slots) ≡ good h slots
unfolding good slots_of journal_of in_order most_entries tallied
good_is h slots b l low c k =
    let view : List ℕ = turned h.first slots in
    let es : List (List ℕ) = entries_from h.first h.count slots in
    let same : entries_of h.count view ≡ es = sym (entries_turned h.first h.count slots low c l) in
    let tallies : Bool = eqb h.total (total es) in
    let size : length view ≡ 25600 = length_turned h.first slots ∙ l in
    ap (λ (t : Bool). cond t (eqb h.total (total (entries_of h.count view))) false)
    (slot_by_slot 100 h.count [] [] view c size (bytes_turned h.first slots b) first)
    ∙ ap (λ (es' : List (List ℕ)). cond (cond (sound [] es') (same_bytes (run es' ++ zeros (25600 - 256 * h.count)) view) false) (eqb h.total (total es')) false) same
    ∙ ap (λ (n : ℕ). cond (cond (sound [] es) (same_bytes (run es ++ zeros (25600 - 256 * n)) view) false) tallies false) (sym (length_entries h.first h.count slots))
    ∙ ap (λ (t : Bool). cond (cond (sound [] es) t false) tallies false) (laid_in_order h.first es slots low l)
    ∙ nested (sound [] es) _ tallies
    ∙ sym (then_is _ _ _ (eq-eqb _ _ l) ∙ then_is _ _ _ (lt-ltb _ _ low) ∙ then_is _ _ _ (le-leb _ _ c) ∙ then_is _ _ _ (le-leb _ _ k))

-- slots of which one is not good, and slots with another total and with theirs
pub tallied_not : (n sum : ℕ) (s : List ℕ) → judged [] n s ≡ false → tallied n sum s ≡ false
unfolding tallied
tallied_not n sum s e = else_is _ _ _ e

pub tallied_other : (n sum : ℕ) (s : List ℕ) → (sum ≡ total (entries_of n s) → ⊥) → tallied n sum s ≡ false
unfolding tallied
tallied_other n sum s e = ap (λ (t : Bool). cond (judged [] n s) t false) (ne_eqb _ _ e) ∙ neither (judged [] n s)

pub tallied_so : (n sum : ℕ) (s : List ℕ) → sum ≡ total (entries_of n s) → tallied n sum s ≡ judged [] n s
unfolding tallied
tallied_so n sum s e = ap (λ (t : Bool). cond (judged [] n s) t false) (eq-eqb _ _ e) ∙ itself (judged [] n s)
