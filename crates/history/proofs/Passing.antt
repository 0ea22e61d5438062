-- Laws of the pass that the code makes over the slots, from the first on and round the end: the parts of a slot, a turn, and what lies after the last entry.
use Prim.Native.Nat.{ℕ, zero, suc, ◌+◌, ◌-◌, ◌*◌, ◌%◌, ◌<◌, ◌≤◌, max}
use mathlib.Core.Path.{◌≡◌, refl, sym, ap, ◌∙◌}
use mathlib.Core.Bool.{Bool, true, false, cond, not}
use mathlib.Core.List.{List, [], ◌++◌}
use native.Mathlib.Omega.{arith}
use lib.Dec.{ltb, eqb}
use lib.ListN.{length, take, drop, get_or, length-drop, take-append-drop}
use lib.Seq.{take-add, take-take, drop-drop, drop-append-le, drop-append-add, get_or-take, get_or-drop}
use borrow.Author.Tests.{eq-eqb, ne_eqb, ltb-true, ltb-false}
use Rattle.buffer.proofs.Choices.{then_is, else_is, neither, itself}
use Rattle.buffer.proofs.Lists.{drop_step, drop_take}
use Rattle.buffer.proofs.Lending.{rest_lent}
use Rattle.buffer.proofs.Greatest.{greatest_append}
use Rattle.buffer.proofs.Ordering.{same_is, is_same}
use Rattle.buffer.specs.Compare.{same_bytes}
use Rattle.buffer.specs.Greatest.{greatest}
use Rattle.text.specs.Decoding.{well_formed}
use Rattle.text.specs.Apart.{blank}
use Rattle.text.proofs.Prefix.{ascii_well_formed, whole_is}
use Rattle.text.proofs.Splits.{solid_ascii}
use Rattle.history.specs.Entries.{usable, total}
use Rattle.history.specs.Slots.{slot_after, turned, slot_at, entry}
use Rattle.history.specs.Inner.{unused, good_slot, slot_before, next_place, entries_of, judged}
use Rattle.history.proofs.Turned.{length_turned, slot_turned}
use Rattle.history.proofs.Totals.{total_turn}

-- what is read of a slot, where it is read with more after it
pub within_slot : (m i : ℕ) (s : List ℕ) → i + m ≤ 256 → take m (drop i (take 256 s)) ≡ take m (drop i s)
within_slot m i s h = ap (take m) (drop_take i 256 s) ∙ take-take m (256 - i) (drop i s) (omega arith)

pub head_at : (s : List ℕ) (at : ℕ) → get_or (take 256 (drop at s)) 0 0 ≡ get_or s at 0
head_at s at =
    let e : at + 0 ≡ at = omega arith in
    get_or-take 256 (drop at s) 0 0 (omega arith) ∙ get_or-drop at s 0 0 ∙ ap (λ (k : ℕ). get_or s k 0) e

-- the parts of a slot at a place
pub entry_part : (s : List ℕ) (at n : ℕ) → n ≡ get_or s at 0 → n ≤ 255 → take (at + 1 + n - (at + 1)) (drop (at + 1) s) ≡ entry (take 256 (drop at s))
unfolding entry
entry_part s at n e small =
    let size : at + 1 + n - (at + 1) ≡ n = omega arith in
    ap (λ (k : ℕ). take k (drop (at + 1) s)) size
    ∙ ap (take n) (sym (drop-drop 1 at s))
    ∙ sym (within_slot n 1 (drop at s) (omega arith))
    ∙ ap (λ (k : ℕ). take k (drop 1 (take 256 (drop at s)))) (e ∙ sym (head_at s at))

unused_part : (s : List ℕ) (at n : ℕ) → n ≡ get_or s at 0 → n ≤ 255 → take (at + 256 - (at + 1 + n)) (drop (at + 1 + n) s) ≡ unused (take 256 (drop at s))
unfolding unused
unused_part s at n e small =
    let size : at + 256 - (at + 1 + n) ≡ 255 - n = omega arith in
    let place : at + 1 + n ≡ at + (1 + n) = omega arith in
    ap (λ (k : ℕ). take k (drop (at + 1 + n) s)) size
    ∙ ap (λ (k : ℕ). take (255 - n) (drop k s)) place
    ∙ ap (take (255 - n)) (sym (drop-drop (1 + n) at s))
    ∙ sym (within_slot (255 - n) (1 + n) (drop at s) (omega arith))
    ∙ ap (λ (k : ℕ). take (255 - k) (drop (1 + k) (take 256 (drop at s)))) (e ∙ sym (head_at s at))

-- an ASCII text is usable if it is not blank, and it is not if it has a byte above 20
usable_ascii : (text : List ℕ) → greatest text < 0x80 → usable text ≡ not (blank text)
unfolding usable well_formed
usable_ascii text h = ap (λ (t : Bool). cond (blank text) false t) (eq-eqb _ _ (whole_is text (ascii_well_formed text h))) ∙ unless (blank text)
  where
    unless : (t : Bool) → cond t false true ≡ not t
    unless true = refl
    unless false = refl

pub usable_solid : (text : List ℕ) (top : ℕ) → greatest text ≡ top → top < 0x80 → 0x20 < top → true ≡ usable text
usable_solid text top e h k = sym (usable_ascii text (omega arith) ∙ ap not (solid_ascii text (omega arith) (omega arith)))

pub usable_low : (text : List ℕ) (top : ℕ) (r : Bool) → greatest text ≡ top → top < 0x80 → r ≡ blank text → not r ≡ usable text
usable_low text top r e h b = ap not b ∙ sym (usable_ascii text (omega arith))

-- no byte of an entry is above the greatest of a part that begins with it
greatest_first : (s : List ℕ) (i j : ℕ) → i ≤ j → greatest (take i s) ≤ greatest (take j s)
greatest_first s i j h =
    let parts : greatest (take j s) ≡ max (greatest (take i s)) (greatest (drop i (take j s))) =
    ap greatest (sym (take-append-drop i (take j s))) ∙ greatest_append (take i (take j s)) (drop i (take j s))
    ∙ ap (λ (l : List ℕ). max (greatest l) (greatest (drop i (take j s)))) (take-take i j s h)
    in
    omega arith

-- and if zeros lie after the entry it is the entry's own
pub entry_top : (s : List ℕ) (at n k top : ℕ) → n ≤ 255 → k ≡ greatest (take (at + 256 - (at + 1 + n)) (drop (at + 1 + n) s)) → k ≡ 0
    → top ≡ greatest (take (max n 32) (drop (at + 1) s)) → greatest (take (at + 1 + n - (at + 1)) (drop (at + 1) s)) ≡ top
entry_top s at n k top small g z e =
    let x : List ℕ = drop (at + 1) s in
    let d : ℕ = max n 32 - n in
    let size : at + 1 + n - (at + 1) ≡ n = omega arith in
    let both : max n 32 ≡ n + d = omega arith in
    let parts : greatest (take (max n 32) x) ≡ max (greatest (take n x)) (greatest (take d (drop n x))) =
    ap (λ (i : ℕ). greatest (take i x)) both ∙ ap greatest (take-add n d x) ∙ greatest_append (take n x) (take d (drop n x))
    in
    let after : greatest (take (255 - n) (drop n x)) ≡ 0 =
    ap (λ (l : List ℕ). greatest (take (255 - n) l)) (drop-drop n (at + 1) s)
    ∙ (let room : 255 - n ≡ at + 256 - (at + 1 + n) = omega arith in ap (λ (i : ℕ). greatest (take i (drop (at + 1 + n) s))) room)
    ∙ sym g ∙ z
    in
    let none = greatest_first (drop n x) d (255 - n) (omega arith) in
    ap (λ (i : ℕ). greatest (take i x)) size ∙ (omega arith)

-- of a short one 32 bytes are passed, of any other its own
pub top_short : (s : List ℕ) (start n top : ℕ) → n < 32 → top ≡ greatest (take (start + 32 - start) (drop start s)) → top ≡ greatest (take (max n 32) (drop start s))
top_short s start n top h e = let k : start + 32 - start ≡ max n 32 = omega arith in e ∙ ap (λ (i : ℕ). greatest (take i (drop start s))) k

pub top_long : (s : List ℕ) (start n top : ℕ) → 32 ≤ n → top ≡ greatest (take (start + n - start) (drop start s)) → top ≡ greatest (take (max n 32) (drop start s))
top_long s start n top h e = let k : start + n - start ≡ max n 32 = omega arith in e ∙ ap (λ (i : ℕ). greatest (take i (drop start s))) k

-- a slot by its parts
module _ (s : List ℕ) (at n k : ℕ) (e : n ≡ get_or s at 0) (small : n ≤ 255) (g : k ≡ greatest (take (at + 256 - (at + 1 + n)) (drop (at + 1 + n) s))) where
  clear : greatest (unused (take 256 (drop at s))) ≡ k
  clear = sym (g ∙ ap greatest (unused_part s at n e small))

  pub slot_stray : (k ≡ 0 → ⊥) → false ≡ good_slot (take 256 (drop at s))
  unfolding good_slot
  slot_stray z = sym (ap (λ (t : Bool). cond (usable (entry (take 256 (drop at s)))) t false) (ap (λ (j : ℕ). eqb j 0) clear ∙ ne_eqb k 0 z) ∙ neither (usable (entry (take 256 (drop at s)))))

  pub slot_clear : (r : Bool) → k ≡ 0 → r ≡ usable (take (at + 1 + n - (at + 1)) (drop (at + 1) s)) → r ≡ good_slot (take 256 (drop at s))
  unfolding good_slot
  slot_clear r z u =
      u ∙ ap usable (entry_part s at n e small)
      ∙ sym (ap (λ (t : Bool). cond (usable (entry (take 256 (drop at s)))) t false) (ap (λ (j : ℕ). eqb j 0) clear ∙ eq-eqb k 0 z) ∙ itself (usable (entry (take 256 (drop at s)))))

-- bytes that begin otherwise are others
heads_differ : (a b : List ℕ) → same_bytes (take 32 a) (take 32 b) ≡ false → same_bytes (take 256 a) (take 256 b) ≡ false
heads_differ a b e = by (same_bytes (take 256 a) (take 256 b)) refl
  where
    by : (t : Bool) → same_bytes (take 256 a) (take 256 b) ≡ t → t ≡ false
    by false q = refl
    by true q =
        let heads : take 32 a ≡ take 32 b =
        sym (take-take 32 256 a (omega arith)) ∙ ap (take 32) (same_is (take 256 a) (take 256 b) q) ∙ take-take 32 256 b (omega arith)
        in
        sym (is_same (take 32 a) (take 32 b) heads) ∙ e

-- the oldest entry has none before it, and no slot is empty
pub none_before : (k : ℕ) (s : List ℕ) (before at : ℕ) → k ≡ 0 → at < length s → false ≡ same_bytes (slot_before k (drop before s)) (take 256 (drop at s))
unfolding slot_before same_bytes
none_before k s before at e h =
    sym (ap (λ (l : List ℕ). same_bytes l (take 256 (drop at s))) (then_is _ _ _ (eq-eqb k 0 e)) ∙ rw (drop_step s at 0 h))

one_before : (k : ℕ) (s : List ℕ) → (k ≡ 0 → ⊥) → slot_before k s ≡ take 256 s
unfolding slot_before
one_before k s n = else_is _ _ _ (ne_eqb k 0 n)

pub heads_tell : (k : ℕ) (s : List ℕ) (before at : ℕ) → (k ≡ 0 → ⊥)
    → same_bytes (take (before + 32 - before) (drop before s)) (take (at + 32 - at) (drop at s)) ≡ false
    → false ≡ same_bytes (slot_before k (drop before s)) (take 256 (drop at s))
heads_tell k s before at n e =
    let a : before + 32 - before ≡ 32 = omega arith in
    let b : at + 32 - at ≡ 32 = omega arith in
    sym (ap (λ (l : List ℕ). same_bytes l (take 256 (drop at s))) (one_before k (drop before s) n)
    ∙ heads_differ (drop before s) (drop at s) (rw (a, b) at e))

-- the slot before and the slot at a place, as two parts
pub two_slots : (k : ℕ) (s : List ℕ) (before at : ℕ) → (k ≡ 0 → ⊥)
    → same_bytes (take (before + 256 - before) (drop before s)) (take (at + 256 - at) (drop at s)) ≡ same_bytes (slot_before k (drop before s)) (take 256 (drop at s))
two_slots k s before at n =
    let a : before + 256 - before ≡ 256 = omega arith in
    let b : at + 256 - at ≡ 256 = omega arith in
    ap (λ (i : ℕ). same_bytes (take i (drop before s)) (take (at + 256 - at) (drop at s))) a
    ∙ ap (λ (i : ℕ). same_bytes (take 256 (drop before s)) (take i (drop at s))) b
    ∙ ap (λ (l : List ℕ). same_bytes l (take 256 (drop at s))) (sym (one_before k (drop before s) n))

-- the place after that of a slot is that of the slot after it
pub next_after : (f k at : ℕ) → at ≡ 256 * slot_after f k → next_place at ≡ 256 * slot_after f (k + 1)
unfolding next_place slot_after
next_after f k at e = by (ltb (at + 256) 25600) refl
  where
    by : (t : Bool) → ltb (at + 256) 25600 ≡ t → cond t (at + 256) 0 ≡ 256 * ((f + (k + 1)) % 100)
    by true q = let l = ltb-true (at + 256) 25600 q in omega arith
    by false q = let l = ltb-false (at + 256) 25600 q in omega arith

-- a turn of the pass, over slots in the order of the entries
module _ (b : List ℕ) where
  judged_turn : (k n : ℕ) → 0 < n
      → judged (slot_before k (drop (256 * (k - 1)) b)) n (drop (256 * k) b)
      ≡ cond (good_slot (take 256 (drop (256 * k) b)))
      (cond (same_bytes (slot_before k (drop (256 * (k - 1)) b)) (take 256 (drop (256 * k) b))) false
      (judged (slot_before (k + 1) (drop (256 * (k + 1 - 1)) b)) (n - 1) (drop (256 * (k + 1)) b)))
      false
  unfolding judged
  judged_turn k zero h = absurd (omega arith)
  judged_turn k (suc n) h =
      let less : suc n - 1 ≡ n = omega arith in
      let on : 256 * (k + 1) ≡ 256 * k + 256 = omega arith in
      let here : 256 * (k + 1 - 1) ≡ 256 * k = omega arith in
      let prev : slot_before (k + 1) (drop (256 * (k + 1 - 1)) b) ≡ take 256 (drop (256 * k) b) =
      one_before (k + 1) (drop (256 * (k + 1 - 1)) b) (λ z. omega arith) ∙ ap (λ (i : ℕ). take 256 (drop i b)) here
      in
      let rest : drop (256 * (k + 1)) b ≡ drop 256 (drop (256 * k) b) = ap (λ (i : ℕ). drop i b) on ∙ sym (drop-drop 256 (256 * k) b) in
      ap (λ (j : Bool). cond (good_slot (take 256 (drop (256 * k) b))) (cond (same_bytes (slot_before k (drop (256 * (k - 1)) b)) (take 256 (drop (256 * k) b))) false j) false)
      (sym (ap (λ (l : List ℕ). judged l (suc n - 1) (drop (256 * (k + 1)) b)) prev
      ∙ ap (λ (m : ℕ). judged (take 256 (drop (256 * k) b)) m (drop (256 * (k + 1)) b)) less
      ∙ ap (judged (take 256 (drop (256 * k) b)) n) rest))

-- how far the pass has come, from slot f on and round the end: what is still to judge, from entry k on, is what there was to judge; and what is still to add up
pub Judges : ℕ → List ℕ → ℕ → ℕ → Type 0
Judges f s count k =
    judged (slot_before k (drop (256 * (k - 1)) (turned f s))) (count - k) (drop (256 * k) (turned f s)) ≡ judged [] count (turned f s)

pub Tallies : ℕ → List ℕ → ℕ → ℕ → ℕ → Type 0
Tallies f s count k sum = sum + total (entries_of (count - k) (drop (256 * k) (turned f s))) ≡ total (entries_of count (turned f s))

pub judges_begin : (f : ℕ) (s : List ℕ) (count : ℕ) → Judges f s count 0
unfolding Judges slot_before
judges_begin f s count = let e : count - 0 ≡ count = omega arith in ap (λ (n : ℕ). judged [] n (turned f s)) e

pub tallies_begin : (f : ℕ) (s : List ℕ) (count : ℕ) → Tallies f s count 0 0
unfolding Tallies
tallies_begin f s count = let e : count - 0 ≡ count = omega arith in let t = ap (λ (n : ℕ). total (entries_of n (turned f s))) e in omega arith

-- all entries added up
pub tallies_end : (f : ℕ) (s : List ℕ) (count k sum : ℕ) → count ≤ k → Tallies f s count k sum → sum ≡ total (entries_of count (turned f s))
unfolding Tallies total entries_of
tallies_end f s count k sum h t =
    let none : count - k ≡ 0 = omega arith in
    let e = ap (λ (n : ℕ). total (entries_of n (drop (256 * k) (turned f s)))) none in
    omega arith

-- a turn, where the slots lie
module _ (f : ℕ) (s : List ℕ) (low : f < 100) (size : length s ≡ 25600) where
  b : List ℕ
  b = turned f s

  module _ (count k at before : ℕ) (few : count ≤ 100) (some : k < count) (p : at ≡ 256 * slot_after f k) (q : before ≡ 256 * slot_after f (k - 1)) where
    here : take 256 (drop (256 * k) b) ≡ take 256 (drop at s)
    unfolding b slot_at
    here = slot_turned f k s low (omega arith) size ∙ ap (λ (i : ℕ). take 256 (drop i s)) (sym p)

    there : slot_before k (drop (256 * (k - 1)) b) ≡ slot_before k (drop before s)
    unfolding b slot_before slot_at
    there = ap (cond (eqb k 0) []) (slot_turned f (k - 1) s low (omega arith) size ∙ ap (λ (i : ℕ). take 256 (drop i s)) (sym q))

    turn : Judges f s count k
        → cond (good_slot (take 256 (drop at s)))
        (cond (same_bytes (slot_before k (drop before s)) (take 256 (drop at s))) false (judged (slot_before (k + 1) (drop (256 * (k + 1 - 1)) b)) (count - (k + 1)) (drop (256 * (k + 1)) b)))
        false
        ≡ judged [] count b
    unfolding Judges b
    turn j =
        let less : count - (k + 1) ≡ count - k - 1 = omega arith in
        let rest : ℕ → Bool = λ n. judged (slot_before (k + 1) (drop (256 * (k + 1 - 1)) b)) n (drop (256 * (k + 1)) b) in
        sym (ap (λ (x : List ℕ). cond (good_slot x) (cond (same_bytes (slot_before k (drop (256 * (k - 1)) b)) x) false (rest (count - (k + 1)))) false) here
        ∙ ap (λ (x : List ℕ). cond (good_slot (take 256 (drop at s))) (cond (same_bytes x (take 256 (drop at s))) false (rest (count - (k + 1)))) false) there)
        ∙ ap (λ (n : ℕ). cond (good_slot (take 256 (drop (256 * k) b))) (cond (same_bytes (slot_before k (drop (256 * (k - 1)) b)) (take 256 (drop (256 * k) b))) false (rest n)) false) less
        ∙ sym (judged_turn b k (count - k) (omega arith))
        ∙ j

    pub judges_bad : Judges f s count k → good_slot (take 256 (drop at s)) ≡ false → judged [] count (turned f s) ≡ false
    unfolding b
    judges_bad j e = sym (turn j) ∙ else_is _ _ _ e

    pub judges_repeated : Judges f s count k → good_slot (take 256 (drop at s)) ≡ true → same_bytes (slot_before k (drop before s)) (take 256 (drop at s)) ≡ true
        → judged [] count (turned f s) ≡ false
    unfolding b
    judges_repeated j e r = sym (turn j) ∙ then_is _ _ _ e ∙ then_is _ _ _ r

    pub judges_on : Judges f s count k → good_slot (take 256 (drop at s)) ≡ true → same_bytes (slot_before k (drop before s)) (take 256 (drop at s)) ≡ false
        → Judges f s count (k + 1)
    unfolding Judges b
    judges_on j e r = sym (then_is _ _ _ e ∙ else_is _ _ _ r) ∙ turn j

    -- what the slot adds to the total
    pub tallies_on : (byte sum : ℕ) → byte ≡ get_or s at 0 → byte ≤ 255 → Tallies f s count k sum → Tallies f s count (k + 1) (sum + byte)
    unfolding Tallies b
    tallies_on byte sum e small t =
        let whole = length_turned f s in
        let left = length-drop (256 * k) (turned f s) in
        let head : byte ≡ get_or (take 256 (drop (256 * k) (turned f s))) 0 0 = e ∙ sym (head_at s at) ∙ ap (λ (l : List ℕ). get_or l 0 0) (sym here) in
        let less : count - (k + 1) ≡ count - k - 1 = omega arith in
        let on : 256 * (k + 1) ≡ 256 * k + 256 = omega arith in
        let rest : total (entries_of (count - k - 1) (drop 256 (drop (256 * k) (turned f s)))) ≡ total (entries_of (count - (k + 1)) (drop (256 * (k + 1)) (turned f s))) =
        ap (λ (n : ℕ). total (entries_of n (drop 256 (drop (256 * k) (turned f s))))) (sym less)
        ∙ ap (λ (l : List ℕ). total (entries_of (count - (k + 1)) l)) (drop-drop 256 (256 * k) (turned f s) ∙ ap (λ (i : ℕ). drop i (turned f s)) (sym on))
        in
        let more = total_turn (drop (256 * k) (turned f s)) (count - k) byte (omega arith) (omega arith) head small in
        omega arith

  -- after the last entry
  pub judges_end : (count k : ℕ) → count ≤ k → k ≤ count → Judges f s count k → eqb (greatest (drop (256 * count) (turned f s))) 0 ≡ judged [] count (turned f s)
  unfolding b Judges judged
  judges_end count k h l j =
      let none : count - k ≡ 0 = omega arith in
      let same : k ≡ count = omega arith in
      ap (λ (i : ℕ). eqb (greatest (drop (256 * i) (turned f s))) 0) (sym same)
      ∙ sym (ap (λ (i : ℕ). judged (slot_before k (drop (256 * (k - 1)) (turned f s))) i (drop (256 * k) (turned f s))) none)
      ∙ j

  -- what lies there: up to the end and from slot 0 on up to the oldest entry
  module _ (count g : ℕ) (h : f + count < 100) (e : g ≡ greatest (take (length s - 256 * (f + count)) (drop (256 * (f + count)) s))) where
    both : greatest (drop (256 * count) (turned f s)) ≡ max g (greatest (take (256 * f) s))
    unfolding turned
    both =
        let d = length-drop (256 * f) s in
        let place : 256 * f + 256 * count ≡ 256 * (f + count) = omega arith in
        ap greatest (drop-append-le (256 * count) (drop (256 * f) s) (take (256 * f) s) (omega arith))
        ∙ greatest_append (drop (256 * count) (drop (256 * f) s)) (take (256 * f) s)
        ∙ ap (λ (l : List ℕ). max (greatest l) (greatest (take (256 * f) s))) (drop-drop (256 * count) (256 * f) s ∙ ap (λ (i : ℕ). drop i s) place)
        ∙ ap (λ (n : ℕ). max n (greatest (take (256 * f) s))) (ap greatest (sym (rest_lent s (256 * (f + count)))) ∙ sym e)

    pub rest_used : (g ≡ 0 → ⊥) → false ≡ eqb (greatest (drop (256 * count) (turned f s))) 0
    rest_used n = sym (ne_eqb (greatest (drop (256 * count) (turned f s))) 0 (λ z. let m = both in n (omega arith)))

    pub rest_before : (k : ℕ) → g ≡ 0 → k ≡ greatest (take (256 * f) s) → eqb k 0 ≡ eqb (greatest (drop (256 * count) (turned f s))) 0
    rest_before k z q =
        let m = both in
        let same : k ≡ greatest (drop (256 * count) (turned f s)) = omega arith in
        ap (λ (n : ℕ). eqb n 0) same

  -- or only from the newest to the oldest, round the end
  pub rest_between : (count g : ℕ) → 100 ≤ f + count → count ≤ 100 → g ≡ greatest (take (256 * f - 256 * (f + count - 100)) (drop (256 * (f + count - 100)) s))
      → eqb g 0 ≡ eqb (greatest (drop (256 * count) (turned f s))) 0
  unfolding turned
  rest_between count g h few e =
      let d = length-drop (256 * f) s in
      let i : ℕ = 256 * (f + count - 100) in
      let place : 256 * count ≡ length (drop (256 * f) s) + i = omega arith in
      ap (λ (n : ℕ). eqb n 0)
      (e ∙ sym (ap greatest
      (ap (λ (j : ℕ). drop j (drop (256 * f) s ++ take (256 * f) s)) place
      ∙ drop-append-add (drop (256 * f) s) (take (256 * f) s) i
      ∙ drop_take i (256 * f) s)))
