-- Laws of slots that are turned: round the end no slot is cut, so that a slot is read and written where it lies, and turning further brings all back.
use Prim.Native.Nat.{ℕ, zero, suc, ◌+◌, ◌-◌, ◌*◌, ◌%◌, ◌<◌, ◌≤◌}
use mathlib.Core.Path.{◌≡◌, refl, sym, ap, ◌∙◌}
use mathlib.Core.Bool.{Bool, true, false}
use mathlib.Core.List.{List, [], ◌∷◌, ◌++◌, append_assoc, append-nil}
use native.Mathlib.Omega.{arith}
use lib.Dec.{ltb}
use lib.ListN.{length, take, drop, get_or, length-append, length-drop, take-append-drop}
use lib.Seq.{take_at, drop_at, take-append-le, drop-append-le, drop-append-add, drop-drop, length-take-le}
use borrow.Author.Tests.{ltb-true, ltb-false}
use Rattle.buffer.proofs.Lending.{length_over_at, over_at_first, over_at_second}
use Rattle.buffer.specs.Write.{over_at}
use Rattle.history.specs.Slots.{slot_after, turned, slot_at, entry, entries_from}
use Rattle.history.specs.Inner.{entries_of}

-- turning keeps the length
pub length_turned : (n : ℕ) (s : List ℕ) → length (turned n s) ≡ length s
unfolding turned
length_turned n s =
    length-append (drop (256 * n) s) (take (256 * n) s)
    ∙ (let a = length-append (take (256 * n) s) (drop (256 * n) s) in let b = ap length (take-append-drop (256 * n) s) in omega arith)

unturned : (n : ℕ) (s : List ℕ) → turned n s ≡ drop (256 * n) s ++ take (256 * n) s
unfolding turned
unturned n s = refl

-- two parts change places
pub turned_parts : (n : ℕ) (a b : List ℕ) → length a ≡ 256 * n → turned n (a ++ b) ≡ b ++ a
unfolding turned
turned_parts n a b e =
    ap (λ (l : List ℕ). l ++ take (256 * n) (a ++ b)) (drop_at a b (256 * n) e) ∙ ap (λ (l : List ℕ). b ++ l) (take_at a b (256 * n) e)

-- turned by n, and by as many more as there are
pub turned_back : (n : ℕ) (s : List ℕ) → n ≤ 100 → length s ≡ 25600 → turned (100 - n) (turned n s) ≡ s
turned_back n s h l =
    ap (turned (100 - n)) (unturned n s)
    ∙ turned_parts (100 - n) (drop (256 * n) s) (take (256 * n) s) (let d = length-drop (256 * n) s in omega arith)
    ∙ take-append-drop (256 * n) s

pub turned_on : (n : ℕ) (s : List ℕ) → n ≤ 100 → length s ≡ 25600 → turned n (turned (100 - n) s) ≡ s
turned_on n s h l =
    let e : 100 - (100 - n) ≡ n = omega arith in
    ap (λ (k : ℕ). turned k (turned (100 - n) s)) (sym e) ∙ turned_back (100 - n) s (omega arith) l

-- where the slot lies that is k after the first: before the end of the buffer, or round it
pub after_before : (f k : ℕ) → f + k < 100 → slot_after f k ≡ f + k
unfolding slot_after
after_before f k h = omega arith

pub after_round : (f k : ℕ) → 100 ≤ f + k → f + k < 200 → slot_after f k ≡ f + k - 100
unfolding slot_after
after_round f k h l = omega arith

pub after_below : (f k : ℕ) → slot_after f k < 100
unfolding slot_after
after_below f k = omega arith

-- two ways, by where that slot lies
data Lies (f k : ℕ) : Type 0 where
  straight : f + k < 100 → Lies f k
  around : 100 ≤ f + k → Lies f k

lies : (f k : ℕ) → Lies f k
lies f k = by (ltb (f + k) 100) refl
  where
    by : (t : Bool) → ltb (f + k) 100 ≡ t → Lies f k
    by true e = straight (ltb-true (f + k) 100 e)
    by false e = around (ltb-false (f + k) 100 e)

module _ (f k : ℕ) (s : List ℕ) (low : f < 100) (few : k < 100) (size : length s ≡ 25600) where
  -- before the first slot, and from it on
  front : List ℕ
  front = take (256 * f) s

  back : List ℕ
  back = drop (256 * f) s

  length_front : length front ≡ 256 * f
  unfolding front
  length_front = length-take-le (256 * f) s (omega arith)

  length_back : length back ≡ 25600 - 256 * f
  unfolding back
  length_back = let d = length-drop (256 * f) s in omega arith

  whole : front ++ back ≡ s
  unfolding front back
  whole = take-append-drop (256 * f) s

  turned_is : turned f s ≡ back ++ front
  unfolding front back
  turned_is = unturned f s

  further : (n : ℕ) → drop n back ≡ drop (256 * f + n) s
  unfolding back
  further n = drop-drop n (256 * f) s

  -- slot k from the first on is the slot that lies k after it
  pub slot_turned : take 256 (drop (256 * k) (turned f s)) ≡ slot_at (slot_after f k) s
  unfolding slot_at
  slot_turned = by (lies f k)
    where
      by : Lies f k → take 256 (drop (256 * k) (turned f s)) ≡ take 256 (drop (256 * slot_after f k) s)
      by (straight h) =
          let n = length_back in
          let d = length-drop (256 * k) back in
          let place : 256 * f + 256 * k ≡ 256 * slot_after f k = let a = after_before f k h in omega arith in
          ap (λ (l : List ℕ). take 256 (drop (256 * k) l)) turned_is
          ∙ ap (take 256) (drop-append-le (256 * k) back front (omega arith))
          ∙ take-append-le 256 (drop (256 * k) back) front (omega arith)
          ∙ ap (take 256) (further (256 * k) ∙ ap (λ (i : ℕ). drop i s) place)
      by (around h) =
          let n = length_back in
          let m = length_front in
          let i : ℕ = 256 * (f + k - 100) in
          let place : 256 * k ≡ length back + i = omega arith in
          let d = length-drop i front in
          ap (λ (l : List ℕ). take 256 (drop (256 * k) l)) turned_is
          ∙ ap (λ (j : ℕ). take 256 (drop j (back ++ front))) place
          ∙ ap (take 256) (drop-append-add back front i)
          ∙ sym (take-append-le 256 (drop i front) back (omega arith))
          ∙ ap (take 256) (sym (drop-append-le i front back (omega arith)))
          ∙ ap (λ (l : List ℕ). take 256 (drop i l)) whole
          ∙ ap (λ (j : ℕ). take 256 (drop (256 * j) s)) (sym (after_round f k h (omega arith)))

  -- and is written where that lies
  module _ (x : List ℕ) (slot : length x ≡ 256) where
    pub write_turned : turned f (over_at x s (256 * slot_after f k)) ≡ over_at x (turned f s) (256 * k)
    write_turned = by (lies f k)
      where
        by : Lies f k → turned f (over_at x s (256 * slot_after f k)) ≡ over_at x (turned f s) (256 * k)
        by (straight h) =
            let n = length_back in
            let m = length_front in
            let place : 256 * slot_after f k ≡ length front + 256 * k = let a = after_before f k h in omega arith in
            ap (λ (l : List ℕ). turned f (over_at x l (256 * slot_after f k))) (sym whole)
            ∙ ap (λ (i : ℕ). turned f (over_at x (front ++ back) i)) place
            ∙ ap (turned f) (over_at_second x front back (256 * k))
            ∙ turned_parts f front (over_at x back (256 * k)) m
            ∙ sym (over_at_first x back front (256 * k) (omega arith))
            ∙ ap (λ (l : List ℕ). over_at x l (256 * k)) (sym turned_is)
        by (around h) =
            let n = length_back in
            let m = length_front in
            let i : ℕ = 256 * (f + k - 100) in
            let place : 256 * k ≡ length back + i = omega arith in
            let same : length (over_at x front i) ≡ length front = length_over_at x front i (omega arith) in
            ap (λ (l : List ℕ). turned f (over_at x l (256 * slot_after f k))) (sym whole)
            ∙ ap (λ (j : ℕ). turned f (over_at x (front ++ back) (256 * j))) (after_round f k h (omega arith))
            ∙ ap (turned f) (over_at_first x front back i (omega arith))
            ∙ turned_parts f (over_at x front i) back (same ∙ m)
            ∙ sym (over_at_second x back front i)
            ∙ ap (λ (j : ℕ). over_at x (back ++ front) j) (sym place)
            ∙ ap (λ (l : List ℕ). over_at x l (256 * k)) (sym turned_is)

-- what lies in front goes to the back: the same slots, turned by one more
pub turned_next : (f : ℕ) (x l : List ℕ) → f < 100 → length x ≡ 256 → length l ≡ 25344 → turned (100 - f) (x ++ l) ≡ turned (100 - slot_after f 1) (l ++ x)
turned_next f x l low n m = by (lies f 1)
  where
    by : Lies f 1 → turned (100 - f) (x ++ l) ≡ turned (100 - slot_after f 1) (l ++ x)
    by (straight h) =
        let i : ℕ = 256 * (99 - f) in
        let a : List ℕ = take i l in
        let b : List ℕ = drop i l in
        let size : length a ≡ i = length-take-le i l (omega arith) in
        let both : length (x ++ a) ≡ 256 * (100 - f) = let s = length-append x a in omega arith in
        let less : 99 - f ≡ 100 - slot_after f 1 = let e = after_before f 1 h in omega arith in
        ap (λ (t : List ℕ). turned (100 - f) (x ++ t)) (sym (take-append-drop i l))
        ∙ ap (turned (100 - f)) (sym (append_assoc x a b))
        ∙ turned_parts (100 - f) (x ++ a) b both
        ∙ sym (append_assoc b x a)
        ∙ sym (turned_parts (99 - f) a (b ++ x) size)
        ∙ ap (turned (99 - f)) (sym (append_assoc a b x))
        ∙ ap (λ (t : List ℕ). turned (99 - f) (t ++ x)) (take-append-drop i l)
        ∙ ap (λ (k : ℕ). turned k (l ++ x)) less
    by (around h) =
        let last : 100 - f ≡ 1 = omega arith in
        let all : 100 ≡ 100 - slot_after f 1 = let e = after_round f 1 h (omega arith) in omega arith in
        let both : length (l ++ x) ≡ 256 * 100 = let s = length-append l x in omega arith in
        ap (λ (k : ℕ). turned k (x ++ l)) last
        ∙ turned_parts 1 x l n
        ∙ sym (turned_parts 100 (l ++ x) [] both)
        ∙ ap (turned 100) (append-nil (l ++ x))
        ∙ ap (λ (k : ℕ). turned k (l ++ x)) all

-- entries by their numbers
pub length_entries : (f n : ℕ) (s : List ℕ) → length (entries_from f n s) ≡ n
unfolding entries_from
length_entries f zero s = refl
length_entries f (suc n) s = ap suc (length_entries (f + 1) n s)

pub entry_from : (f n k : ℕ) (s : List ℕ) → k < n → get_or (entries_from f n s) k [] ≡ entry (slot_at (slot_after f k) s)
unfolding entries_from slot_after
entry_from f zero k s h = absurd (omega arith)
entry_from f (suc n) zero s h = let e : f % 100 ≡ (f + 0) % 100 = omega arith in ap (λ (i : ℕ). entry (slot_at i s)) e
entry_from f (suc n) (suc k) s h =
    let e : (f + 1 + k) % 100 ≡ (f + suc k) % 100 = omega arith in
    entry_from (f + 1) n k s (omega arith) ∙ ap (λ (i : ℕ). entry (slot_at i s)) e

pub entry_past : (f n k : ℕ) (s : List ℕ) → n ≤ k → get_or (entries_from f n s) k [] ≡ []
unfolding entries_from
entry_past f zero k s h = refl
entry_past f (suc n) zero s h = absurd (omega arith)
entry_past f (suc n) (suc k) s h = entry_past (f + 1) n k s (omega arith)

-- the entries from a slot on are those of the slots turned to begin with it
pub entries_turned : (f n : ℕ) (s : List ℕ) → f < 100 → n ≤ 100 → length s ≡ 25600 → entries_from f n s ≡ entries_of n (turned f s)
unfolding entries_from entries_of slot_after
entries_turned f n s low few size = let e : f ≡ f + 0 = omega arith in ap (λ (i : ℕ). entries_from i n s) e ∙ rest n 0 (omega arith)
  where
    rest : (n k : ℕ) → k + n ≤ 100 → entries_from (f + k) n s ≡ entries_of n (drop (256 * k) (turned f s))
    rest zero k h = refl
    rest (suc n) k h =
        let on : f + k + 1 ≡ f + (k + 1) = omega arith in
        let place : 256 * (k + 1) ≡ 256 * k + 256 = omega arith in
        ap (λ (t : List ℕ). entry t ∷ entries_from (f + k + 1) n s) (sym (slot_turned f k s low (omega arith) size))
        ∙ ap (λ (es : List (List ℕ)). entry (take 256 (drop (256 * k) (turned f s))) ∷ es)
        (ap (λ (i : ℕ). entries_from i n s) on
        ∙ rest n (k + 1) (omega arith)
        ∙ ap (λ (i : ℕ). entries_of n (drop i (turned f s))) place
        ∙ ap (entries_of n) (sym (drop-drop 256 (256 * k) (turned f s))))
