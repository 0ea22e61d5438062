-- Laws of the layout: entries and the slots that hold them are each other's inverse.
use Prim.Native.Nat.{ℕ, zero, suc, ◌+◌, ◌-◌, ◌*◌, ◌%◌, ◌<◌, ◌≤◌}
use mathlib.Core.Path.{◌≡◌, refl, sym, ap, ◌∙◌}
use mathlib.Core.List.{List, [], ◌∷◌, ◌++◌, append_assoc, append-nil}
use native.Mathlib.Omega.{arith}
use lib.ListN.{length, take, drop, get_or, replicate, length-append, length-drop, length-replicate, replicate-append-replicate}
use lib.Seq.{take_at, drop_at, drop-drop, take-append_seam, length-take-le, get_or-take, get_or-drop}
use borrow.Rule.Slice.PartMut.{put_mid}
use Rattle.buffer.proofs.Lists.{drop_end}
use Rattle.buffer.proofs.Zeros.{length_zeros, drop_zeros}
use Rattle.buffer.proofs.Lending.{length_over_at, over_at_front, over_at_nothing, over_at_both}
use Rattle.buffer.proofs.Writing.{pushed_both}
use Rattle.buffer.specs.Write.{over, over_at, Pushed}
use Rattle.buffer.specs.Lend.{zeros}
use Rattle.history.specs.Entries.{most_entries}
use Rattle.history.specs.Slots.{slot_size, slot_count, slots_size, slot_after, slot, run, in_order, turned, layout, slot_at, entry, entries_from}
use Rattle.history.specs.Inner.{entries_of}
use Rattle.history.proofs.Turned.{length_turned, turned_parts, turned_back, turned_on, turned_next, slot_turned, write_turned, after_below, entries_turned}

-- there is a slot for each entry that a history may have, and the buffer is these
pub slots_count : slot_count ≡ most_entries
unfolding most_entries
slots_count = refl

pub slots_size_lem : slots_size ≡ slot_count * slot_size
slots_size_lem = refl

-- a slot has 256 bytes, if its text has at most 255
pub length_slot : (e : List ℕ) → length e ≤ 255 → length (slot e) ≡ 256
unfolding slot
length_slot e h = let l = length-append e (zeros (255 - length e)) in let z = length_zeros (255 - length e) in omega arith

slot_least : (e : List ℕ) → 256 ≤ length (slot e)
unfolding slot
slot_least e = let l = length-append e (zeros (255 - length e)) in let z = length_zeros (255 - length e) in omega arith

slot_short : (e : List ℕ) → length (slot e) ≤ 256 → length e ≤ 255
unfolding slot
slot_short e h = let l = length-append e (zeros (255 - length e)) in let z = length_zeros (255 - length e) in omega arith

-- entries whose texts have at most 255 bytes
pub data Short : List (List ℕ) → Type 0 where
  none : Short []
  more : {e : List ℕ} {es : List (List ℕ)} → length e ≤ 255 → Short es → Short (e ∷ es)

-- entries one after the other, the first of them, and those from a number on
pub short_append : (es fs : List (List ℕ)) → Short es → Short fs → Short (es ++ fs)
short_append [] fs none k = k
short_append (e ∷ es) fs (more h hs) k = more h (short_append es fs hs k)

pub short_take : (n : ℕ) (es : List (List ℕ)) → Short es → Short (take n es)
short_take zero es h = none
short_take (suc n) [] none = none
short_take (suc n) (e ∷ es) (more h hs) = more h (short_take n es hs)

pub short_drop : (n : ℕ) (es : List (List ℕ)) → Short es → Short (drop n es)
short_drop zero es h = h
short_drop (suc n) [] none = none
short_drop (suc n) (e ∷ es) (more h hs) = short_drop n es hs

pub length_run : (es : List (List ℕ)) → Short es → length (run es) ≡ 256 * length es
unfolding run
length_run [] none = refl
length_run (e ∷ es) (more h hs) =
    let l = length-append (slot e) (run es) in
    let s = length_slot e h in
    let r = length_run es hs in
    omega arith

run_least : (es : List (List ℕ)) → 256 * length es ≤ length (run es)
unfolding run
run_least [] = omega arith
run_least (e ∷ es) =
    let l = length-append (slot e) (run es) in
    let s = slot_least e in
    let r = run_least es in
    omega arith

-- and no others fill just their slots
pub run_short : (es : List (List ℕ)) → length (run es) ≤ 256 * length es → Short es
unfolding run
run_short [] h = none
run_short (e ∷ es) h =
    let l = length-append (slot e) (run es) in
    let s = slot_least e in
    let r = run_least es in
    more (slot_short e (omega arith)) (run_short es (omega arith))

pub run_append : (es fs : List (List ℕ)) → run (es ++ fs) ≡ run es ++ run fs
unfolding run
run_append [] fs = refl
run_append (e ∷ es) fs = ap (λ (l : List ℕ). slot e ++ l) (run_append es fs) ∙ sym (append_assoc (slot e) (run es) (run fs))

run_one : (t : List ℕ) → run (t ∷ []) ≡ slot t
unfolding run
run_one t = append-nil (slot t)

-- the entry of a slot, and of many
pub entry_slot : (e rest : List ℕ) → entry (slot e ++ rest) ≡ e
unfolding entry slot
entry_slot e rest =
    ap (take (length e)) (append_assoc e (zeros (255 - length e)) rest) ∙ take-append_seam e (zeros (255 - length e) ++ rest)

pub entry_alone : (e : List ℕ) → entry (slot e) ≡ e
entry_alone e = ap entry (sym (append-nil (slot e))) ∙ entry_slot e []

entries_run : (es : List (List ℕ)) (rest : List ℕ) → Short es → entries_of (length es) (run es ++ rest) ≡ es
unfolding entries_of run
entries_run [] rest none = refl
entries_run (e ∷ es) rest (more h hs) =
    let split : (slot e ++ run es) ++ rest ≡ slot e ++ (run es ++ rest) = append_assoc (slot e) (run es) rest in
    ap (λ (l : List ℕ). entry (take 256 l) ∷ entries_of (length es) (drop 256 l)) split
    ∙ ap (λ (l : List ℕ). entry l ∷ entries_of (length es) (drop 256 (slot e ++ (run es ++ rest)))) (take_at (slot e) (run es ++ rest) 256 (length_slot e h))
    ∙ ap (λ (x : List ℕ). x ∷ entries_of (length es) (drop 256 (slot e ++ (run es ++ rest)))) (entry_alone e)
    ∙ ap (λ (l : List ℕ). e ∷ entries_of (length es) l) (drop_at (slot e) (run es ++ rest) 256 (length_slot e h))
    ∙ ap (λ (l : List (List ℕ)). e ∷ l) (entries_run es rest hs)

-- slots in the order of the entries
entries_in_order : (es : List (List ℕ)) → Short es → entries_of (length es) (in_order es) ≡ es
unfolding in_order
entries_in_order es h = entries_run es (zeros (25600 - 256 * length es)) h

pub length_in_order : (es : List (List ℕ)) → Short es → length es ≤ 100 → length (in_order es) ≡ 25600
unfolding in_order
length_in_order es h k =
    let l = length-append (run es) (zeros (25600 - 256 * length es)) in
    let r = length_run es h in
    let z = length_zeros (25600 - 256 * length es) in
    omega arith

in_order_short : (es : List (List ℕ)) → length es ≤ 100 → length (in_order es) ≡ 25600 → Short es
unfolding in_order
in_order_short es k e =
    let l = length-append (run es) (zeros (25600 - 256 * length es)) in
    let z = length_zeros (25600 - 256 * length es) in
    run_short es (omega arith)

pub zeros_both : (a c : ℕ) → zeros a ++ zeros c ≡ zeros (a + c)
unfolding zeros
zeros_both a c = replicate-append-replicate {A = ℕ} a c 0

-- 100 entries leave no slot unused
in_order_full : (es : List (List ℕ)) → length es ≡ 100 → in_order es ≡ run es
unfolding in_order zeros
in_order_full es e = ap (λ (n : ℕ). run es ++ replicate (25600 - 256 * n) 0) e ∙ append-nil (run es)

-- what lies after the entries
pub in_order_rest : (es : List (List ℕ)) → Short es → drop (256 * length es) (in_order es) ≡ zeros (25600 - 256 * length es)
unfolding in_order
in_order_rest es h = drop_at (run es) (zeros (25600 - 256 * length es)) (256 * length es) (length_run es h)

-- one entry more, in the first unused slot
in_order_more : (es : List (List ℕ)) (t : List ℕ) → Short es → length es < 100 → length t ≤ 255
    → over_at (slot t) (in_order es) (256 * length es) ≡ in_order (es ++ (t ∷ []))
unfolding over_at over in_order
in_order_more es t h k l =
    let n : ℕ = 256 * length es in
    let room : ℕ = 25600 - n in
    let size : length (run es) ≡ n = length_run es h in
    let left : room - length (slot t) ≡ 25600 - 256 * length (es ++ (t ∷ [])) =
    let a = length_slot t l in let b = length-append es (t ∷ []) in omega arith
    in
    ap (λ (x : List ℕ). x ++ (slot t ++ drop (length (slot t)) (drop n (run es ++ zeros room)))) (take_at (run es) (zeros room) n size)
    ∙ ap (λ (x : List ℕ). run es ++ (slot t ++ drop (length (slot t)) x)) (drop_at (run es) (zeros room) n size)
    ∙ ap (λ (x : List ℕ). run es ++ (slot t ++ x)) (drop_zeros (length (slot t)) room ∙ ap zeros left)
    ∙ sym (append_assoc (run es) (slot t) (zeros (25600 - 256 * length (es ++ (t ∷ [])))))
    ∙ ap (λ (x : List ℕ). x ++ zeros (25600 - 256 * length (es ++ (t ∷ [])))) (sym (run_append es (t ∷ []) ∙ ap (λ (x : List ℕ). run es ++ x) (run_one t)))

-- each slot of them: that of an entry, and one without
pub in_order_slot : (es : List (List ℕ)) (k : ℕ) → Short es → k < length es → take 256 (drop (256 * k) (in_order es)) ≡ slot (get_or es k [])
unfolding in_order run
in_order_slot es k h b = by es k (zeros (25600 - 256 * length es)) h b
  where
    by : (es : List (List ℕ)) (k : ℕ) (rest : List ℕ) → Short es → k < length es → take 256 (drop (256 * k) (run es ++ rest)) ≡ slot (get_or es k [])
    by [] k rest h b = absurd (omega arith)
    by (e ∷ es) zero rest (more h hs) b = ap (take 256) (append_assoc (slot e) (run es) rest) ∙ take_at (slot e) (run es ++ rest) 256 (length_slot e h)
    by (e ∷ es) (suc k) rest (more h hs) b =
        let on : 256 * suc k ≡ 256 + 256 * k = omega arith in
        ap (λ (i : ℕ). take 256 (drop i ((slot e ++ run es) ++ rest))) on
        ∙ ap (take 256) (sym (drop-drop (256 * k) 256 ((slot e ++ run es) ++ rest)))
        ∙ ap (λ (s : List ℕ). take 256 (drop (256 * k) (drop 256 s))) (append_assoc (slot e) (run es) rest)
        ∙ ap (λ (s : List ℕ). take 256 (drop (256 * k) s)) (drop_at (slot e) (run es ++ rest) 256 (length_slot e h))
        ∙ by es k rest hs (omega arith)

pub in_order_unused : (es : List (List ℕ)) (k : ℕ) → Short es → length es ≤ k → k < 100 → take 256 (drop (256 * k) (in_order es)) ≡ zeros 256
in_order_unused es k h l b =
    let n : ℕ = 256 * length es in
    let on : 256 * k ≡ n + (256 * k - n) = omega arith in
    let left : 25600 - n - (256 * k - n) ≡ 256 + (25344 - 256 * k) = omega arith in
    ap (λ (i : ℕ). take 256 (drop i (in_order es))) on
    ∙ ap (take 256) (sym (drop-drop (256 * k - n) n (in_order es)) ∙ ap (drop (256 * k - n)) (in_order_rest es h) ∙ drop_zeros (256 * k - n) (25600 - n) ∙ ap zeros left)
    ∙ front 256 (25344 - 256 * k)
  where
    front : (a c : ℕ) → take a (zeros (a + c)) ≡ zeros a
    front a c = ap (take a) (sym (zeros_both a c)) ∙ take_at (zeros a) (zeros c) a (length_zeros a)

-- the buffer, the oldest entry in its first slot
pub length_layout : (f : ℕ) (es : List (List ℕ)) → Short es → length es ≤ 100 → length (layout f es) ≡ 25600
unfolding layout
length_layout f es h k = length_turned (100 - f) (in_order es) ∙ length_in_order es h k

pub layout_short : (f : ℕ) (es : List (List ℕ)) → length es ≤ 100 → length (layout f es) ≡ 25600 → Short es
unfolding layout
layout_short f es k e = in_order_short es k (sym (length_turned (100 - f) (in_order es)) ∙ e)

pub layout_turned : (f : ℕ) (es : List (List ℕ)) → f < 100 → Short es → length es ≤ 100 → turned f (layout f es) ≡ in_order es
unfolding layout
layout_turned f es l h k = turned_on f (in_order es) (omega arith) (length_in_order es h k)

-- entries and the slots that hold them are each other's inverse
pub entries_layout : (f : ℕ) (es : List (List ℕ)) → f < 100 → Short es → length es ≤ 100 → entries_from f (length es) (layout f es) ≡ es
entries_layout f es l h k =
    entries_turned f (length es) (layout f es) l k (length_layout f es h k)
    ∙ ap (entries_of (length es)) (layout_turned f es l h k)
    ∙ entries_in_order es h

-- a slot written where it lies is a slot written in the order of the entries
written : (f k : ℕ) (x : List ℕ) (es : List (List ℕ)) → f < 100 → k < 100 → length x ≡ 256 → Short es → length es ≤ 100
    → over_at x (layout f es) (256 * slot_after f k) ≡ turned (100 - f) (over_at x (in_order es) (256 * k))
written f k x es l b n h m =
    let size : length (layout f es) ≡ 25600 = length_layout f es h m in
    let place = after_below f k in
    let whole : length (over_at x (layout f es) (256 * slot_after f k)) ≡ 25600 =
    length_over_at x (layout f es) (256 * slot_after f k) (omega arith) ∙ size
    in
    sym (turned_back f (over_at x (layout f es) (256 * slot_after f k)) (omega arith) whole)
    ∙ ap (turned (100 - f)) (write_turned f k (layout f es) l b size x n ∙ ap (λ (s : List ℕ). over_at x s (256 * k)) (layout_turned f es l h m))

-- one entry more, in the slot after the newest
pub layout_more : (f : ℕ) (es : List (List ℕ)) (t : List ℕ) → f < 100 → Short es → length es < 100 → length t ≤ 255
    → over_at (slot t) (layout f es) (256 * slot_after f (length es)) ≡ layout f (es ++ (t ∷ []))
unfolding layout
layout_more f es t l h k n =
    written f (length es) (slot t) es l k (length_slot t n) h (omega arith) ∙ ap (turned (100 - f)) (in_order_more es t h k n)

-- one entry more where all slots are in use: in that of the oldest, and the next is the first
pub layout_full : (f : ℕ) (e : List ℕ) (es : List (List ℕ)) (t : List ℕ) → f < 100 → Short (e ∷ es) → length es ≡ 99 → length t ≤ 255
    → over_at (slot t) (layout f (e ∷ es)) (256 * slot_after f 100) ≡ layout (slot_after f 1) (es ++ (t ∷ []))
unfolding layout slot_after run over
layout_full f e es t l (more h hs) k n =
    let here : (f + 100) % 100 ≡ (f + 0) % 100 = omega arith in
    let size = length_slot t n in
    let rest : drop (length (slot t)) (slot e ++ run es) ≡ run es = drop_at (slot e) (run es) (length (slot t)) (length_slot e h ∙ sym size) in
    ap (λ (i : ℕ). over_at (slot t) (turned (100 - f) (in_order (e ∷ es))) (256 * i)) here
    ∙ written f 0 (slot t) (e ∷ es) l (omega arith) size (more h hs) (omega arith)
    ∙ ap (λ (s : List ℕ). turned (100 - f) (over_at (slot t) s 0)) (in_order_full (e ∷ es) (omega arith))
    ∙ ap (turned (100 - f)) (over_at_front (slot t) (slot e ++ run es) ∙ ap (λ (s : List ℕ). slot t ++ s) rest)
    ∙ turned_next f (slot t) (run es) l size (let r = length_run es hs in omega arith)
    ∙ ap (turned (100 - slot_after f 1))
    (ap (λ (s : List ℕ). run es ++ s) (sym (run_one t))
    ∙ sym (run_append es (t ∷ []))
    ∙ sym (in_order_full (es ++ (t ∷ [])) (let b = length-append es (t ∷ []) in omega arith)))

-- the length byte of the slot after the newest: 0 where it is unused, that of the oldest where all are in use
first_of : (f k : ℕ) (es : List (List ℕ)) → f < 100 → k < 100 → Short es → length es ≤ 100 → get_or (layout f es) (256 * slot_after f k) 0 ≡ get_or (in_order es) (256 * k) 0
unfolding slot_at
first_of f k es l b h m =
    let here : 256 * slot_after f k + 0 ≡ 256 * slot_after f k = omega arith in
    let there : 256 * k + 0 ≡ 256 * k = omega arith in
    let same = slot_turned f k (layout f es) l b (length_layout f es h m) in
    ap (λ (i : ℕ). get_or (layout f es) i 0) (sym here)
    ∙ sym (get_or-drop (256 * slot_after f k) (layout f es) 0 0)
    ∙ sym (get_or-take 256 (drop (256 * slot_after f k) (layout f es)) 0 0 (omega arith))
    ∙ ap (λ (s : List ℕ). get_or s 0 0) (sym same)
    ∙ get_or-take 256 (drop (256 * k) (turned f (layout f es))) 0 0 (omega arith)
    ∙ ap (λ (s : List ℕ). get_or (drop (256 * k) s) 0 0) (layout_turned f es l h m)
    ∙ get_or-drop (256 * k) (in_order es) 0 0
    ∙ ap (λ (i : ℕ). get_or (in_order es) i 0) there

pub unused_length : (f : ℕ) (es : List (List ℕ)) → f < 100 → Short es → length es < 100 → get_or (layout f es) (256 * slot_after f (length es)) 0 ≡ 0
unfolding zeros
unused_length f es l h k =
    let there : 256 * length es + 0 ≡ 256 * length es = omega arith in
    let some : 25600 - 256 * length es ≡ suc (25599 - 256 * length es) = omega arith in
    first_of f (length es) es l k h (omega arith)
    ∙ ap (λ (i : ℕ). get_or (in_order es) i 0) (sym there)
    ∙ sym (get_or-drop (256 * length es) (in_order es) 0 0)
    ∙ ap (λ (s : List ℕ). get_or s 0 0) (in_order_rest es h)
    ∙ ap (λ (n : ℕ). get_or (replicate n 0) 0 0) some

pub oldest_length : (f : ℕ) (es : List (List ℕ)) → f < 100 → Short es → length es ≡ 100 → get_or (layout f es) (256 * slot_after f 100) 0 ≡ length (get_or es 0 [])
unfolding slot_after in_order run slot
oldest_length f [] l h k = absurd (omega arith)
oldest_length f (e ∷ es) l h k =
    let here : (f + 100) % 100 ≡ (f + 0) % 100 = omega arith in
    ap (λ (i : ℕ). get_or (layout f (e ∷ es)) (256 * i) 0) here ∙ first_of f 0 (e ∷ es) l (omega arith) h (omega arith)

-- clearing in progress: nothing is cleared yet
pub none_cleared : (n : ℕ) (d : List ℕ) (at : ℕ) → n ≡ 0 → d ≡ over_at (zeros n) d at
unfolding zeros
none_cleared n d at e = sym (ap (λ (k : ℕ). over_at (replicate k 0) d at) e ∙ over_at_nothing d at)

-- a part that was filled with zeros
pub part_filled : (d part : List ℕ) (at n : ℕ) → at + n ≤ length d → part ≡ replicate (length (take n (drop at d))) 0 → put_mid at n d part ≡ over_at (zeros n) d at
unfolding over over_at zeros
part_filled d part at n h e =
    let size : length (take n (drop at d)) ≡ n = let k = length-drop at d in length-take-le n (drop at d) (omega arith) in
    let z : length (replicate {A = ℕ} n 0) ≡ n = length-replicate {A = ℕ} n 0 in
    ap (λ (l : List ℕ). take at d ++ (l ++ drop n (drop at d))) (e ∙ ap (λ (k : ℕ). replicate k 0) size)
    ∙ ap (λ (k : ℕ). take at d ++ (replicate n 0 ++ drop k (drop at d))) (sym z)

-- slots that are all zeros hold no entry
pub no_entries_lem : layout 0 [] ≡ zeros 25600
unfolding layout in_order run
no_entries_lem = let e = turned_parts 100 (zeros 25600) [] (length_zeros 25600) in ap (turned 100) (sym (append-nil (zeros 25600))) ∙ e

pub all_cleared : (slots : List ℕ) → length slots ≡ 25600 → over_at (zeros (25600 - 0)) slots 0 ≡ layout 0 []
unfolding over
all_cleared slots k =
    over_at_front (zeros 25600) slots
    ∙ ap (λ (x : List ℕ). zeros 25600 ++ x) (drop_end slots (length (zeros 25600)) (let z = length_zeros 25600 in omega arith))
    ∙ append-nil (zeros 25600)
    ∙ sym no_entries_lem

-- a slot written in three steps
pub slot_stored : (t d d₁ d₂ : List ℕ) (at a b : ℕ) → length t ≤ 255 → at + 256 ≤ length d → Pushed (length t ∷ []) d at a d₁ → Pushed t d₁ a b d₂
    → over_at (zeros (at + 256 - b)) d₂ b ≡ over_at (slot t) d at
unfolding slot
slot_stored t d d₁ d₂ at a b h k p q =
    let both = pushed_both (length t ∷ []) t d d₁ d₂ at a b (omega arith) p q in
    let place : b ≡ at + length ((length t ∷ []) ++ t) = both.place in
    let gap : at + 256 - b ≡ 255 - length t = omega arith in
    ap (λ (n : ℕ). over_at (zeros n) d₂ b) gap
    ∙ ap (λ (l : List ℕ). over_at (zeros (255 - length t)) l b) both.bytes
    ∙ ap (over_at (zeros (255 - length t)) (over_at ((length t ∷ []) ++ t) d at)) place
    ∙ over_at_both ((length t ∷ []) ++ t) (zeros (255 - length t)) d at (omega arith)
