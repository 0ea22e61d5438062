-- Laws of slots that close up: a slot copied over another, slots moved down in the order of the entries, zeros in those that are free then, and that this is the buffer without the entries
-- that were cut out.
use Prim.Native.Nat.{ℕ, ◌+◌, ◌-◌, ◌*◌, ◌<◌, ◌≤◌}
use mathlib.Core.Path.{◌≡◌, sym, ap, ◌∙◌}
use mathlib.Core.List.{List, ◌++◌, append_assoc}
use native.Mathlib.Omega.{arith}
use lib.ListN.{length, take, drop, length-append, length-drop, take-append-drop}
use lib.Seq.{take_at, drop_at, take-add, drop-drop, length-take-le}
use Rattle.std.specs.List.{copy_within}
use Rattle.buffer.proofs.Zeros.{length_zeros}
use Rattle.buffer.proofs.Lending.{over_at_nothing, over_at_both, over_at_past}
use Rattle.buffer.specs.Write.{over, over_at}
use Rattle.buffer.specs.Lend.{zeros}
use Rattle.history.specs.Slots.{slot_after, run, in_order, turned, layout, slot_at}
use Rattle.history.specs.Inner.{cut_out}
use Rattle.history.proofs.Turned.{turned_back, slot_turned, write_turned, after_below}
use Rattle.history.proofs.Layouts.{Short, short_take, short_drop, length_run, run_append, length_in_order, in_order_rest, layout_turned, zeros_both}
use Rattle.history.proofs.Forgotten.{length_cut}

-- a slot has 256 bytes
pub length_slot_at : (n : ℕ) (s : List ℕ) → n < 100 → length s ≡ 25600 → length (slot_at n s) ≡ 256
unfolding slot_at
length_slot_at n s h l = length-take-le 256 (drop (256 * n) s) (let d = length-drop (256 * n) s in omega arith)

-- copying in progress: nothing is copied yet
pub none_copied : (n : ℕ) (x d : List ℕ) (o : ℕ) → n ≡ 0 → d ≡ over_at (take n x) d o
none_copied n x d o e = sym (ap (λ (k : ℕ). over_at (take k x) d o) e ∙ over_at_nothing d o)

-- a slot copied to a place
pub slot_copied : (d : List ℕ) (a o : ℕ) → length d ≡ 25600 → a < 100 → copy_within d (256 * a) (256 * a + 256) o ≡ over_at (slot_at a d) d o
unfolding over over_at slot_at
slot_copied d a o size low =
    let from : ℕ = 256 * a in
    let n : from + 256 - from ≡ 256 = omega arith in
    let whole : length (take 256 (drop from d)) ≡ 256 = length_slot_at a d low size in
    append_assoc (take o d) (take (from + 256 - from) (drop from d)) (drop (o + (from + 256 - from)) d)
    ∙ ap (λ (k : ℕ). take o d ++ (take k (drop from d) ++ drop (o + k) d)) n
    ∙ ap (λ (l : List ℕ). take o d ++ (take 256 (drop from d) ++ l)) (sym (ap (λ (k : ℕ). drop k (drop o d)) whole ∙ drop-drop 256 o d))

-- slots in the order of the entries: those from one number on that have moved down to another, and zeros that were written
module _ (f : ℕ) (v : List ℕ) (low : f < 100) (size : length v ≡ 25600) where
  pub move_turn : (s left : List ℕ) (start end at to a b : ℕ) → length s ≡ 25600 → start ≤ end → end ≤ at → at < 100 → to + end ≡ at + start
      → turned f s ≡ over_at (take (256 * (at - end)) (drop (256 * end) v)) v (256 * start) → a ≡ slot_after f at → b ≡ slot_after f to → left ≡ over_at (slot_at a s) s (256 * b)
      → turned f left ≡ over_at (take (256 * (at + 1 - end)) (drop (256 * end) v)) v (256 * start)
  move_turn s left start end at to a b whole h k within same so from-slot to-slot written =
      let x : List ℕ = slot_at (slot_after f at) s in
      let tail : List ℕ = drop (256 * end) v in
      let done : List ℕ = take (256 * (at - end)) tail in
      let y : List ℕ = take 256 (drop (256 * at) v) in
      let n : length x ≡ 256 = length_slot_at (slot_after f at) s (after_below f at) whole in
      let t = length-drop (256 * end) v in
      let m : length done ≡ 256 * (at - end) = length-take-le (256 * (at - end)) tail (omega arith) in
      let is : x ≡ y =
      sym (slot_turned f at s low within whole)
      ∙ ap (λ (l : List ℕ). take 256 (drop (256 * at) l)) so
      ∙ ap (take 256) (over_at_past done v (256 * start) (256 * at) (omega arith) (omega arith))
      in
      let place : 256 * to ≡ 256 * start + length done = omega arith in
      let on : 256 * end + 256 * (at - end) ≡ 256 * at = omega arith in
      let more : 256 * (at - end) + 256 ≡ 256 * (at + 1 - end) = omega arith in
      let join : done ++ y ≡ take (256 * (at + 1 - end)) tail =
      ap (λ (l : List ℕ). done ++ take 256 l) (sym (drop-drop (256 * (at - end)) (256 * end) v ∙ ap (λ (i : ℕ). drop i v) on))
      ∙ sym (take-add (256 * (at - end)) 256 tail)
      ∙ ap (λ (i : ℕ). take i tail) more
      in
      ap (turned f) (written ∙ ap (λ (i : ℕ). over_at (slot_at i s) s (256 * b)) from-slot ∙ ap (λ (i : ℕ). over_at x s (256 * i)) to-slot)
      ∙ write_turned f to s low (omega arith) whole x n
      ∙ ap (λ (l : List ℕ). over_at x l (256 * to)) so
      ∙ ap (λ (l : List ℕ). over_at l (over_at done v (256 * start)) (256 * to)) is
      ∙ ap (over_at y (over_at done v (256 * start))) place
      ∙ over_at_both done y v (256 * start) (omega arith)
      ∙ ap (λ (l : List ℕ). over_at l v (256 * start)) join

  pub wipe_turn : (s left : List ℕ) (start i at next : ℕ) → length s ≡ 25600 → start ≤ i → i < 100 → at ≡ 256 * slot_after f i → next ≡ at + 256
      → turned f s ≡ over_at (zeros (256 * (i - start))) v (256 * start) → left ≡ over_at (zeros (next - at)) s at
      → turned f left ≡ over_at (zeros (256 * (i + 1 - start))) v (256 * start)
  wipe_turn s left start i at next whole h b here beyond so written =
      let done : ℕ = 256 * (i - start) in
      let z = length_zeros done in
      let all : next - at ≡ 256 = omega arith in
      let place : 256 * i ≡ 256 * start + length (zeros done) = omega arith in
      let more : done + 256 ≡ 256 * (i + 1 - start) = omega arith in
      ap (turned f) (written ∙ ap (λ (n : ℕ). over_at (zeros n) s at) all ∙ ap (over_at (zeros 256) s) here)
      ∙ write_turned f i s low b whole (zeros 256) (length_zeros 256)
      ∙ ap (λ (l : List ℕ). over_at (zeros 256) l (256 * i)) so
      ∙ ap (over_at (zeros 256) (over_at (zeros done) v (256 * start))) place
      ∙ over_at_both (zeros done) (zeros 256) v (256 * start) (omega arith)
      ∙ ap (λ (l : List ℕ). over_at l v (256 * start)) (zeros_both done 256 ∙ ap zeros more)

-- slots of entries, parted before one of them
module _ (es : List (List ℕ)) (short : Short es) (n : ℕ) (within : n ≤ length es) (rest : List ℕ) where
  parted : run es ++ rest ≡ run (take n es) ++ (run (drop n es) ++ rest)
  parted =
      ap (λ (l : List (List ℕ)). run l ++ rest) (sym (take-append-drop n es))
      ∙ ap (λ (l : List ℕ). l ++ rest) (run_append (take n es) (drop n es))
      ∙ append_assoc (run (take n es)) (run (drop n es)) rest

  front : length (run (take n es)) ≡ 256 * n
  front = length_run (take n es) (short_take n es short) ∙ ap (λ (k : ℕ). 256 * k) (length-take-le n es within)

  run_front : take (256 * n) (run es ++ rest) ≡ run (take n es)
  run_front = ap (take (256 * n)) parted ∙ take_at (run (take n es)) (run (drop n es) ++ rest) (256 * n) front

  run_rest : drop (256 * n) (run es ++ rest) ≡ run (drop n es) ++ rest
  run_rest = ap (drop (256 * n)) parted ∙ drop_at (run (take n es)) (run (drop n es) ++ rest) (256 * n) front

-- numbers of bytes
later_fit : (s e n a b : ℕ) → s ≤ e → e ≤ n → n ≤ 100 → a ≡ 256 * (n - e) → b ≡ 25600 → 256 * s + a ≤ b
later_fit s e n a b h k l p q = omega arith

free_bytes : (n g u c : ℕ) → g ≤ n → n ≤ 100 → u ≡ g → c ≡ n - g → 256 * u + (25600 - 256 * n) ≡ 25600 - 256 * c
free_bytes n g u c h k e l = omega arith

-- entries cut out: the later ones moved down, and zeros over the slots that are free then
order_cut : (es : List (List ℕ)) (start end left : ℕ) → Short es → length es ≤ 100 → start ≤ end → end ≤ length es → left ≡ length es - (end - start)
    → over_at (zeros (256 * (length es - left))) (over_at (take (256 * (length es - end)) (drop (256 * end) (in_order es))) (in_order es) (256 * start)) (256 * left)
    ≡ in_order (cut_out start end es)
unfolding in_order over over_at
order_cut es start end left short few h k l =
    let n : ℕ = length es in
    let unused : List ℕ = zeros (25600 - 256 * n) in
    let view : List ℕ = run es ++ unused in
    let size = length_in_order es short few in
    let later : List (List ℕ) = drop end es in
    let d = length-drop end es in
    let m : length (run later) ≡ 256 * (n - end) = length_run later (short_drop end es short) ∙ ap (λ (i : ℕ). 256 * i) d in
    let moved : take (256 * (n - end)) (drop (256 * end) view) ≡ run later =
    ap (take (256 * (n - end))) (run_rest es short end k unused) ∙ take_at (run later) unused (256 * (n - end)) m
    in
    let free : ℕ = 256 * (n - left) in
    let z = length_zeros free in
    let place : 256 * left ≡ 256 * start + length (run later) = omega arith in
    let both : length (run later ++ zeros free) ≡ 256 * (n - start) = let a = length-append (run later) (zeros free) in omega arith in
    let end_of : 256 * start + 256 * (n - start) ≡ 256 * n = omega arith in
    let unused-still : drop (length (run later ++ zeros free)) (drop (256 * start) view) ≡ unused =
    ap (λ (i : ℕ). drop i (drop (256 * start) view)) both
    ∙ drop-drop (256 * (n - start)) (256 * start) view
    ∙ ap (λ (i : ℕ). drop i view) end_of
    ∙ in_order_rest es short
    in
    let cut : run (take start es) ++ run later ≡ run (cut_out start end es) = sym (run_append (take start es) later) in
    let gap : n - left ≡ end - start = omega arith in
    let sizes : free + (25600 - 256 * n) ≡ 25600 - 256 * length (cut_out start end es) =
    free_bytes n (end - start) (n - left) (length (cut_out start end es)) (omega arith) few gap (length_cut start end es h k)
    in
    ap (λ (x : List ℕ). over_at (zeros free) (over_at x view (256 * start)) (256 * left)) moved
    ∙ ap (over_at (zeros free) (over_at (run later) view (256 * start))) place
    ∙ over_at_both (run later) (zeros free) view (256 * start) (later_fit start end n (length (run later)) (length view) h k few m size)
    ∙ ap (λ (x : List ℕ). take (256 * start) view ++ ((run later ++ zeros free) ++ x)) unused-still
    ∙ ap (λ (x : List ℕ). x ++ ((run later ++ zeros free) ++ unused)) (run_front es short start (omega arith) unused)
    ∙ ap (λ (x : List ℕ). run (take start es) ++ x) (append_assoc (run later) (zeros free) unused)
    ∙ sym (append_assoc (run (take start es)) (run later) (zeros free ++ unused))
    ∙ ap (λ (x : List ℕ). x ++ (zeros free ++ unused)) cut
    ∙ ap (λ (x : List ℕ). run (cut_out start end es) ++ x) (zeros_both free (25600 - 256 * n) ∙ ap zeros sizes)

pub layout_cut : (f : ℕ) (es : List (List ℕ)) (slots mid after : List ℕ) (n start end left : ℕ) → f < 100 → Short es → length es ≤ 100 → slots ≡ layout f es → length es ≡ n
    → start ≤ end → end ≤ n → left ≡ n - (end - start) → length after ≡ 25600
    → turned f mid ≡ over_at (take (256 * (n - end)) (drop (256 * end) (turned f slots))) (turned f slots) (256 * start)
    → turned f after ≡ over_at (zeros (256 * (n - left))) (turned f mid) (256 * left)
    → after ≡ layout f (cut_out start end es)
unfolding layout
layout_cut f es slots mid after n start end left low short few laid counts h k l size moved wiped =
    let order : turned f slots ≡ in_order es = ap (turned f) laid ∙ layout_turned f es low short few in
    sym (turned_back f after (omega arith) size)
    ∙ ap (turned (100 - f))
    (wiped
    ∙ ap (λ (x : List ℕ). over_at (zeros (256 * (n - left))) x (256 * left))
    (moved ∙ ap (λ (x : List ℕ). over_at (take (256 * (n - end)) (drop (256 * end) x)) x (256 * start)) order)
    ∙ ap (λ (m : ℕ). over_at (zeros (256 * (m - left))) (over_at (take (256 * (m - end)) (drop (256 * end) (in_order es))) (in_order es) (256 * start)) (256 * left)) (sym counts)
    ∙ order_cut es start end left short few h (omega arith) (omega arith))
