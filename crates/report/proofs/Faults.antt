-- The frame of a fault, in the pieces that are written.
use Prim.Native.Nat.{ℕ, ◌+◌, ◌-◌, ◌/◌, ◌%◌, ◌≤◌}
use mathlib.Core.Path.{◌≡◌, refl, sym, ap, ◌∙◌}
use mathlib.Core.List.{List, [], ◌∷◌, ◌++◌, append-nil}
use native.Mathlib.Omega.{arith}
use lib.ListN.{length, take, drop, replicate, length-append, length-take, length-replicate}
use borrow.Rule.Slice.PartMut.{put_mid}
use Rattle.frame.specs.Text.{text_of}
use Rattle.frame.specs.Framed.{frame_of}
use Rattle.buffer.proofs.Numbers.{number_two}
use Rattle.frame.proofs.Frames.{length_frame_of}
use Rattle.buffer.specs.Write.{over, Written, Pushed}
use Rattle.buffer.proofs.Writing.{pushed_front}
use Rattle.report.specs.Report.{fault_of}
use Rattle.report.specs.Inner.{dashed}
use Rattle.report.proofs.Ahead.{ahead_first, ahead_push, ahead_turn, ahead_end}

length_dashed : (dashes : ℕ) (text : List ℕ) → length (dashed dashes text) ≡ dashes + length text
unfolding dashed
length_dashed dashes text =
    length-append (replicate dashes 0x2D) text ∙ ap (λ (n : ℕ). n + length text) (length-replicate {A = ℕ} dashes 0x2D)

pub length_fault : (dashes : ℕ) (text : List ℕ) → 3 + (dashes + length text) ≡ length (fault_of (dashed dashes text))
unfolding fault_of
length_fault dashes text = let l = length_frame_of 0x1E (dashed dashes text) in let d = length_dashed dashes text in omega arith

-- the kind, the two bytes of the length, the dashes, the part
pub fault_pieces : (dashes n : ℕ) (text : List ℕ) → n ≡ dashes + length text
    → fault_of (dashed dashes text) ≡ (0x1E ∷ []) ++ ((n / 256 ∷ []) ++ ((n % 256 ∷ []) ++ (replicate dashes 0x2D ++ text)))
unfolding fault_of frame_of text_of dashed
fault_pieces dashes n text e =
    rw (number_two (length (replicate dashes 0x2D ++ text)), sym (e ∙ sym (length_dashed dashes text)))

dashes_of_lem : (n m : ℕ) → n ≡ m → replicate {A = ℕ} n 0x2D ≡ replicate m 0x2D
dashes_of_lem n m e = ap (λ (k : ℕ). replicate {A = ℕ} k 0x2D) e

-- dashes in front of what stood after them
pub dashes_written : (dashes : ℕ) (out left : List ℕ) → dashes ≤ length out → left ≡ replicate (length (take dashes out)) 0x2D
    → Written (replicate dashes 0x2D) out dashes (left ++ drop dashes out)
unfolding over
dashes_written dashes out left h e =
    let l = length-replicate {A = ℕ} dashes 0x2D in
    let n : length (take dashes out) ≡ dashes = rw length-take (omega arith) in
    record { count = sym l; bytes = rw (e ∙ dashes_of_lem _ _ n, l) refl }

-- the pieces written one after the other are the frame
pub fault_written : (dashes n : ℕ) (text out : List ℕ) → n ≡ dashes + length text → 3 + n ≤ length out
    → (r p q k l : ℕ) (x y z d left : List ℕ) → Pushed (0x1E ∷ []) out 0 r x → Pushed (n / 256 ∷ []) x r p y → Pushed (n % 256 ∷ []) y p q z
    → Written (replicate dashes 0x2D) (take (length z - q) (drop q z)) k d → Pushed text (put_mid q (length z - q) z d) (q + k) l left
    → left ≡ over (fault_of (dashed dashes text)) out
fault_written dashes n text out e room r p q k l x y z d left kind high low dash part =
    let whole : List ℕ = fault_of (dashed dashes text) in
    let words : List ℕ = replicate dashes 0x2D ++ text in
    let size = length_fault dashes text in
    let fits : length whole ≤ length out = omega arith in
    let a = ahead_first whole out fits (0x1E ∷ []) _ r x (fault_pieces dashes n text e) (pushed_front _ _ _ _ kind) in
    let b = ahead_push whole out _ (n / 256 ∷ []) ((n % 256 ∷ []) ++ words) r x a refl fits p y high in
    let f = ahead_push whole out _ (n % 256 ∷ []) words p y b refl fits q z low in
    let g = ahead_turn whole out words (replicate dashes 0x2D) text q z f refl fits k d dash in
    (ahead_end whole out [] l left (ahead_push whole out text text [] (q + k) _ g (sym (append-nil text)) fits l left part) refl).bytes
