-- Laws of buffers: a copy in progress, a part that is lent on and comes back, one write after another, what stays beside a write.
use Prim.Native.Nat.{ℕ, ◌+◌, ◌-◌, ◌<◌, ◌≤◌}
use mathlib.Core.Path.{◌≡◌, refl, sym, ap, ◌∙◌}
use mathlib.Core.List.{List, [], ◌∷◌, ◌++◌, append_assoc, append-nil}
use native.Mathlib.Omega.{arith}
use native.Mathlib.Numerals.{add-one}
use native.Mathlib.Nat.{le_of_lt}
use lib.ListN.{length, take, drop, set, get_or, length-append, length-drop, length-take, take-append-drop, get_or-append}
use lib.Seq.{take-append-le, drop-append-le, take-append-add, drop-append-add, take-take, set_at, take-suc, append_snoc, length-take-le, take_all, drop-drop, take_at, drop_at, drop-append_seam, get_or-take, set_split, drop-length}
use borrow.Rule.Slice.PartMut.{put_mid, Post-is}
use Rattle.buffer.specs.Write.{over, over_at}
use Rattle.buffer.proofs.Lists.{drop_step}

-- a turn of a copy: the first i bytes of src stand in front of what out had after them
pub copy_step : (src out : List ℕ) (i : ℕ) → i < length src → i < length out
    → set (take i src ++ drop i out) i (get_or src i 0) ≡ take (i + 1) src ++ drop (i + 1) out
copy_step src out i hs ho =
    ap (λ (r : List ℕ). set (take i src ++ r) i (get_or src i 0)) (drop_step out i 0 ho)
    ∙ set_at (take i src) (get_or out i 0) (drop (i + 1) out) (get_or src i 0) i (length-take-le i src (le_of_lt hs))
    ∙ sym (append_snoc (take i src) (get_or src i 0) (drop (i + 1) out))
    ∙ ap (λ (l : List ℕ). l ++ drop (i + 1) out) (sym (take-suc src i 0 hs) ∙ ap (λ (n : ℕ). take n src) (sym (add-one i)))

-- the copy of a whole text
pub copy_end : (src out : List ℕ) (i : ℕ) → i ≤ length src → length src ≤ i → take i src ++ drop i out ≡ over src out
unfolding over
copy_end src out i h k =
    let e : i ≡ length src = omega arith in
    rw e (ap (λ (l : List ℕ). l ++ drop (length src) out) (take_all (length src) src (omega arith)))

-- a write that fits keeps the buffer's length
pub length_over : (x d : List ℕ) → length x ≤ length d → length (over x d) ≡ length d
unfolding over
length_over x d h = simp (length-append, length-drop) (omega arith)

-- the rest of a buffer, from o on: what is lent of it, and the buffer once it has come back as e
pub rest_lent : {A : Type 0} (d : List A) (o : ℕ) → take (length d - o) (drop o d) ≡ drop o d
rest_lent d o = take_all (length d - o) (drop o d) (rw (length-drop o d) (omega arith))

pub rest_back : {A : Type 0} (d e : List A) (o : ℕ) → o ≤ length d → put_mid o (length d - o) d e ≡ take o d ++ e
rest_back {A} d e o h =
    ap (λ (r : List A). take o d ++ (e ++ r)) (Post-is o (length d) d h ∙ drop-length d)
    ∙ ap (λ (r : List A). take o d ++ r) (append-nil e)

pub length_over_at : (x d : List ℕ) (o : ℕ) → o + length x ≤ length d → length (over_at x d o) ≡ length d
unfolding over over_at
length_over_at x d o h = simp (length-append, length-take, length-drop) (omega arith)

-- a write at the front is a write at place 0
pub over_at_front : (x d : List ℕ) → over_at x d 0 ≡ over x d
unfolding over over_at
over_at_front x d = refl

-- one byte stored
pub over_at_byte : (d : List ℕ) (o b : ℕ) → o < length d → set d o b ≡ over_at (b ∷ []) d o
unfolding over over_at
over_at_byte d o b h =
    set_split d o b h ∙ ap (λ (r : List ℕ). take o d ++ b ∷ r) (sym (drop-drop 1 o d ∙ ap (λ (n : ℕ). drop n d) (add-one o)))

-- a write, then another right after it, is the write of both
pub over_at_both : (x y d : List ℕ) (o : ℕ) → o + length x ≤ length d → over_at y (over_at x d o) (o + length x) ≡ over_at (x ++ y) d o
unfolding over over_at
over_at_both x y d o h =
    let rest : List ℕ = drop (length x) (drop o d) in
    let front : List ℕ = take o d ++ x in
    let size : length front ≡ o + length x = simp (length-append, length-take) (omega arith) in
    let split : over_at x d o ≡ front ++ rest = sym (append_assoc (take o d) x rest) in
    let len : length (x ++ y) ≡ length x + length y = length-append x y in
    ap (λ (l : List ℕ). take (o + length x) l ++ over y (drop (o + length x) l)) split
    ∙ ap (λ (l : List ℕ). l ++ over y (drop (o + length x) (front ++ rest))) (take_at front rest (o + length x) size)
    ∙ ap (λ (l : List ℕ). front ++ over y l) (drop_at front rest (o + length x) size)
    ∙ append_assoc (take o d) x (over y rest)
    ∙ ap (λ (l : List ℕ). take o d ++ l)
    (sym (append_assoc x y (drop (length y) rest))
    ∙ ap (λ (l : List ℕ). (x ++ y) ++ l) (drop-drop (length y) (length x) (drop o d) ∙ ap (λ (n : ℕ). drop n (drop o d)) (sym len)))

-- a write at the front of a rest that was lent, seen in the buffer once the rest is back
pub rest_written : (x d e : List ℕ) (o : ℕ) → o ≤ length d → e ≡ over x (take (length d - o) (drop o d)) → put_mid o (length d - o) d e ≡ over_at x d o
unfolding over over_at
rest_written x d e o h w =
    rest_back d e o h ∙ ap (λ (l : List ℕ). take o d ++ l) (w ∙ ap (λ (l : List ℕ). over x l) (rest_lent d o))

-- a write of nothing
pub over_at_nothing : (d : List ℕ) (o : ℕ) → over_at [] d o ≡ d
unfolding over over_at
over_at_nothing d o = take-append-drop o d

-- a write, then another right before it, is the write of both
pub over_at_before : (x y d : List ℕ) (o : ℕ) → o + length x ≤ length d → over_at x (over_at y d (o + length x)) o ≡ over_at (x ++ y) d o
unfolding over over_at
over_at_before x y d o h =
    let p : ℕ = o + length x in
    let rest : List ℕ = y ++ drop (length y) (drop p d) in
    let head : length (take p d) ≡ p = length-take-le p d h in
    let front : take o (take p d ++ rest) ≡ take o d =
    take-append-le o (take p d) rest (omega arith) ∙ take-take o p d (omega arith)
    in
    let beyond : drop (length x) (drop o (take p d ++ rest)) ≡ rest = drop-drop (length x) o (take p d ++ rest) ∙ drop_at (take p d) rest p head in
    let tail : drop (length y) (drop p d) ≡ drop (length (x ++ y)) (drop o d) =
    ap (drop (length y)) (sym (drop-drop (length x) o d))
    ∙ drop-drop (length y) (length x) (drop o d)
    ∙ ap (λ (n : ℕ). drop n (drop o d)) (sym (length-append x y))
    in
    ap (λ (l : List ℕ). l ++ (x ++ drop (length x) (drop o (take p d ++ rest)))) front
    ∙ ap (λ (l : List ℕ). take o d ++ (x ++ l)) beyond
    ∙ ap (λ (l : List ℕ). take o d ++ l) (sym (append_assoc x y (drop (length y) (drop p d))))
    ∙ ap (λ (l : List ℕ). take o d ++ ((x ++ y) ++ l)) tail

-- a write within the first of two parts, and one within the second
pub over_at_first : (x a b : List ℕ) (o : ℕ) → o + length x ≤ length a → over_at x (a ++ b) o ≡ over_at x a o ++ b
unfolding over over_at
over_at_first x a b o h =
    let d = length-drop o a in
    ap (λ (l : List ℕ). l ++ (x ++ drop (length x) (drop o (a ++ b)))) (take-append-le o a b (omega arith))
    ∙ ap (λ (l : List ℕ). take o a ++ (x ++ l)) (ap (drop (length x)) (drop-append-le o a b (omega arith)) ∙ drop-append-le (length x) (drop o a) b (omega arith))
    ∙ ap (λ (l : List ℕ). take o a ++ l) (sym (append_assoc x (drop (length x) (drop o a)) b))
    ∙ sym (append_assoc (take o a) (x ++ drop (length x) (drop o a)) b)

pub over_at_second : (x a b : List ℕ) (o : ℕ) → over_at x (a ++ b) (length a + o) ≡ a ++ over_at x b o
unfolding over over_at
over_at_second x a b o =
    ap (λ (l : List ℕ). l ++ (x ++ drop (length x) (drop (length a + o) (a ++ b)))) (take-append-add a b o)
    ∙ ap (λ (l : List ℕ). (a ++ take o b) ++ (x ++ drop (length x) l)) (drop-append-add a b o)
    ∙ append_assoc a (take o b) (x ++ drop (length x) (drop o b))

-- what lies before a write, and what lies after it, stays
pub over_at_under : (x d : List ℕ) (o p : ℕ) → p < o → o ≤ length d → get_or (over_at x d o) p 0 ≡ get_or d p 0
unfolding over_at
over_at_under x d o p l h =
    let f = length-take-le o d h in
    get_or-append (take o d) (over x (drop o d)) 0 p (omega arith) ∙ get_or-take o d p 0 l

pub over_at_past : (x d : List ℕ) (o n : ℕ) → o + length x ≤ n → o + length x ≤ length d → drop n (over_at x d o) ≡ drop n d
unfolding over over_at
over_at_past x d o n l h =
    let m : ℕ = o + length x in
    let on : m + (n - m) ≡ n = omega arith in
    let rest : List ℕ = drop (length x) (drop o d) in
    let after : drop m (take o d ++ (x ++ rest)) ≡ drop m d =
    sym (drop-drop (length x) o (take o d ++ (x ++ rest)))
    ∙ ap (drop (length x)) (drop_at (take o d) (x ++ rest) o (length-take-le o d (omega arith)))
    ∙ drop-append_seam x rest
    ∙ drop-drop (length x) o d
    in
    ap (λ (i : ℕ). drop i (take o d ++ (x ++ rest))) (sym on)
    ∙ sym (drop-drop (n - m) m (take o d ++ (x ++ rest)))
    ∙ ap (drop (n - m)) after
    ∙ drop-drop (n - m) m d
    ∙ ap (λ (i : ℕ). drop i d) on
