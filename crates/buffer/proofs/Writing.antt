-- Laws of writes in a row: a write after a write, and a write at the front.
use Prim.Native.Nat.{ℕ, ◌+◌, ◌-◌, ◌≤◌}
use mathlib.Core.Path.{sym, ap, ◌∙◌}
use mathlib.Core.List.{List, ◌++◌}
use native.Mathlib.Omega.{arith}
use lib.ListN.{length, take, drop, length-append, length-drop}
use borrow.Rule.Slice.PartMut.{put_mid}
use Rattle.buffer.specs.Write.{Written, Pushed}
use Rattle.buffer.proofs.Lending.{over_at_both, over_at_front, rest_lent, rest_written}

-- a write right after a write is the write of both
pub pushed_both : (x y out mid left : List ℕ) (o p r : ℕ) → o + length x ≤ length out → Pushed x out o p mid → Pushed y mid p r left → Pushed (x ++ y) out o r left
pushed_both x y out mid left o p r h a b =
    record {
      place = let l = length-append x y in let k = a.place in let m = b.place in omega arith;
      bytes = b.bytes ∙ rw (a.bytes, a.place) (over_at_both x y out o h);
    }

-- a write at place 0 is a write at the front, and the other way
pub pushed_front : (x out left : List ℕ) (r : ℕ) → Pushed x out 0 r left → Written x out r left
pushed_front x out left r a = record { count = let k = a.place in omega arith; bytes = a.bytes ∙ over_at_front x out }

pub front_pushed : (x out left : List ℕ) (r : ℕ) → Written x out r left → Pushed x out 0 r left
front_pushed x out left r a = record { place = let k = a.count in omega arith; bytes = a.bytes ∙ sym (over_at_front x out) }

-- a write at the front of a rest that was lent is a write at its place
pub rest_pushed : (x d e : List ℕ) (o n : ℕ) → o ≤ length d → Written x (take (length d - o) (drop o d)) n e → Pushed x d o (o + n) (put_mid o (length d - o) d e)
rest_pushed x d e o n h w =
    record { place = ap (λ (k : ℕ). o + k) w.count; bytes = rest_written x d e o h w.bytes }

-- the rest that is lent has room for what fits after the place
pub rest_room : (x d : List ℕ) (o : ℕ) → o + length x ≤ length d → length x ≤ length (take (length d - o) (drop o d))
rest_room x d o h = rw (rest_lent d o, length-drop o d) (omega arith)
