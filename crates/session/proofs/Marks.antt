-- Laws of a buffer with a frame's kind at a place, whose rest after it was lent: what came back stands there.
use Prim.Native.Nat.{ℕ, zero, suc, ◌+◌, ◌-◌, ◌≤◌, ◌<◌}
use mathlib.Core.Path.{◌≡◌, refl, ap, ◌∙◌}
use mathlib.Core.List.{List, [], ◌∷◌, ◌++◌}
use native.Mathlib.Omega.{arith}
use borrow.Rule.Slice.PartMut.{put_mid}
use lib.ListN.{length, take, drop, get_or, set, length-append, length-drop, length-set}
use lib.Seq.{length-take-le, get_or-set_same, get_or-take, drop_at}
use Rattle.buffer.proofs.Lending.{rest_lent, rest_back}

get_d_front : (x y : List ℕ) (i : ℕ) → i < length x → get_or (x ++ y) i 0 ≡ get_or x i 0
get_d_front [] y i h = absurd (omega arith)
get_d_front (a ∷ x) y zero h = refl
get_d_front (a ∷ x) y (suc i) h = get_d_front x y i (omega arith)

module _ (s e : List ℕ) (k size : ℕ) (full : length s ≡ size) (h : k + 1 ≤ size) where
  abbrev pub marked : List ℕ
  marked = set s k 0x22

  pub marked_size : length marked ≡ size
  marked_size = length-set s k 0x22 ∙ full

  pub lent_size : length (take (length marked - (k + 1)) (drop (k + 1) marked)) ≡ size - (k + 1)
  lent_size = let l = marked_size in let d = length-drop (k + 1) marked in ap length (rest_lent marked (k + 1)) ∙ omega arith

  abbrev pub returned : List ℕ
  returned = put_mid (k + 1) (length marked - (k + 1)) marked e

  returned_is : returned ≡ take (k + 1) marked ++ e
  returned_is = let l = marked_size in rest_back marked e (k + 1) (omega arith)

  front_size : length (take (k + 1) marked) ≡ k + 1
  front_size = let l = marked_size in length-take-le (k + 1) marked (omega arith)

  pub returned_size : length e ≡ size - (k + 1) → length returned ≡ size
  returned_size n = let a = length-append (take (k + 1) marked) e in let f = front_size in ap length returned_is ∙ omega arith

  pub returned_kind : get_or returned k 0 ≡ 0x22
  returned_kind =
      ap (λ (x : List ℕ). get_or x k 0) returned_is
      ∙ get_d_front (take (k + 1) marked) e k (let f = front_size in omega arith)
      ∙ get_or-take (k + 1) marked k 0 (omega arith)
      ∙ get_or-set_same s k 0x22 0 (omega arith)

  pub returned_after : drop (k + 1) returned ≡ e
  returned_after = ap (λ (x : List ℕ). drop (k + 1) x) returned_is ∙ drop_at (take (k + 1) marked) e (k + 1) front_size
