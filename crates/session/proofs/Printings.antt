-- Laws of frames printed as house lines, one after the other.
use Rattle.std.specs.Prelude.{Ok, Err, Result}
use Prim.Native.Nat.{ℕ, ◌+◌, ◌-◌, ◌*◌, ◌≤◌, ◌<◌}
use mathlib.Core.Path.{◌≡◌, refl, sym, ap, ◌∙◌}
use mathlib.Core.List.{List, [], ◌∷◌, ◌++◌, append_assoc, append-nil}
use native.Mathlib.Omega.{arith}
use borrow.Author.Tests.{le-ltb}
use borrow.Rule.Slice.PartMut.{put_mid}
use lib.ListN.{length, take, drop, get_or, length-drop}
use Rattle.buffer.specs.Write.{over, Pushed, over_if_fits}
use Rattle.buffer.proofs.Choices.{else_is}
use Rattle.buffer.proofs.Lending.{over_at_nothing, rest_lent}
use Rattle.buffer.proofs.Writing.{rest_pushed}
use Rattle.frame.specs.House.{house_line, write_house, HouseWritten}
use Rattle.buffer.specs.declared.show.TooShort.{TooShort}
use Rattle.frame.proofs.Lines.{length_house_line}
use Rattle.session.specs.Prints.{Printed, frame_of, lines_of, shown}

-- where there is room, the line is written
pub house_room : (frame out left : List ℕ) (r : Result ℕ TooShort) → 2 * length frame + 1 ≤ length out → HouseWritten frame out r left
    → (r ≡ Ok (length (house_line frame))) × (left ≡ over (house_line frame) out)
unfolding write_house over_if_fits
house_room frame out left r h w =
    let l = length_house_line frame in
    let room : length (house_line frame) ≤ length out = omega arith in
    (w.answer ∙ else_is _ _ _ (le-ltb _ _ room), w.bytes ∙ else_is _ _ _ (le-ltb _ _ room))

rest_size : (d : List ℕ) (o : ℕ) → length (take (length d - o) (drop o d)) ≡ length d - o
rest_size d o = ap length (rest_lent d o) ∙ length-drop o d

-- a frame that is printed into a rest that was lent is printed at its place
pub printed_at : (frame out e : List ℕ) (at : ℕ) (r : Result ℕ TooShort) → at + (2 * length frame + 1) ≤ length out
    → HouseWritten frame (take (length out - at) (drop at out)) r e
    → (r ≡ Ok (length (house_line frame))) × Pushed (house_line frame) out at (at + length (house_line frame)) (put_mid at (length out - at) out e)
printed_at frame out e at r h w =
    let l = rest_size out at in
    let p = house_room frame (take (length out - at) (drop at out)) e r (omega arith) w in
    (p.0, rest_pushed (house_line frame) out e at (length (house_line frame)) (omega arith) (record { count = refl; bytes = p.1 }))

pub pushed_none : (out : List ℕ) (at : ℕ) → Pushed [] out at at out
pushed_none out at = record { place = omega arith; bytes = sym (over_at_nothing out at) }

-- one frame
pub line_alone : (p : Printed) → lines_of (p ∷ []) ≡ house_line (frame_of p)
unfolding lines_of
line_alone p = append-nil _

pub lines_both : (a b : List Printed) → lines_of (a ++ b) ≡ lines_of a ++ lines_of b
unfolding lines_of
lines_both [] b = refl
lines_both (p ∷ a) b = ap (λ (x : List ℕ). house_line (frame_of p) ++ x) (lines_both a b) ∙ sym (append_assoc (house_line (frame_of p)) (lines_of a) (lines_of b))

-- screen bytes after their kind: no bytes are not printed
pub shown_none : (bytes : List ℕ) → length bytes ≤ 0 → lines_of (shown bytes) ≡ []
unfolding lines_of shown
shown_none [] h = refl
shown_none (b ∷ l) h = absurd (omega arith)

pub shown_some : (bytes : List ℕ) → 0 < length bytes → lines_of (shown bytes) ≡ house_line (0x22 ∷ bytes)
unfolding lines_of shown frame_of
shown_some [] h = absurd (omega arith)
shown_some (b ∷ l) h = append-nil _

pub shown_size : (bytes : List ℕ) → length (lines_of (shown bytes)) ≤ 2 * length bytes + 3
unfolding lines_of shown
shown_size [] = omega arith
shown_size (b ∷ l) =
    let e : length (lines_of (shown (b ∷ l))) ≡ length (house_line (0x22 ∷ b ∷ l)) = ap length (shown_some (b ∷ l) (omega arith)) in
    let l = length_house_line (0x22 ∷ b ∷ l) in omega arith

pub kind_first : (s : List ℕ) (k : ℕ) → 0 < length s → get_or s 0 0 ≡ k → s ≡ k ∷ drop 1 s
kind_first [] k h e = absurd (omega arith)
kind_first (a ∷ s) k h e = ap (λ (x : ℕ). x ∷ s) e

-- what the answer to a printed frame tells
module _ (frame out e : List ℕ) (at n : ℕ) (r : Result ℕ TooShort) (h : at + (2 * length frame + 1) ≤ length out) (w : HouseWritten frame (take (length out - at) (drop at out)) r e) where
  pub print_never : r ≡ Err (record { needed = n }) → ⊥
  print_never s = absurd (let z : ◌≡◌ {A = ℕ} 0 1 = let p = (printed_at frame out e at r h w).0 in cc in omega arith)

  counted : r ≡ Ok n → n ≡ length (house_line frame)
  counted s = let p = (printed_at frame out e at r h w).0 in cc

  pub print_count : r ≡ Ok n → n ≡ 2 * length frame + 1
  print_count s = let a = counted s in let l = length_house_line frame in omega arith

  pub print_told : r ≡ Ok n → Pushed (house_line frame) out at (at + n) (put_mid at (length out - at) out e)
  print_told s = rw (counted s) (printed_at frame out e at r h w).1

-- screen bytes after their kind
module _ (frame out : List ℕ) where
  pub screen_none : (at : ℕ) → frame ≡ 0x22 ∷ drop 1 frame → length frame ≤ 1 → Pushed (lines_of (shown (drop 1 frame))) out at at out
  screen_none at k h =
      let d = length-drop 1 frame in
      rw (shown_none (drop 1 frame) (omega arith)) (pushed_none out at)

  pub screen_some : (left : List ℕ) (at r : ℕ) → frame ≡ 0x22 ∷ drop 1 frame → 1 < length frame → Pushed (house_line frame) out at r left
      → Pushed (lines_of (shown (drop 1 frame))) out at r left
  screen_some left at r k h p =
      let d = length-drop 1 frame in
      let e : lines_of (shown (drop 1 frame)) ≡ house_line frame = shown_some (drop 1 frame) (omega arith) ∙ ap house_line (sym k) in
      rw e p
