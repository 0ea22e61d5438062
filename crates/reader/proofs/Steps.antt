-- From frame to frame: what a step from a place tells of the frames from there on.
use Prim.Native.Nat.{ℕ, ◌+◌, ◌-◌, ◌<◌, ◌≤◌, max}
use mathlib.Core.Path.{◌≡◌, refl, sym, ap, ◌∙◌}
use mathlib.Core.List.{List}
use native.Mathlib.Omega.{arith}
use lib.ListN.{length, drop, length-drop}
use lib.Seq.{drop-drop}
use Rattle.image.specs.Reading.{head_first, Read, read, broken, ended, read_by, read_first}
use Rattle.image.specs.declared.head.Head.{Head}
use Rattle.image.specs.declared.head.Head.TheVariants.{Node, Option, Flag, Bad, End}
use Rattle.image.proofs.Encoding.{read_within, read_ended}
use Rattle.tree.specs.Images.{frames_in, frames_of}
use Rattle.tree.proofs.Items.{items_read, items_broken, items_end}
use Rattle.reader.specs.Places.{size_first, next_place}

-- a frame's size, seen from the frame in words
abbrev size_read : Read → ℕ
size_read (read f n) = n
size_read broken = 0
size_read ended = 0

size_read_lem : (s : List ℕ) (h : Head) → size_first h ≡ size_read (read_by s h)
size_read_lem s (Node d c t) = refl
size_read_lem s (Option r c t) = refl
size_read_lem s (Flag c t) = refl
size_read_lem s Bad = refl
size_read_lem s End = refl

-- what the first bytes tell: a frame and the frames after it, or none
pub record StepTold (s : List ℕ) (size : ℕ) : Type 0 where
  pub within : size ≤ length s
  pub some : 0 < size → length (frames_of s) ≡ 1 + length (frames_of (drop size s))
  pub none : size ≡ 0 → 0 < length s → length (frames_of s) ≡ 0

read_told : (s : List ℕ) → StepTold s (size_read (read_first s))
unfolding frames_of frames_in
read_told s = by (read_first s) refl
  where
    by : (r : Read) → read_first s ≡ r → StepTold s (size_read r)
    by (read f n) e =
        let w = read_within s f n e in
        record { within = w.1; some = λ h. rw (items_read s f n e) (omega arith); none = λ h k. absurd (omega (arith, w.0)) }
    by broken e = record { within = omega arith; some = λ h. absurd (omega arith); none = λ h k. rw (items_broken s e) refl }
    by ended e = record { within = omega arith; some = λ h. absurd (omega arith); none = λ h k. absurd (let z = rw (read_ended s e) at k in omega arith) }

step_told : (s : List ℕ) → StepTold s (size_first (head_first s))
unfolding read_first
step_told s = rw (size_read_lem s (head_first s)) (read_told s)

-- the same at a place of an image, which may lie past its end
module _ (s : List ℕ) (at : ℕ) where
  pub next_within : next_place s at ≤ max at (length s)
  unfolding next_place
  next_within = let t : size_first (head_first (drop at s)) ≤ length s - at = rw (sym (length-drop at s)) (step_told (drop at s)).within in omega arith

  pub next_on : at ≤ next_place s at
  unfolding next_place
  next_on = omega arith

  pub frames_on : (next_place s at ≡ at → ⊥) → length (frames_of (drop at s)) ≡ 1 + length (frames_of (drop (next_place s at) s))
  unfolding next_place
  frames_on h =
      (step_told (drop at s)).some (omega (arith, h)) ∙ ap (λ (l : List ℕ). 1 + length (frames_of l)) (drop-drop (size_first (head_first (drop at s))) at s)

  pub frames_none : next_place s at ≡ at → at < length s → length (frames_of (drop at s)) ≡ 0
  unfolding next_place
  frames_none e h = (step_told (drop at s)).none (omega (arith, e)) (rw (length-drop at s) (omega arith))

  pub frames_end : length s ≤ at → length (frames_of (drop at s)) ≡ 0
  unfolding frames_of frames_in
  frames_end h = rw (items_end s at h) refl
