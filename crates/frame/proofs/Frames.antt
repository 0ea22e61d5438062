-- Laws of frames of one text: what is written is read, and what is read was so written.
use Prim.Native.Nat.{ℕ, suc, ◌+◌, ◌^◌, ◌≤◌, ◌<◌}
use mathlib.Core.Path.{◌≡◌, refl, ap, ◌∙◌}
use mathlib.Core.List.{List, [], ◌∷◌, ◌++◌}
use lib.ListN.{length, take, drop, get_or}
use native.Mathlib.Omega.{arith}
use Rattle.buffer.proofs.Lists.{drop_step, drop_end}
use Rattle.buffer.specs.Numbers.{Bytes}
use Rattle.frame.specs.Text.{read_text}
use Rattle.frame.specs.Framed.{frame_of, framed, frame_first}
use Rattle.std.proofs.Common.{Option, Some, None}
use Rattle.frame.specs.declared.framed.Framed.TheVariants.{Frame, End}
use Rattle.frame.proofs.Texts.{length_text_of, text_read, text_found, text_back, read_told}

pub length_frame_of : (kind : ℕ) (t : List ℕ) → length (frame_of kind t) ≡ 3 + length t
unfolding frame_of
length_frame_of kind t = let k = length_text_of 2 t in omega arith

-- what stands at a place: nothing at the end, else a kind with what is read after it
pub first_end : (s : List ℕ) (at : ℕ) → length s ≤ at → frame_first (drop at s) ≡ End
unfolding frame_first
first_end s at h = rw (drop_end s at)

pub first_at : (s : List ℕ) (at : ℕ) (x : Option ℕ) → at < length s → read_text 2 (drop (at + 1) s) ≡ x → frame_first (drop at s) ≡ framed (get_or s at 0) x
unfolding frame_first
first_at s at x h e = rw (drop_step s at 0 h, e)

-- what is written is read, whatever stands after it
module _ (kind : ℕ) (t rest : List ℕ) where
  pub frame_read : length t < 256 ^ 2 → frame_first (frame_of kind t ++ rest) ≡ Frame kind (length t)
  unfolding frame_of frame_first
  frame_read h = ap (framed kind) (text_read 2 t rest h)

  pub frame_found : take (length t) (drop 3 (frame_of kind t ++ rest)) ≡ t
  unfolding frame_of
  frame_found = text_found 2 t rest

-- a frame that was read: its kind is the first byte, and its text is read after that
first_told : (k : ℕ) (s : List ℕ) (kind n : ℕ) → frame_first (k ∷ s) ≡ Frame kind n → (k ≡ kind) × (read_text 2 s ≡ Some n)
unfolding frame_first
first_told k s kind n e = by (read_text 2 s) refl e
  where
    by : (x : Option ℕ) → read_text 2 s ≡ x → framed k x ≡ Frame kind n → (k ≡ kind) × (read_text 2 s ≡ Some n)
    by (Some m) q r = let size : m ≡ n = cc in (cc, q ∙ ap Some size)
    by None q r = absurd (let z : ◌≡◌ {A = ℕ} 0 1 = cc in omega arith)

-- a frame that is read lies within the list
pub frame_within : (s : List ℕ) (kind n : ℕ) → frame_first s ≡ Frame kind n → 3 + n ≤ length s
unfolding frame_first
frame_within [] kind n e = absurd (let z : ◌≡◌ {A = ℕ} 0 1 = cc in omega arith)
frame_within (k ∷ s) kind n e = let h = read_told 2 s n (first_told k s kind n e).1 in omega arith

-- what is read as a frame is the writing of it, and what stands after
pub frame_back : (s : List ℕ) (kind n : ℕ) → Bytes s → frame_first s ≡ Frame kind n → s ≡ frame_of kind (take n (drop 3 s)) ++ drop (3 + n) s
unfolding frame_of frame_first Bytes
frame_back [] kind n h e = cc
frame_back (k ∷ s) kind n h e =
    let told = first_told k s kind n e in
    let more : 3 + n ≡ suc (2 + n) = omega arith in
    rw (more, ← told.0) (ap (λ (l : List ℕ). k ∷ l) (text_back 2 s n (λ i. h (suc i)) told.1))
