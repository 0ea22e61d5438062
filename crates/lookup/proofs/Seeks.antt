-- Laws of a search: one frame, then the search from the place after it.
use Rattle.std.specs.Prelude.{Some, None, Option}
use Prim.Native.Nat.{ℕ, ◌+◌, ◌<◌, ◌≤◌}
use mathlib.Core.Path.{◌≡◌, refl, sym, ap, ◌∙◌}
use mathlib.Core.Bool.{Bool, true, false, cond}
use mathlib.Core.List.{List, []}
use native.Mathlib.Omega.{arith}
use lib.ListN.{length, drop, length-drop}
use lib.Seq.{drop-drop}
use Rattle.buffer.proofs.Lists.{drop_end}
use Rattle.buffer.specs.Numbers.{Bytes}
use Rattle.buffer.proofs.Numbers.{bytes_drop}
use Rattle.image.specs.Frames.{Frame, encode_frame}
use Rattle.image.specs.Reading.{Read, read, broken, ended, read_first}
use Rattle.image.proofs.Encoding.{read_within, read_size, read_ended}
use Rattle.tree.specs.Images.{frames_in, frames_of}
use Rattle.tree.proofs.Items.{items_broken, items_none, frames_read}
use Rattle.lookup.specs.Spots.{shifted, place_of, spot}
use Rattle.lookup.specs.Inner.{hit_or, look_by}
use Rattle.lookup.specs.declared.look.Look.{Look}
use Rattle.lookup.specs.declared.look.Look.TheVariants.{Hit, Pass, Stop}

pub frames_broken : (s : List ℕ) → read_first s ≡ broken → frames_of s ≡ []
unfolding frames_of frames_in
frames_broken s e = rw (items_broken s e)

pub frames_ended : (s : List ℕ) → read_first s ≡ ended → frames_of s ≡ []
unfolding frames_of frames_in
frames_ended s e = rw (read_ended s e, items_none)

pub frames_none : frames_of [] ≡ []
unfolding frames_of frames_in
frames_none = rw items_none

later_later : (a b : ℕ) (x : Option ℕ) → shifted a (shifted b x) ≡ shifted (a + b) x
later_later a b (Some k) = ap Some (omega arith)
later_later a b None = refl

module _ (want ends : Frame → Bool) (image : List ℕ) (at : ℕ) where
  pub spot_end : length image ≤ at → None ≡ spot want ends image at
  unfolding spot place_of
  spot_end h = rw (drop_end image at h, frames_none)

  pub spot_hit : look_by want ends (read_first (drop at image)) ≡ Hit → Some at ≡ spot want ends image at
  unfolding spot place_of
  spot_hit e = by (read_first (drop at image)) refl e
    where
      z : at ≡ at + 0
      z = omega arith

      choose : (t u : Bool) (n : ℕ) (x : Option ℕ) → cond t Stop (hit_or u n) ≡ Hit → Some at ≡ shifted at (cond t None (cond u (Some 0) x))
      choose true u n x k = cc
      choose false true n x k = ap Some z
      choose false false n x k = cc

      by : (x : Read) → read_first (drop at image) ≡ x → look_by want ends x ≡ Hit → Some at ≡ shifted at (place_of want ends (frames_of (drop at image)))
      by (read f n) q k = rw (frames_read (drop at image) f n q) (choose (ends f) (want f) n _ k)
      by broken q k = cc
      by ended q k = cc

  pub spot_stop : look_by want ends (read_first (drop at image)) ≡ Stop → None ≡ spot want ends image at
  unfolding spot place_of
  spot_stop e = by (read_first (drop at image)) refl e
    where
      choose : (t u : Bool) (n : ℕ) (x : Option ℕ) → cond t Stop (hit_or u n) ≡ Stop → None ≡ shifted at (cond t None (cond u (Some 0) x))
      choose true u n x k = refl
      choose false true n x k = cc
      choose false false n x k = cc

      by : (x : Read) → read_first (drop at image) ≡ x → look_by want ends x ≡ Stop → None ≡ shifted at (place_of want ends (frames_of (drop at image)))
      by (read f n) q k = rw (frames_read (drop at image) f n q) (choose (ends f) (want f) n _ k)
      by broken q k = rw (frames_broken (drop at image) q)
      by ended q k = rw (frames_ended (drop at image) q)

  -- a frame that is passed
  pub record Passed (n : ℕ) : Type 0 where
    pub some : 0 < n
    pub within : at ≤ length image → at + n ≤ length image
    pub same : spot want ends image at ≡ spot want ends image (at + n)

  pub spot_pass : (n : ℕ) → Bytes image → look_by want ends (read_first (drop at image)) ≡ Pass n → Passed n
  unfolding spot place_of
  spot_pass n b e = by (read_first (drop at image)) refl e
    where
      choose : (t u : Bool) (m : ℕ) (x : Option ℕ) → cond t Stop (hit_or u m) ≡ Pass n → cond t None (cond u (Some 0) x) ≡ x
      choose true u m x k = cc
      choose false true m x k = cc
      choose false false m x k = refl

      size : (t u : Bool) (m : ℕ) → cond t Stop (hit_or u m) ≡ Pass n → m ≡ n
      size true u m k = cc
      size false true m k = cc
      size false false m k = cc

      by : (x : Read) → read_first (drop at image) ≡ x → look_by want ends x ≡ Pass n → Passed n
      by (read f m) q k =
          let is : m ≡ n = size (ends f) (want f) m k in
          let w = read_within (drop at image) f m q in
          let l = length-drop at image in
          let long : m ≡ length (encode_frame f) = read_size (drop at image) f m (bytes_drop at image b) q in
          record {
            some = omega arith;
            within = λ h. omega arith;
            same =
                rw (frames_read (drop at image) f m q, choose (ends f) (want f) m _ k, later_later at (length (encode_frame f)), ← long, is, drop-drop n at image);
          }
      by broken q k = absurd (let z : ◌≡◌ {A = ℕ} 0 1 = cc in omega arith)
      by ended q k = absurd (let z : ◌≡◌ {A = ℕ} 0 1 = cc in omega arith)

-- the rest of an image that was lent and looked at
pub rest_looked : (want ends : Frame → Bool) (x : List ℕ) (y : List ℕ) (r told : Look) → x ≡ y → r ≡ look_by want ends (read_first x) → r ≡ told → look_by want ends (read_first y) ≡ told
rest_looked want ends x y r told e k t = rw (← e) (sym k ∙ t)
