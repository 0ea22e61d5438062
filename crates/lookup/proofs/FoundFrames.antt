-- What an answer tells a caller, in any image: the frame at the spot is one that was wanted, and parts lie within the image.
use Rattle.std.specs.Prelude.{Some, None, Option}
use Prim.Native.Nat.{ℕ, ◌+◌, ◌<◌, ◌≤◌}
use mathlib.Core.Path.{◌≡◌, refl, sym, ap, ◌∙◌}
use mathlib.Core.Bool.{Bool, true, false, cond}
use mathlib.Core.List.{List, [], ◌∷◌}
use mathlib.Core.Option.{none, some}
use native.Mathlib.Omega.{arith}
use lib.ListN.{length, drop, length-drop}
use lib.Seq.{drop-drop}
use Rattle.buffer.specs.Numbers.{Bytes}
use Rattle.buffer.specs.declared.lend.Span.{Span}
use Rattle.buffer.proofs.Numbers.{bytes_drop}
use Rattle.image.specs.Frames.{Frame, node, option, flag, encode_frame}
use Rattle.image.specs.Reading.{Read, read, broken, ended, read_first}
use Rattle.image.proofs.Encoding.{read_within, read_size, read_ended}
use Rattle.tree.specs.Images.{Item, whole, torn, items, frames_in, frames_of}
use Rattle.tree.proofs.Items.{items_read, items_broken, items_none}
use Rattle.lookup.specs.Spots.{shifted, place_of, first_of, spot}
use Rattle.lookup.specs.Searches.{wanted, ended_by}
use Rattle.lookup.specs.Nodes.{or_end, end_after, end_by, subtree_end, part_at, find_node}
use Rattle.lookup.specs.declared.look.Sought.TheVariants.{Node, Upper}

-- the frame at a place of bytes is one that was wanted
pub record FrameAt (want : Frame → Bool) (s : List ℕ) (k : ℕ) : Type 0 where
  pub frame : Frame
  pub size : ℕ
  pub found : read_first (drop k s) ≡ read frame size
  pub was_wanted : want frame ≡ true
  pub within : k + size ≤ length s
  pub some : 0 < size

-- the first item of bytes and the others
record FirstItem (s : List ℕ) (f : Frame) (l : List Item) : Type 0 where
  size : ℕ
  found : read_first s ≡ read f size
  others : items (drop size s) ≡ l

first_item : (s : List ℕ) (f : Frame) (l : List Item) → items s ≡ whole f ∷ l → FirstItem s f l
first_item s f l e = by (read_first s) refl
  where
    by : (x : Read) → read_first s ≡ x → FirstItem s f l
    by (read g n) q =
        let z = items_read s g n q in
        let same : g ≡ f = cc in
        let rest : items (drop n s) ≡ l = cc in
        record { size = n; found = q ∙ rw same; others = rest }
    by broken q = absurd (let z = items_broken s q in let y : ◌≡◌ {A = ℕ} 0 1 = cc in omega arith)
    by ended q = absurd (let z : items s ≡ [] = ap items (read_ended s q) ∙ items_none in let y : ◌≡◌ {A = ℕ} 0 1 = cc in omega arith)

here : (want : Frame → Bool) (s : List ℕ) (f : Frame) (n : ℕ) → read_first s ≡ read f n → want f ≡ true → FrameAt want s 0
here want s f n e w =
    let k = read_within s f n e in
    record { frame = f; size = n; found = e; was_wanted = w; within = omega arith; some = k.0 }

beyond : (want : Frame → Bool) (s : List ℕ) (n j : ℕ) → n ≤ length s → FrameAt want (drop n s) j → FrameAt want s (n + j)
beyond want s n j h x =
    let l = length-drop n s in
    let k = x.within in
    record {
      frame = x.frame;
      size = x.size;
      found = ap read_first (sym (drop-drop j n s)) ∙ x.found;
      was_wanted = x.was_wanted;
      within = omega arith;
      some = x.some;
    }

-- the frame at a place of bytes is the first that was wanted
record FirstAt (want ends : Frame → Bool) (fs : List Frame) (s : List ℕ) (k : ℕ) : Type 0 where
  frame_at : FrameAt want s k
  first : first_of want ends fs ≡ some frame_at.frame

place_first : (want ends : Frame → Bool) (l : List Item) (s : List ℕ) (k : ℕ) → Bytes s → items s ≡ l → place_of want ends (frames_in l) ≡ Some k
    → FirstAt want ends (frames_in l) s k
unfolding place_of frames_in first_of beyond here
place_first want ends [] s k b e p = absurd (let z : ◌≡◌ {A = ℕ} 0 1 = cc in omega arith)
place_first want ends (torn ∷ l) s k b e p = absurd (let z : ◌≡◌ {A = ℕ} 0 1 = cc in omega arith)
place_first want ends (whole f ∷ l) s k b e p =
    let i = first_item s f l e in
    let x = by i (ends f) (want f) refl (place_of want ends (frames_in l)) p (λ j q. place_first want ends l (drop i.size s) j (bytes_drop i.size s b) i.others q) in
    record { frame_at = x.0; first = x.1 }
  where
    by : (i : FirstItem s f l) (t u : Bool) → want f ≡ u → (x : Option ℕ) → cond t None (cond u (Some 0) (shifted (length (encode_frame f)) x)) ≡ Some k
        → ((j : ℕ) → x ≡ Some j → FirstAt want ends (frames_in l) (drop i.size s) j)
        → (a : FrameAt want s k) × (cond t none (cond u (some f) (first_of want ends (frames_in l))) ≡ some a.frame)
    by i true u w x q more = absurd (let z : ◌≡◌ {A = ℕ} 0 1 = cc in omega arith)
    by i false true w x q more = let z : ◌≡◌ {A = ℕ} 0 k = cc in rw (← z) (here want s f i.size i.found w, refl)
    by i false false w (Some j) q more =
        let n = read_size s f i.size b i.found in
        let z : length (encode_frame f) + j ≡ k = cc in
        let y : i.size + j ≡ k = omega arith in
        let m = more j refl in
        rw (← y) (beyond want s i.size j (read_within s f i.size i.found).1 m.frame_at, m.first)
    by i false false w None q more = absurd (let z : ◌≡◌ {A = ℕ} 0 1 = cc in omega arith)

-- what a spot tells, and which frame it is
pub record SpotTold (want : Frame → Bool) (image : List ℕ) (at p : ℕ) : Type 0 where
  pub frame_at : FrameAt want image p
  pub later : at ≤ p

pub record SpotFirst (want ends : Frame → Bool) (image : List ℕ) (at p : ℕ) : Type 0 where
  pub told : SpotTold want image at p
  pub first : first_of want ends (frames_of (drop at image)) ≡ some told.frame_at.frame

pub spot_first : (want ends : Frame → Bool) (image : List ℕ) (at p : ℕ) → Bytes image → spot want ends image at ≡ Some p → SpotFirst want ends image at p
unfolding spot frames_of beyond
spot_first want ends image at p b e = by (place_of want ends (frames_in (items (drop at image)))) refl e
  where
    by : (x : Option ℕ) → place_of want ends (frames_in (items (drop at image))) ≡ x → shifted at x ≡ Some p → SpotFirst want ends image at p
    by (Some k) q r =
        let z : at + k ≡ p = cc in
        let g = place_first want ends (items (drop at image)) (drop at image) k (bytes_drop at image b) refl q in
        let f = g.frame_at in
        let l = length-drop at image in
        let w = f.within in
        let s = f.some in
        let h : at ≤ length image = omega arith in
        rw (← z) record { told = record { frame_at = beyond want image at k h f; later = omega arith }; first = g.first }
    by None q r = absurd (let z : ◌≡◌ {A = ℕ} 0 1 = cc in omega arith)

pub spot_told : (want ends : Frame → Bool) (image : List ℕ) (at p : ℕ) → Bytes image → spot want ends image at ≡ Some p → SpotTold want image at p
spot_told want ends image at p b e = (spot_first want ends image at p b e).told

-- that there is no spot tells that no frame is wanted before the end of the search
place_none : (want ends : Frame → Bool) (fs : List Frame) → place_of want ends fs ≡ None → first_of want ends fs ≡ none
unfolding place_of first_of
place_none want ends [] e = refl
place_none want ends (f ∷ l) e = by (ends f) (want f) (place_of want ends l) e (place_none want ends l)
  where
    by : (t u : Bool) (x : Option ℕ) → cond t None (cond u (Some 0) (shifted (length (encode_frame f)) x)) ≡ None → (x ≡ None → first_of want ends l ≡ none)
        → cond t none (cond u (some f) (first_of want ends l)) ≡ none
    by true u x q more = refl
    by false true x q more = absurd (let z : ◌≡◌ {A = ℕ} 0 1 = cc in omega arith)
    by false false (Some j) q more = absurd (let z : ◌≡◌ {A = ℕ} 0 1 = cc in omega arith)
    by false false None q more = more refl

pub spot_none : (want ends : Frame → Bool) (image : List ℕ) (at : ℕ) → spot want ends image at ≡ None → first_of want ends (frames_of (drop at image)) ≡ none
unfolding spot
spot_none want ends image at e = by (place_of want ends (frames_of (drop at image))) refl e
  where
    by : (x : Option ℕ) → place_of want ends (frames_of (drop at image)) ≡ x → shifted at x ≡ None → first_of want ends (frames_of (drop at image)) ≡ none
    by (Some k) q r = absurd (let z : ◌≡◌ {A = ℕ} 0 1 = cc in omega arith)
    by None q r = place_none want ends (frames_of (drop at image)) q

-- what a part tells: the node wanted stands at its start, and the part lies within the image
pub record PartTold (image : List ℕ) (depth : ℕ) (name : List ℕ) (start end : ℕ) : Type 0 where
  pub root : FrameAt (wanted (Node depth) name) image start
  pub order : start ≤ end
  pub within : end ≤ length image

end_within : (image : List ℕ) (later : ℕ) (x : Option ℕ) → ((p : ℕ) → x ≡ Some p → (later ≤ p) × (p ≤ length image)) → later ≤ length image → (later ≤ or_end image x) × (or_end image x ≤ length image)
end_within image later (Some p) k h = k p refl
end_within image later None k h = (h, omega arith)

end_told : (image : List ℕ) (depth start : ℕ) → Bytes image → start ≤ length image → (start ≤ subtree_end image start depth) × (subtree_end image start depth ≤ length image)
unfolding subtree_end
end_told image depth start b h = by (read_first (drop start image)) refl
  where
    spots : (later p : ℕ) → spot (wanted (Upper depth) []) (ended_by (Upper depth)) image later ≡ Some p → (later ≤ p) × (p ≤ length image)
    spots later p e =
        let t = spot_told (wanted (Upper depth) []) (ended_by (Upper depth)) image later p b e in
        let w = t.frame_at.within in
        let o = t.later in
        (o, omega arith)

    frames : (f : Frame) (later : ℕ) → start ≤ later → later ≤ length image → (start ≤ end_after image later depth f) × (end_after image later depth f ≤ length image)
    frames (node e g n ds u) later l m =
        let w = end_within image later (spot (wanted (Upper depth) []) (ended_by (Upper depth)) image later) (spots later) m in
        let w₀ = w.0 in
        (omega arith, w.1)
    frames (option r c n x ds) later l m = (h, omega arith)
    frames (flag c n x ds) later l m = (h, omega arith)

    by : (x : Read) → read_first (drop start image) ≡ x → (start ≤ end_by image start depth x) × (end_by image start depth x ≤ length image)
    by (read f n) q =
        let w = read_within (drop start image) f n q in
        let l = length-drop start image in
        frames f (start + n) (omega arith) (omega arith)
    by broken q = (h, omega arith)
    by ended q = (h, omega arith)

pub part_told : (image : List ℕ) (depth : ℕ) (name : List ℕ) (part : Span) → Bytes image → find_node image depth name ≡ Some part → PartTold image depth name part.start part.end
unfolding find_node
part_told image depth name part b e = by (spot (wanted (Node depth) name) (ended_by (Node depth)) image 0) refl e
  where
    by : (x : Option ℕ) → spot (wanted (Node depth) name) (ended_by (Node depth)) image 0 ≡ x → part_at image depth x ≡ Some part → PartTold image depth name part.start part.end
    by (Some p) q r =
        let whole : record { start = p; end = subtree_end image p depth } ≡ part = cc in
        let z : p ≡ part.start = ap (λ (s : Span). s.start) whole in
        let y : subtree_end image p depth ≡ part.end = ap (λ (s : Span). s.end) whole in
        let t = spot_told (wanted (Node depth) name) (ended_by (Node depth)) image 0 p b q in
        let w = t.frame_at.within in
        let ends = end_told image depth p b (omega arith) in
        let e₀ = ends.0 in
        let e₁ = ends.1 in
        record { root = rw z at t.frame_at; order = omega arith; within = omega arith }
    by None q r = absurd (let z : ◌≡◌ {A = ℕ} 0 1 = cc in omega arith)
