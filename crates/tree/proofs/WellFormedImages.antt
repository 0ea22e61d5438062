-- An image is well-formed exactly if it is frames, joined, that all obey, within the byte limit; and so is each prefix of its frames.
use Rattle.std.specs.Prelude.{Ok, Err}
use Prim.Native.Nat.{ℕ, zero, suc, ◌+◌, ◌≤◌}
use mathlib.Core.Path.{◌≡◌, refl, sym, ap, ◌∙◌}
use mathlib.Core.Bool.{Bool, true, false, cond}
use mathlib.Core.List.{List, [], ◌∷◌, ◌++◌, append_assoc, map}
use native.Mathlib.Omega.{arith}
use lib.Dec.{ltb}
use lib.ListN.{length, take, drop, length-append}
use lib.Seq.{drop-append_seam}
use borrow.Author.Tests.{le-ltb, ltb-false}
use Rattle.buffer.specs.Numbers.{Bytes}
use Rattle.buffer.proofs.Numbers.{bytes_drop}
use Rattle.image.specs.Frames.{Frame, encode_frame}
use Rattle.image.specs.Limits.{both, fair}
use Rattle.image.specs.Reading.{Read, read, broken, ended, read_first}
use Rattle.image.proofs.Fields.{both_first, both_second, both_true}
use Rattle.image.proofs.Encoding.{Fits, fair_fits, frame_read, read_back, read_ended}
use Rattle.tree.specs.Images.{Item, whole, torn, items, frames_in, frames_of, flat}
use Rattle.tree.specs.Rules.{Seen, start, follows, obeys, after, judge_items, obey_all, check_tree}
use Rattle.tree.proofs.Items.{items_read, items_broken, items_none}

abbrev pub AllFit : List Frame → Type 0
AllFit [] = Unit
AllFit (f ∷ l) = Fits f × AllFit l

pub flat_append : (a b : List Frame) → flat (a ++ b) ≡ flat a ++ flat b
unfolding flat
flat_append [] b = refl
flat_append (f ∷ a) b = rw (flat_append a b) (sym (append_assoc (encode_frame f) (flat a) (flat b)))

-- frames that were joined are read back
pub items_flat : (fs : List Frame) → AllFit fs → items (flat fs) ≡ map whole fs
unfolding flat
items_flat [] k = items_none
items_flat (f ∷ l) k =
    items_read (encode_frame f ++ flat l) f (length (encode_frame f)) (frame_read f (flat l) k.0)
    ∙ ap (λ (m : List ℕ). whole f ∷ items m) (drop-append_seam (encode_frame f) (flat l))
    ∙ ap (λ (m : List Item). whole f ∷ m) (items_flat l k.1)

pub frames_whole : (fs : List Frame) → frames_in (map whole fs) ≡ fs
unfolding frames_in
frames_whole [] = refl
frames_whole (f ∷ l) = ap (λ (m : List Frame). f ∷ m) (frames_whole l)

pub frames_flat : (fs : List Frame) → AllFit fs → frames_of (flat fs) ≡ fs
unfolding frames_of
frames_flat fs k = ap frames_in (items_flat fs k) ∙ frames_whole fs

-- bytes that are read as frames are those frames joined
pub flat_back : (fs : List Frame) (s : List ℕ) → Bytes s → items s ≡ map whole fs → s ≡ flat fs
unfolding flat
flat_back [] s b e = by (read_first s) refl
  where
    by : (x : Read) → read_first s ≡ x → s ≡ []
    by (read f n) q = let z = items_read s f n q in cc
    by broken q = let z = items_broken s q in cc
    by ended q = read_ended s q
flat_back (f ∷ l) s b e = by (read_first s) refl (λ n. flat_back l (drop n s) (bytes_drop n s b))
  where
    by : (x : Read) → read_first s ≡ x → ((n : ℕ) → items (drop n s) ≡ map whole l → drop n s ≡ flat l) → s ≡ encode_frame f ++ flat l
    by (read g n) q more =
        let z = items_read s g n q in
        let same : g ≡ f = cc in
        let rest : items (drop n s) ≡ map whole l = cc in
        read_back s b g n q ∙ rw (same, more n rest)
    by broken q more = let z = items_broken s q in cc
    by ended q more = let z : items s ≡ [] = ap items (read_ended s q) ∙ items_none in cc

-- judged good is to be frames that all obey
pub judge_good : (fs : List Frame) (seen : Seen) (n : ℕ) → obey_all seen fs ≡ true → judge_items seen n (map whole fs) ≡ Ok tt
unfolding judge_items obey_all
judge_good [] seen n e = refl
judge_good (f ∷ l) seen n e = rw (both_first (obeys seen f) _ e) (judge_good l (after seen f) (n + 1) (both_second (obeys seen f) _ e))

pub record GoodItems (seen : Seen) (l : List Item) : Type 0 where
  pub wholes : l ≡ map whole (frames_in l)
  pub obey : obey_all seen (frames_in l) ≡ true

pub good_judged : (l : List Item) (seen : Seen) (n : ℕ) → judge_items seen n l ≡ Ok tt → GoodItems seen l
unfolding judge_items obey_all frames_in
good_judged [] seen n e = record { wholes = refl; obey = refl }
good_judged (whole f ∷ l) seen n e = by (obeys seen f) refl e (good_judged l (after seen f) (n + 1))
  where
    by : (t : Bool) → obeys seen f ≡ t → cond t (judge_items (after seen f) (n + 1) l) (Err (record { number = n })) ≡ Ok tt
        → (judge_items (after seen f) (n + 1) l ≡ Ok tt → GoodItems (after seen f) l) → GoodItems seen (whole f ∷ l)
    by true q r more =
        let g = more r in
        record { wholes = ap (λ (m : List Item). whole f ∷ m) g.wholes; obey = both_true (obeys seen f) _ q g.obey }
    by false q r more = absurd (let z : ◌≡◌ {A = ℕ} 0 1 = cc in omega arith)
good_judged (torn ∷ l) seen n e = absurd (let z : ◌≡◌ {A = ℕ} 0 1 = cc in omega arith)

-- frames that obey are within their limits, so they are read back
pub obey_fit : (fs : List Frame) (seen : Seen) → obey_all seen fs ≡ true → AllFit fs
unfolding obey_all obeys
obey_fit [] seen e = tt
obey_fit (f ∷ l) seen e =
    (fair_fits f (both_first (fair f) _ (both_first (both (fair f) (follows seen f)) _ e)), obey_fit l (after seen f) (both_second (both (fair f) (follows seen f)) _ e))

-- well-formed: a list of frames that obey, joined, within the byte limit
pub record WellFormed (image : List ℕ) (fs : List Frame) : Type 0 where
  pub joined : image ≡ flat fs
  pub obey : obey_all start fs ≡ true
  pub short : length image ≤ 32768

pub well_formed_good : (image : List ℕ) (fs : List Frame) → WellFormed image fs → check_tree image ≡ Ok tt
unfolding check_tree
well_formed_good image fs w =
    rw (le-ltb 32768 (length image) w.short)
    (ap (λ (m : List ℕ). judge_items start 0 (items m)) w.joined
    ∙ ap (judge_items start 0) (items_flat fs (obey_fit fs start w.obey))
    ∙ judge_good fs start 0 w.obey)

pub good_well_formed : (image : List ℕ) → Bytes image → check_tree image ≡ Ok tt → WellFormed image (frames_of image)
unfolding check_tree frames_of
good_well_formed image b e = by (ltb 32768 (length image)) refl e
  where
    by : (t : Bool) → ltb 32768 (length image) ≡ t → cond t (Err (record { number = 0 })) (judge_items start 0 (items image)) ≡ Ok tt → WellFormed image (frames_in (items image))
    by true q r = absurd (let z : ◌≡◌ {A = ℕ} 0 1 = cc in omega arith)
    by false q r =
        let g = good_judged (items image) start 0 r in
        record { joined = flat_back (frames_in (items image)) image b g.wholes; obey = g.obey; short = ltb-false 32768 (length image) q }

-- the frames of a well-formed image are those it was joined from
pub well_formed_frames : (image : List ℕ) (fs : List Frame) → WellFormed image fs → frames_of image ≡ fs
well_formed_frames image fs w = ap frames_of w.joined ∙ frames_flat fs (obey_fit fs start w.obey)

-- a prefix of frames that obey obeys
pub obey_prefix : (n : ℕ) (fs : List Frame) (seen : Seen) → obey_all seen fs ≡ true → obey_all seen (take n fs) ≡ true
unfolding obey_all
obey_prefix zero fs seen e = refl
obey_prefix (suc n) [] seen e = refl
obey_prefix (suc n) (f ∷ l) seen e = both_true (obeys seen f) _ (both_first (obeys seen f) _ e) (obey_prefix n l (after seen f) (both_second (obeys seen f) _ e))

flat_shorter : (n : ℕ) (fs : List Frame) → length (flat (take n fs)) ≤ length (flat fs)
unfolding flat
flat_shorter zero fs = omega arith
flat_shorter (suc n) [] = omega arith
flat_shorter (suc n) (f ∷ l) =
    let k = flat_shorter n l in
    rw (length-append (encode_frame f) (flat (take n l)), length-append (encode_frame f) (flat l)) (omega arith)

-- the first n frames of a well-formed image are a well-formed image
pub prefix_good : (image : List ℕ) (n : ℕ) → Bytes image → check_tree image ≡ Ok tt → check_tree (flat (take n (frames_of image))) ≡ Ok tt
prefix_good image n b e =
    let w = good_well_formed image b e in
    let l : length (flat (frames_of image)) ≤ 32768 = rw w.joined at w.short in
    well_formed_good _ (take n (frames_of image))
    (record { joined = refl; obey = obey_prefix n (frames_of image) start w.obey; short = let k = flat_shorter n (frames_of image) in omega arith })
