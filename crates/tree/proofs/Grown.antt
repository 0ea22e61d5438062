-- An image built frame by frame is well-formed at every step: where a walk stands in a buffer, and what one frame more makes of it.
use Rattle.std.specs.Prelude.{Ok, Err, Option, Some, None}
use Prim.Native.Nat.{ℕ, ◌+◌, ◌≤◌}
use mathlib.Core.Path.{◌≡◌, refl, sym, ap, ◌∙◌}
use mathlib.Core.Bool.{Bool, true, false, cond}
use mathlib.Core.List.{List, [], ◌++◌, append_assoc, append-nil}
use native.Mathlib.Omega.{arith}
use lib.Dec.{leb, ltb, eqb}
use lib.ListN.{length, take, drop, length-append, take-append-drop}
use lib.Seq.{length-take-le, take_at, drop_at, drop-length}
use borrow.Author.Tests.{le-leb, lt-ltb, le-ltb, leb-true, leb-false, ltb-false, eqb-true}
use Rattle.buffer.specs.Write.{over, over_at}
use Rattle.buffer.proofs.Choices.{true_is_not_false}
use Rattle.buffer.proofs.Lending.{length_over_at}
use Rattle.buffer.specs.Numbers.{Bytes}
use Rattle.image.specs.Frames.{Frame, encode_frame}
use Rattle.image.specs.Limits.{both, fair}
use Rattle.image.specs.Reading.{Read, read, broken, ended, read_first}
use Rattle.image.proofs.Encoding.{fair_fits, frame_read, read_back}
use Rattle.image.proofs.Fields.{both_first, both_second}
use Rattle.tree.specs.Images.{items}
use Rattle.tree.specs.Rules.{Seen, start, obeys, after, judge_items, check_tree}
use Rattle.tree.specs.Steps.{seen_by, start_walk, passed, step_if, step_by}
use Rattle.tree.specs.declared.walk.Walk.{Walk}
use Rattle.tree.proofs.Items.{OnWay, goes_on_lem, sets_out, arrives, check_judged, items_none, judge_on, judge_stop, judge_none}
use Rattle.tree.proofs.PassedFrames.{passes}
use Rattle.tree.proofs.Walks.{passed_at}
use Rattle.tree.proofs.OneFrameMore.{Roomy, room_told}
use Rattle.tree.specs.Growth.{fills, one_frame, is_good, takes, has_room, obeys_by, admits, passed_by, Grows}

-- a walk that has passed an image, whatever comes after that
pub record Passed (image : List ℕ) (walk : Walk) : Type 0 where
  pub place : walk.at ≡ length image
  pub short : length image ≤ 32768
  pub number : ℕ
  pub way : (rest : List ℕ) → OnWay (image ++ rest) walk number
  pub seen : (rest : List ℕ) → seen_by (image ++ rest) walk ≡ seen_by image walk

-- an image that was passed is well-formed
pub passed_good : (image : List ℕ) (walk : Walk) → Passed image walk → check_tree image ≡ Ok tt
passed_good image walk p =
    let k = rw (append-nil image) at (p.way []) in
    sym (arrives image walk _ k (let e = p.place in omega arith) ∙ check_judged image p.short)

-- a walk stands in a buffer: it has passed what lies before its place
abbrev pub Stands : List ℕ → Walk → Type 0
Stands buffer walk = (walk.at ≤ length buffer) × Passed (take walk.at buffer) walk

pub start_stands : (buffer : List ℕ) → Stands buffer start_walk
unfolding seen_by
start_stands buffer = (omega arith, record { place = refl; short = omega arith; number = 0; way = λ rest. sets_out rest start_walk refl; seen = λ rest. refl })

-- a frame that is alone is read the same whatever comes after it
frame_after : (frame rest : List ℕ) (f : Frame) → Bytes frame → fair f ≡ true → read_first frame ≡ read f (length frame) → read_first (frame ++ rest) ≡ read f (length frame)
frame_after frame rest f b g e =
    let back : frame ≡ encode_frame f = read_back frame b f (length frame) e ∙ rw (drop-length frame) (append-nil (encode_frame f)) in
    rw back (frame_read f rest (fair_fits f g))

-- one frame after an image that was passed
module _ (image : List ℕ) (walk : Walk) (p : Passed image walk) (frame : List ℕ) (b : Bytes frame) (f : Frame) (e : read_first frame ≡ read f (length frame)) where
  beyond : (rest : List ℕ) → drop walk.at (image ++ (frame ++ rest)) ≡ frame ++ rest
  beyond rest = drop_at image (frame ++ rest) walk.at (sym p.place)

  -- where it obeys it is passed too
  module _ (o : obeys (seen_by image walk) f ≡ true) where
    next : Walk
    next = passed walk f (length frame)

    found : (rest : List ℕ) → read_first (drop walk.at (image ++ (frame ++ rest))) ≡ read f (length frame)
    unfolding obeys
    found rest = rw (beyond rest) (frame_after frame rest f b (both_first (fair f) _ o) e)

    obeyed : (rest : List ℕ) → obeys (seen_by (image ++ (frame ++ rest)) walk) f ≡ true
    obeyed rest = rw (p.seen (frame ++ rest)) o

    on : (rest : List ℕ) → OnWay (image ++ (frame ++ rest)) next (p.number + 1)
    unfolding step_by next
    on rest =
        (goes_on_lem _ walk p.number (p.way (frame ++ rest)) (read f (length frame)) (found rest) next (rw (obeyed rest))).1

    sees : (rest : List ℕ) → seen_by (image ++ (frame ++ rest)) next ≡ after (seen_by image walk) f
    unfolding next
    sees rest =
        (passes (image ++ (frame ++ rest)) walk (p.way []).sound f (length frame) (found rest) (obeyed rest)).seen
        ∙ ap (λ (seen : Seen). after seen f) (p.seen (frame ++ rest))

    pub passed_more : length (image ++ frame) ≤ 32768 → Passed (image ++ frame) (passed walk f (length frame))
    unfolding next
    passed_more h =
        record {
          place = let k = (passes (image ++ (frame ++ [])) walk (p.way []).sound f (length frame) (found []) (obeyed [])).place in let l = p.place in let m = length-append image frame in omega arith;
          short = h;
          number = p.number + 1;
          way = λ rest. rw (append_assoc image frame rest) (on rest);
          seen = λ rest.
              ap (λ (l : List ℕ). seen_by l (passed walk f (length frame))) (append_assoc image frame rest)
              ∙ sees rest
              ∙ sym (sees [])
              ∙ ap (λ (l : List ℕ). seen_by (image ++ l) (passed walk f (length frame))) (append-nil frame);
        }

  -- and whether it obeys is whether the image with it is well-formed
  judged : judge_items start 0 (items (image ++ frame)) ≡ cond (obeys (seen_by image walk) f) (Ok tt) (Err (record { number = p.number }))
  judged =
      let same = (p.way frame).same in
      let tail : drop walk.at (image ++ frame) ≡ frame = drop_at image frame walk.at (sym p.place) in
      sym same ∙ rw (tail, p.seen frame) (by (obeys (seen_by image walk) f) refl)
    where
      by : (t : Bool) → obeys (seen_by image walk) f ≡ t → judge_items (seen_by image walk) p.number (items frame) ≡ cond t (Ok tt) (Err (record { number = p.number }))
      by true q = judge_on (seen_by image walk) p.number frame f (length frame) e q ∙ rw (drop-length frame, items_none) (judge_none _ _)
      by false q = judge_stop (seen_by image walk) p.number frame f (length frame) e q

  pub good_more : is_good (check_tree (image ++ frame)) ≡ both (leb (walk.at + length frame) 32768) (obeys (seen_by image walk) f)
  unfolding check_tree
  good_more =
      let size : length (image ++ frame) ≡ walk.at + length frame = let k = p.place in let m = length-append image frame in omega arith in
      rw (size, judged) (by (leb (walk.at + length frame) 32768) refl (obeys (seen_by image walk) f))
    where
      by : (t : Bool) → leb (walk.at + length frame) 32768 ≡ t → (u : Bool)
          → is_good (cond (ltb 32768 (walk.at + length frame)) (Err (record { number = 0 })) (cond u (Ok tt) (Err (record { number = p.number })))) ≡ both t u
      by true q true = rw (le-ltb 32768 (walk.at + length frame) (leb-true _ _ q))
      by true q false = rw (le-ltb 32768 (walk.at + length frame) (leb-true _ _ q))
      by false q u = rw (lt-ltb 32768 (walk.at + length frame) (leb-false _ _ q))

-- three tests, two of them made before the third or after it
both_not : (s r o : Bool) → both (both s r) (both o false) ≡ both r false
both_not true true true = refl
both_not true true false = refl
both_not true false o = refl
both_not false true o = refl
both_not false false o = refl

both_ways : (s r o : Bool) → both (both s r) (both o true) ≡ both r (both s o)
both_ways true true true = refl
both_ways true true false = refl
both_ways true false o = refl
both_ways false true o = refl
both_ways false false o = refl

-- the walk's own test says whether the image takes the frame, where there is room
module _ (image : List ℕ) (walk : Walk) (p : Passed image walk) (frame : List ℕ) (b : Bytes frame) where
  admits_read : (f : Frame) (n : ℕ) → read_first frame ≡ read f n → (t : Bool) → eqb n (length frame) ≡ t → (room : Bool)
      → both (both (leb (walk.at + length frame) 32768) room) (both (obeys (seen_by image walk) f) t) ≡ both room (both t (is_good (check_tree (image ++ frame))))
  admits_read f n q true k room =
      let full : read_first frame ≡ read f (length frame) = q ∙ ap (read f) (eqb-true n (length frame) k) in
      both_ways (leb (walk.at + length frame) 32768) room (obeys (seen_by image walk) f) ∙ ap (both room) (sym (good_more image walk p frame b f full))
  admits_read f n q false k room = both_not (leb (walk.at + length frame) 32768) room (obeys (seen_by image walk) f)

  admits_by : (x : Read) → read_first frame ≡ x → (room : Bool)
      → both (both (leb (walk.at + length frame) 32768) room) (both (obeys_by (seen_by image walk) x) (fills (length frame) x))
      ≡ both room (both (fills (length frame) x) (is_good (check_tree (image ++ frame))))
  admits_by (read f n) q room = admits_read f n q (eqb n (length frame)) refl room
  admits_by broken q room = both_not (leb (walk.at + length frame) 32768) room false
  admits_by ended q room = both_not (leb (walk.at + length frame) 32768) room false

-- what one frame more makes of a buffer in which a walk stands: the image takes it, and the walk after it stands; or the image does not
abbrev pub Growth : Walk → List ℕ → List ℕ → Option Walk → List ℕ → Type 0
Growth walk frame buffer (Some next) left =
    (both (leb (walk.at + length frame) (length buffer)) (takes (take walk.at buffer) frame) ≡ true) × (take next.at left ≡ take walk.at buffer ++ frame) × Stands left next
Growth walk frame buffer None left = (both (leb (walk.at + length frame) (length buffer)) (takes (take walk.at buffer) frame) ≡ false) × (left ≡ buffer)

module _ (walk : Walk) (frame buffer : List ℕ) (stands : Stands buffer walk) (b : Bytes frame) where
  seen_is : seen_by buffer walk ≡ seen_by (take walk.at buffer) walk
  seen_is = ap (λ (l : List ℕ). seen_by l walk) (sym (take-append-drop walk.at buffer)) ∙ stands.1.seen (drop walk.at buffer)

  admits_is : admits walk frame buffer ≡ both (leb (walk.at + length frame) (length buffer)) (takes (take walk.at buffer) frame)
  unfolding admits takes has_room one_frame
  admits_is =
      rw (seen_is, le-leb walk.deep 8 (stands.1.way []).sound.deep)
      (admits_by (take walk.at buffer) walk stands.1 frame b (read_first frame) refl (leb (walk.at + length frame) (length buffer)))

  -- the image in the buffer with the frame after it
  written : walk.at + length frame ≤ length buffer → take (walk.at + length frame) (over_at frame buffer walk.at) ≡ take walk.at buffer ++ frame
  unfolding over_at over
  written h =
      let rest : List ℕ = drop (length frame) (drop walk.at buffer) in
      let size : length (take walk.at buffer ++ frame) ≡ walk.at + length frame = length-append (take walk.at buffer) frame ∙ ap (λ (n : ℕ). n + length frame) (length-take-le walk.at buffer stands.0) in
      ap (take (walk.at + length frame)) (sym (append_assoc (take walk.at buffer) frame rest)) ∙ take_at (take walk.at buffer ++ frame) rest (walk.at + length frame) size

  -- a frame that is added
  grown : (x : Read) → read_first frame ≡ x → admits walk frame buffer ≡ true → Growth walk frame buffer (Some (passed_by walk x)) (over_at frame buffer walk.at)
  unfolding admits one_frame
  grown x q e =
      let room = room_told walk (length frame) (length buffer) (both_first (has_room walk (length frame) (length buffer)) _ e) in
      let rule = both_second (has_room walk (length frame) (length buffer)) _ e in
      let obeyed : obeys_by (seen_by buffer walk) x ≡ true = rw q at (both_first (obeys_by (seen_by buffer walk) (read_first frame)) _ rule) in
      let full : fills (length frame) x ≡ true = rw q at (both_second (obeys_by (seen_by buffer walk) (read_first frame)) _ rule) in
      by x q obeyed full room
    where
      by : (x : Read) → read_first frame ≡ x → obeys_by (seen_by buffer walk) x ≡ true → fills (length frame) x ≡ true → Roomy walk (length frame) (length buffer)
          → Growth walk frame buffer (Some (passed_by walk x)) (over_at frame buffer walk.at)
      by (read f n) q o k room =
          let size : n ≡ length frame = eqb-true n (length frame) k in
          let place : (passed walk f n).at ≡ walk.at + length frame = passed_at walk f n ∙ ap (λ (m : ℕ). walk.at + m) size in
          let image : take (passed walk f n).at (over_at frame buffer walk.at) ≡ take walk.at buffer ++ frame = rw place (written room.fits) in
          let more = passed_more (take walk.at buffer) walk stands.1 frame b f (q ∙ ap (read f) size) (sym (ap (λ (seen : Seen). obeys seen f) seen_is) ∙ o) in
          let short : length (take walk.at buffer ++ frame) ≤ 32768 = let l = length-append (take walk.at buffer) frame in let m = length-take-le walk.at buffer stands.0 in let h = room.short in omega arith in
          (sym admits_is ∙ e, image, (rw (length_over_at frame buffer walk.at room.fits, place) room.fits, rw (image, size) (more short)))
      by broken q o k room = absurd (true_is_not_false (sym o))
      by ended q o k room = absurd (true_is_not_false (sym o))

  pub grows : (r : Option Walk) (left : List ℕ) → Grows walk frame buffer r left → Growth walk frame buffer r left
  grows r left g = by (admits walk frame buffer) refl g.answer g.bytes
    where
      by : (t : Bool) → admits walk frame buffer ≡ t → r ≡ step_if t (passed_by walk (read_first frame)) → left ≡ cond t (over_at frame buffer walk.at) buffer
          → Growth walk frame buffer r left
      by true e a w = rw (a, w) (grown (read_first frame) refl e)
      by false e a w = rw (a, w) (sym admits_is ∙ e, refl)

-- what lies before the place of a walk that stands is well-formed
pub stands_good : (buffer : List ℕ) (walk : Walk) → Stands buffer walk → check_tree (take walk.at buffer) ≡ Ok tt
stands_good buffer walk stands = passed_good _ walk stands.1

-- a buffer for the largest image has room for every frame that the image takes
takes_short : (image frame : List ℕ) → takes image frame ≡ true → length image + length frame ≤ 32768
unfolding takes check_tree
takes_short image frame e = by (ltb 32768 (length (image ++ frame))) refl (both_second (one_frame frame) _ e)
  where
    by : (t : Bool) → ltb 32768 (length (image ++ frame)) ≡ t → is_good (cond t (Err (record { number = 0 })) (judge_items start 0 (items (image ++ frame)))) ≡ true → length image + length frame ≤ 32768
    by true q k = absurd (true_is_not_false (sym k))
    by false q k = let h = ltb-false 32768 (length (image ++ frame)) q in let l = length-append image frame in omega arith

pub admits_whole : (walk : Walk) (frame buffer : List ℕ) → Stands buffer walk → Bytes frame → 32768 ≤ length buffer → admits walk frame buffer ≡ takes (take walk.at buffer) frame
admits_whole walk frame buffer stands b h = admits_is walk frame buffer stands b ∙ by (takes (take walk.at buffer) frame) refl
  where
    by : (t : Bool) → takes (take walk.at buffer) frame ≡ t → both (leb (walk.at + length frame) (length buffer)) t ≡ t
    by true q =
        let k = takes_short (take walk.at buffer) frame q in
        let l = length-take-le walk.at buffer stands.0 in
        rw (le-leb (walk.at + length frame) (length buffer) (omega arith))
    by false q = by_room (leb (walk.at + length frame) (length buffer))
      where
        by_room : (u : Bool) → both u false ≡ false
        by_room true = refl
        by_room false = refl
