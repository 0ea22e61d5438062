-- Laws of an image as items: one frame, then the items of what stands after it.
use Rattle.std.specs.Prelude.{Ok, Err, Some, None}
use Prim.Native.Nat.{ℕ, zero, suc, ◌+◌, ◌-◌, ◌<◌, ◌≤◌}
use mathlib.Core.Path.{◌≡◌, refl, sym, ap, ◌∙◌}
use mathlib.Core.Bool.{true, false}
use mathlib.Core.List.{List, [], ◌∷◌}
use native.Mathlib.Omega.{arith}
use lib.ListN.{length, drop, length-drop}
use lib.Seq.{drop-drop}
use borrow.Author.Tests.{lt-ltb, le-ltb}
use Rattle.buffer.proofs.Lists.{drop_end}
use Rattle.image.specs.Frames.{Frame}
use Rattle.image.specs.Reading.{head_first, Read, read, broken, ended, read_first}
use Rattle.image.proofs.Encoding.{read_within, read_ended}
use Rattle.tree.specs.Images.{Item, whole, torn, items_from, items, frames_in, frames_of}
use Rattle.tree.specs.Rules.{Seen, start, obeys, after, judge_items, check_tree}
use Rattle.tree.specs.Steps.{start_walk, seen_by, Sound, passed, step_by}
use Rattle.tree.specs.declared.walk.Walk.{Walk}
use Rattle.tree.proofs.Walks.{none_taken, one_taken}
use Rattle.tree.proofs.PassedFrames.{passes}

items_skip : (s : List ℕ) (j : ℕ) → items_from s j ≡ items_from (drop j s) 0
unfolding items_from
items_skip [] zero = refl
items_skip [] (suc j) = refl
items_skip (a ∷ s) zero = refl
items_skip (a ∷ s) (suc j) = items_skip s j

drop_less : (a : ℕ) (s : List ℕ) (n : ℕ) → 0 < n → drop (n - 1) s ≡ drop n (a ∷ s)
drop_less a s zero h = absurd (omega arith)
drop_less a s (suc n) h = let e : suc n - 1 ≡ n = omega arith in ap (λ (k : ℕ). drop k s) e

pub items_read : (s : List ℕ) (f : Frame) (n : ℕ) → read_first s ≡ read f n → items s ≡ whole f ∷ items (drop n s)
unfolding items items_from
items_read [] f n e = absurd (let h = read_within [] f n e in omega arith)
items_read (a ∷ s) f n e =
    let h = read_within (a ∷ s) f n e in
    let k : items_from s (n - 1) ≡ items_from (drop n (a ∷ s)) 0 = items_skip s (n - 1) ∙ ap (λ (l : List ℕ). items_from l 0) (drop_less a s n h.0) in
    rw e (ap (λ (l : List Item). whole f ∷ l) k)

pub items_broken : (s : List ℕ) → read_first s ≡ broken → items s ≡ torn ∷ []
unfolding items items_from read_first head_first
items_broken [] e = cc
items_broken (a ∷ s) e = rw e

pub items_none : items [] ≡ []
unfolding items items_from
items_none = refl

pub items_end : (s : List ℕ) (at : ℕ) → length s ≤ at → items (drop at s) ≡ []
items_end s at h = rw (drop_end s at h) items_none

-- the frames of bytes
pub frames_read : (s : List ℕ) (f : Frame) (n : ℕ) → read_first s ≡ read f n → frames_of s ≡ f ∷ frames_of (drop n s)
unfolding frames_of frames_in
frames_read s f n e = ap frames_in (items_read s f n e)

pub frames_end : (s : List ℕ) (at : ℕ) → length s ≤ at → frames_of (drop at s) ≡ []
unfolding frames_of frames_in
frames_end s at h = ap frames_in (items_end s at h)

-- a frame that obeys, one that does not, and bytes that are none
module _ (seen : Seen) (n : ℕ) (s : List ℕ) where
  pub judge_on : (f : Frame) (k : ℕ) → read_first s ≡ read f k → obeys seen f ≡ true → judge_items seen n (items s) ≡ judge_items (after seen f) (n + 1) (items (drop k s))
  unfolding judge_items
  judge_on f k e o = rw (items_read s f k e, o)

  pub judge_stop : (f : Frame) (k : ℕ) → read_first s ≡ read f k → obeys seen f ≡ false → judge_items seen n (items s) ≡ Err (record { number = n })
  unfolding judge_items
  judge_stop f k e o = rw (items_read s f k e, o)

  pub judge_torn : read_first s ≡ broken → judge_items seen n (items s) ≡ Err (record { number = n })
  unfolding judge_items
  judge_torn e = rw (items_broken s e)

pub judge_none : (seen : Seen) (n : ℕ) → judge_items seen n [] ≡ Ok tt
unfolding judge_items
judge_none seen n = refl

-- a walk on its way: what is left is judged as the whole image is
pub record OnWay (image : List ℕ) (walk : Walk) (n : ℕ) : Type 0 where
  pub sound : Sound walk
  pub within : walk.at ≤ length image
  pub count : n ≤ walk.at
  pub same : judge_items (seen_by image walk) n (items (drop walk.at image)) ≡ judge_items start 0 (items image)

module _ (image : List ℕ) (walk : Walk) (n : ℕ) (way : OnWay image walk n) where
  -- a turn
  pub goes_on_lem : (x : Read) → read_first (drop walk.at image) ≡ x → (next : Walk) → Some next ≡ step_by (seen_by image walk) walk x → (walk.at < next.at) × OnWay image next (n + 1)
  unfolding step_by
  goes_on_lem (read f k) e next s =
      let t = one_taken (obeys (seen_by image walk) f) (passed walk f k) next s in
      let obeyed = t.0 in
      let is = t.1 in
      let p = passes image walk way.sound f k e obeyed in
      let h = read_within (drop walk.at image) f k e in
      let l = length-drop walk.at image in
      let w = way.within in
      let c = way.count in
      let place : next.at ≡ walk.at + k = rw is p.place in
      let more : walk.at < next.at = omega arith in
      let rest : items (drop k (drop walk.at image)) ≡ items (drop next.at image) = ap items (drop-drop k walk.at image ∙ ap (λ (m : ℕ). drop m image) (sym place)) in
      let on = judge_on (seen_by image walk) n (drop walk.at image) f k e obeyed in
      let seen : seen_by image next ≡ after (seen_by image walk) f = rw is p.seen in (
        more,
        record {
          sound = rw is p.sound;
          within = omega arith;
          count = omega arith;
          same = rw (seen, ← rest) (sym on ∙ way.same);
        },
      )
  goes_on_lem broken e next s = absurd (let z : ◌≡◌ {A = ℕ} 0 1 = cc in omega arith)
  goes_on_lem ended e next s = absurd (let z : ◌≡◌ {A = ℕ} 0 1 = cc in omega arith)

  -- the frame that breaks a rule
  pub stops : (x : Read) → read_first (drop walk.at image) ≡ x → None ≡ step_by (seen_by image walk) walk x → walk.at < length image
      → Err (record { number = n }) ≡ judge_items start 0 (items image)
  unfolding step_by
  stops (read f k) e s h = sym (judge_stop (seen_by image walk) n (drop walk.at image) f k e (none_taken (obeys (seen_by image walk) f) (passed walk f k) s)) ∙ way.same
  stops broken e s h = sym (judge_torn (seen_by image walk) n (drop walk.at image) e) ∙ way.same
  stops ended e s h = absurd (let k = length-drop walk.at image in let z = ap length (read_ended (drop walk.at image) e) in omega arith)

-- the start, the end and the byte limit
pub sets_out : (image : List ℕ) (walk : Walk) → walk ≡ start_walk → OnWay image walk 0
unfolding seen_by
sets_out image walk e =
    rw e (record { sound = record { deep = omega arith; names = refl }; within = omega arith; count = omega arith; same = refl })

pub arrives : (image : List ℕ) (walk : Walk) (n : ℕ) → OnWay image walk n → length image ≤ walk.at → Ok tt ≡ judge_items start 0 (items image)
arrives image walk n way h = sym (judge_none (seen_by image walk) n) ∙ rw (← items_end image walk.at h) way.same

pub check_long : (image : List ℕ) → 32768 < length image → Err (record { number = 0 }) ≡ check_tree image
unfolding check_tree
check_long image h = rw (lt-ltb 32768 (length image))

pub check_judged : (image : List ℕ) → length image ≤ 32768 → judge_items start 0 (items image) ≡ check_tree image
unfolding check_tree
check_judged image h = rw (le-ltb 32768 (length image))
