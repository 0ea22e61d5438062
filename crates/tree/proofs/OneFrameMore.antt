-- Laws of one frame more: how the tests decide, and what is left.
use Rattle.std.specs.Prelude.{Option, Some, None}
use Prim.Native.Nat.{ℕ, ◌+◌, ◌<◌, ◌≤◌}
use mathlib.Core.Path.{◌≡◌, refl, sym, ap, ◌∙◌}
use mathlib.Core.Bool.{true, false}
use mathlib.Core.List.{List, map}
use native.Mathlib.Omega.{arith}
use lib.Dec.{leb}
use lib.ListN.{length, length-map}
use borrow.Author.Tests.{le-leb, lt-leb, leb-true, eq-eqb, ne_eqb}
use Rattle.buffer.specs.Write.{over_at}
use Rattle.buffer.proofs.Choices.{true_is_not_false}
use Rattle.image.specs.Reading.{Read, read, broken, ended, read_first}
use Rattle.image.proofs.Fields.{both_first, both_second}
use Rattle.tree.specs.Rules.{Seen}
use Rattle.tree.specs.Steps.{Sound, seen_by, step_if, step_by}
use Rattle.tree.specs.declared.walk.Walk.{Walk}
use Rattle.tree.proofs.Walks.{passed_at, none_taken, one_taken}
use Rattle.tree.specs.Growth.{fills, one_frame, has_room, obeys_by, admits, passed_by, Grows}

-- how the tests for room decide, in the order of the code
module _ (walk : Walk) (size room : ℕ) where
  pub too_deep : 8 < walk.deep → false ≡ has_room walk size room
  unfolding has_room
  too_deep h = rw (lt-leb walk.deep 8)

  pub too_large : walk.deep ≤ 8 → 32768 < walk.at + size → false ≡ has_room walk size room
  unfolding has_room
  too_large h k = rw (le-leb walk.deep 8, lt-leb (walk.at + size) 32768)

  pub room_decides : walk.deep ≤ 8 → walk.at + size ≤ 32768 → leb (walk.at + size) room ≡ has_room walk size room
  unfolding has_room
  room_decides h k = rw (le-leb walk.deep 8, le-leb (walk.at + size) 32768)

-- what room tells
pub record Roomy (walk : Walk) (size room : ℕ) : Type 0 where
  pub deep : walk.deep ≤ 8
  pub short : walk.at + size ≤ 32768
  pub fits : walk.at + size ≤ room

pub room_told : (walk : Walk) (size room : ℕ) → has_room walk size room ≡ true → Roomy walk size room
unfolding has_room
room_told walk size room e =
    let k = both_second (leb walk.deep 8) _ e in
    record {
      deep = leb-true _ _ (both_first (leb walk.deep 8) _ e);
      short = leb-true _ _ (both_first (leb (walk.at + size) 32768) _ k);
      fits = leb-true _ _ (both_second (leb (walk.at + size) 32768) _ k);
    }

-- the array of a walk, as the checker tells its length
pub walk_sound : (walk : Walk) → length (map (λ (x : ℕ). x) walk.names) ≡ 8 → walk.deep ≤ 8 → Sound walk
walk_sound walk h k = record { deep = k; names = sym (length-map walk.names (λ (x : ℕ). x)) ∙ h }

-- a step over what was read: its answer, and where it ends
module _ (seen : Seen) (walk : Walk) where
  step_told : (x : Read) → step_by seen walk x ≡ step_if (obeys_by seen x) (passed_by walk x)
  unfolding step_by
  step_told (read f n) = refl
  step_told broken = refl
  step_told ended = refl

  ends : (x : Read) (size : ℕ) → obeys_by seen x ≡ true → (passed_by walk x).at ≡ walk.at + size → fills size x ≡ true
  ends (read f n) size o e = let k = passed_at walk f n in eq-eqb n size (omega arith)
  ends broken size o e = absurd (true_is_not_false (sym o))
  ends ended size o e = absurd (true_is_not_false (sym o))

  ends_not : (x : Read) (size : ℕ) → ((passed_by walk x).at ≡ walk.at + size → ⊥) → fills size x ≡ false
  ends_not (read f n) size e = let k = passed_at walk f n in ne_eqb n size (λ q. e (omega arith))
  ends_not broken size e = refl
  ends_not ended size e = refl

-- the answers of the code
module _ (walk : Walk) (frame buffer : List ℕ) where
  refuses : admits walk frame buffer ≡ false → Grows walk frame buffer None buffer
  refuses e = record { answer = rw e; bytes = rw e }

  pub refused_room : has_room walk (length frame) (length buffer) ≡ false → Grows walk frame buffer None buffer
  unfolding admits
  refused_room e = refuses (rw e)

  module _ (room : has_room walk (length frame) (length buffer) ≡ true) where
    pub refused_rule : None ≡ step_by (seen_by buffer walk) walk (read_first frame) → Grows walk frame buffer None buffer
    unfolding admits
    refused_rule s =
        let o = none_taken (obeys_by (seen_by buffer walk) (read_first frame)) _ (s ∙ step_told (seen_by buffer walk) walk (read_first frame)) in
        refuses (rw (room, o))

    module _ (next : Walk) (s : Some next ≡ step_by (seen_by buffer walk) walk (read_first frame)) where
      taken : (obeys_by (seen_by buffer walk) (read_first frame) ≡ true) × (next ≡ passed_by walk (read_first frame))
      taken = one_taken _ _ next (s ∙ step_told (seen_by buffer walk) walk (read_first frame))

      pub refused_end : (next.at ≡ walk.at + length frame → ⊥) → Grows walk frame buffer None buffer
      unfolding admits one_frame
      refused_end e =
          refuses (rw (room, taken.0, ends_not (seen_by buffer walk) walk (read_first frame) (length frame) (λ q. e (ap (λ (x : Walk). x.at) taken.1 ∙ q))))

      pub added : next.at ≡ walk.at + length frame → (left : List ℕ) → left ≡ over_at frame buffer walk.at → Grows walk frame buffer (Some next) left
      unfolding admits one_frame
      added e left w =
          let full = ends (seen_by buffer walk) walk (read_first frame) (length frame) taken.0 (sym (ap (λ (x : Walk). x.at) taken.1) ∙ e) in
          let yes-all : admits walk frame buffer ≡ true = rw (room, taken.0, full) in
          record { answer = ap Some taken.1 ∙ rw yes-all; bytes = w ∙ rw yes-all }

-- no second answer
pub one_answer : (walk : Walk) (frame buffer left other : List ℕ) (r q : Option Walk) → Grows walk frame buffer r left → Grows walk frame buffer q other → (r ≡ q) × (left ≡ other)
one_answer walk frame buffer left other r q a b = (a.answer ∙ sym b.answer, a.bytes ∙ sym b.bytes)
