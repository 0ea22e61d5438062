-- Frames counted, and frames on their way into a buffer: what is still to come, and where it goes.
use Prim.Native.Nat.{ℕ, ◌+◌, ◌-◌, ◌≤◌}
use mathlib.Core.Path.{◌≡◌, refl, sym, ap, ◌∙◌}
use mathlib.Core.List.{List, [], ◌∷◌, ◌++◌, append-nil}
use native.Mathlib.Omega.{arith}
use lib.ListN.{length, take, drop, length-append}
use borrow.Rule.Slice.PartMut.{put_mid}
use Rattle.buffer.specs.Write.{over, over_at, Written, Pushed}
use Rattle.frame.specs.Series.{runs}
use Rattle.buffer.proofs.Lending.{length_over_at, over_at_front, over_at_both, over_at_nothing}
use Rattle.buffer.proofs.Writing.{front_pushed, rest_pushed, rest_room}

-- the frames of one thing more, and of no more
module _ {A : Type 0} (f : A → List ℕ) where
  pub runs_more : (l m : List A) (x : A) → l ≡ x ∷ m → runs f l ≡ f x ++ runs f m
  unfolding runs
  runs_more l m x e = ap (runs f) e

  pub runs_none : (l : List A) → l ≡ [] → runs f l ≡ []
  unfolding runs
  runs_none l e = ap (runs f) e

-- what is counted and what is still to come make up the whole: a turn, and the end
pub count_turn : (size n whole : ℕ) (rest x more : List ℕ) → rest ≡ x ++ more → n ≡ length x → size + length rest ≡ whole → size + n + length more ≡ whole
count_turn size n whole rest x more e k c = let l : length rest ≡ length x + length more = ap length e ∙ length-append x more in omega arith

pub count_end : (size whole : ℕ) (rest : List ℕ) → rest ≡ [] → size + length rest ≡ whole → size ≡ whole
count_end size whole rest e c = let l : length rest ≡ 0 = ap length e in omega arith

-- to write `rest` at the place `o` of `out` is to write `whole` at the front of `out₀`
pub record Ahead (whole out₀ rest : List ℕ) (o : ℕ) (out : List ℕ) : Type 0 where
  pub same : length out ≡ length out₀
  pub count : o + length rest ≡ length whole
  pub bytes : over_at rest out o ≡ over whole out₀

pub ahead_start : (whole rest out : List ℕ) → rest ≡ whole → Ahead whole out rest 0 out
ahead_start whole rest out e =
    let l : length rest ≡ length whole = ap length e in
    record { same = refl; count = omega arith; bytes = over_at_front rest out ∙ ap (λ (x : List ℕ). over x out) e }

-- the next thing to write, x, fits, and once it is written what is after it is ahead
module _ (whole out₀ rest x more : List ℕ) (o : ℕ) (out : List ℕ) (a : Ahead whole out₀ rest o out) (e : rest ≡ x ++ more)
    (fits : length whole ≤ length out₀) where
  sizes : o + (length x + length more) ≡ length whole
  sizes = ap (λ (n : ℕ). o + n) (sym (ap length e ∙ length-append x more)) ∙ a.count

  pub ahead_room : o + length x ≤ length out
  ahead_room = let s = sizes in let l = a.same in omega arith

  pub ahead_lent : length x ≤ length (take (length out - o) (drop o out))
  ahead_lent = rest_room x out o ahead_room

  pub ahead_push : (r : ℕ) (left : List ℕ) → Pushed x out o r left → Ahead whole out₀ more r left
  ahead_push r left p =
      record {
        same = ap length p.bytes ∙ length_over_at x out o ahead_room ∙ a.same;
        count = let s = sizes in let k = p.place in omega arith;
        bytes = rw (p.bytes, p.place) (over_at_both x more out o ahead_room) ∙ ap (λ (l : List ℕ). over_at l out o) (sym e) ∙ a.bytes;
      }

  pub ahead_turn : (n : ℕ) (left : List ℕ) → Written x (take (length out - o) (drop o out)) n left
      → Ahead whole out₀ more (o + n) (put_mid o (length out - o) out left)
  ahead_turn n left w =
      let r = ahead_room in
      ahead_push (o + n) (put_mid o (length out - o) out left) (rest_pushed x out left o n (omega arith) w)

pub ahead_end : (whole out₀ rest : List ℕ) (o : ℕ) (out : List ℕ) → Ahead whole out₀ rest o out → rest ≡ [] → Written whole out₀ o out
ahead_end whole out₀ rest o out a e =
    let l : length rest ≡ 0 = ap length e in
    record {
      count = let k = a.count in omega arith;
      bytes = sym (over_at_nothing out o) ∙ ap (λ (x : List ℕ). over_at x out o) (sym e) ∙ a.bytes;
    }

-- the first of several writes in a row, at the front, and the last, into the rest
module _ (whole out : List ℕ) (fits : length whole ≤ length out) where
  pub ahead_first : (x more : List ℕ) (r : ℕ) (left : List ℕ) → whole ≡ x ++ more → Written x out r left → Ahead whole out more r left
  ahead_first x more r left e w = ahead_push whole out whole x more 0 out (ahead_start whole whole out refl) e fits r left (front_pushed x out left r w)

  module _ (x : List ℕ) (o : ℕ) (mid : List ℕ) (a : Ahead whole out x o mid) where
    last_room : o + length x ≤ length mid
    last_room = ahead_room whole out x x [] o mid a (sym (append-nil x)) fits

    pub last_lent : length x ≤ length (take (length mid - o) (drop o mid))
    last_lent = rest_room x mid o last_room

    pub ahead_last : (n : ℕ) (left : List ℕ) → Written x (take (length mid - o) (drop o mid)) n left → Written whole out (o + n) (put_mid o (length mid - o) mid left)
    ahead_last n left w = ahead_end whole out [] _ _ (ahead_turn whole out x x [] o mid a (sym (append-nil x)) fits n left w) refl
