-- Laws of a writer that also measures: texts one after the other, and a text with room or with none.
use Rattle.std.specs.Prelude.{Ok, Err, Result}
use Prim.Native.Nat.{ℕ, ◌+◌, ◌<◌, ◌≤◌}
use mathlib.Core.Path.{◌≡◌, refl, sym, ap, ◌∙◌}
use mathlib.Core.Bool.{Bool, true, false, cond}
use mathlib.Core.List.{List, [], ◌++◌}
use native.Mathlib.Omega.{arith}
use lib.ListN.{length, length-append}
use borrow.Author.Tests.{lt-ltb, le-ltb}
use Rattle.buffer.specs.Write.{over_if_fits, over_at, Pushed}
use Rattle.buffer.proofs.Lending.{over_at_both, over_at_nothing, over_at_front, length_over_at}
use Rattle.buffer.specs.Inks.{Inked, Countable}
use Rattle.buffer.specs.Showing.{show_answer, Showing}
use Rattle.buffer.specs.declared.show.TooShort.{TooShort}

-- nothing, a text that fits, and one that does not
pub inked_none : (out : List ℕ) (at : ℕ) → Inked [] out at at out
inked_none out at = record { place = omega arith; size = refl; bytes = λ h. sym (over_at_nothing out at) }

pub inked_fits : (text out : List ℕ) (at r : ℕ) (left : List ℕ) → at + length text ≤ length out → Pushed text out at r left → Inked text out at r left
inked_fits text out at r left h p =
    record { place = p.place; size = ap length p.bytes ∙ length_over_at text out at h; bytes = λ k. p.bytes }

pub inked_not : (text out : List ℕ) (at : ℕ) → length out < at + length text → Inked text out at (at + length text) out
inked_not text out at h = record { place = refl; size = refl; bytes = λ k. absurd (omega arith) }

-- the same text under another name
pub counts_as : (x y : List ℕ) (at : ℕ) → x ≡ y → Countable x at → Countable y at
counts_as x y at e h = rw (← e) h

pub inked_as : (x y out : List ℕ) (at r : ℕ) (left : List ℕ) → x ≡ y → Inked x out at r left → Inked y out at r left
inked_as x y out at r left e a = rw (← e) a

pub inked_nothing : (x out : List ℕ) (at : ℕ) → [] ≡ x → Inked x out at at out
inked_nothing x out at e = inked_as [] x out at at out e (inked_none out at)

-- a text right after a text is both
pub inked_both : (x y out : List ℕ) (at p : ℕ) (mid : List ℕ) (r : ℕ) (left : List ℕ) → Inked x out at p mid → Inked y mid p r left → Inked (x ++ y) out at r left
inked_both x y out at p mid r left a b =
    let l = length-append x y in
    let k = a.place in
    let m = b.place in
    record {
      place = omega arith;
      size = b.size ∙ a.size;
      bytes = λ h. join (omega arith) (let s = a.size in omega arith);
    }
  where
    join : at + length x ≤ length out → p + length y ≤ length mid → left ≡ over_at (x ++ y) out at
    join h g = b.bytes g ∙ rw (a.bytes h, a.place) (over_at_both x y out at h)

-- the first of two texts can be counted, and the second after it
pub counts_first : (x y : List ℕ) (at : ℕ) → Countable (x ++ y) at → Countable x at
counts_first x y at h = let l = length-append x y in omega arith

pub counts_then : (x y out : List ℕ) (at p : ℕ) (mid : List ℕ) → Countable (x ++ y) at → Inked x out at p mid → Countable y p
counts_then x y out at p mid h a = let l = length-append x y in let k = a.place in omega arith

-- three texts in a row
module _ (x y z : List ℕ) (at : ℕ) (h : Countable (x ++ y ++ z) at) where
  pub counts_1 : Countable x at
  counts_1 = counts_first x y at (counts_first (x ++ y) z at h)

  pub counts_2 : (out : List ℕ) (p : ℕ) (mid : List ℕ) → Inked x out at p mid → Countable y p
  counts_2 out p mid a = counts_then x y out at p mid (counts_first (x ++ y) z at h) a

  pub counts_3 : (out : List ℕ) (p : ℕ) (mid : List ℕ) (q : ℕ) (next : List ℕ) → Inked x out at p mid → Inked y mid p q next → Countable z q
  counts_3 out p mid q next a b = counts_then (x ++ y) z out at q next h (inked_both x y out at p mid q next a b)

pub inked_three : (x y z out : List ℕ) (at p : ℕ) (mid : List ℕ) (q : ℕ) (next : List ℕ) (r : ℕ) (left : List ℕ)
    → Inked x out at p mid → Inked y mid p q next → Inked z next q r left → Inked (x ++ y ++ z) out at r left
inked_three x y z out at p mid q next r left a b c = inked_both (x ++ y) z out at q next r left (inked_both x y out at p mid q next a b) c

-- a text shown at the front, and one that lacks room
module _ (text out : List ℕ) (n : ℕ) (e : n ≡ length text) where
  pub shown : (r : ℕ) (left : List ℕ) → n ≤ length out → Inked text out 0 r left → Showing text out (Ok r) left
  unfolding show_answer over_if_fits
  shown r left h a =
      let k = a.place in
      let m : r ≡ length text = omega arith in
      let t : length text ≤ length out = omega arith in
      record {
        answer = rw (le-ltb (length out) (length text) t, m);
        bytes = rw (le-ltb (length out) (length text) t) (a.bytes (omega arith) ∙ over_at_front text out);
      }

  pub no_room : length out < n → Showing text out (Err (record { needed = n })) out
  unfolding show_answer over_if_fits
  no_room h =
      let t : length out < length text = omega arith in
      record { answer = rw (lt-ltb (length out) (length text) t, e); bytes = rw (lt-ltb (length out) (length text) t) }

-- no second answer satisfies the contract
pub one_answer : (text out left other : List ℕ) (r q : Result ℕ TooShort) → Showing text out r left → Showing text out q other → (r ≡ q) × (left ≡ other)
one_answer text out left other r q a b = (a.answer ∙ sym b.answer, a.bytes ∙ sym b.bytes)

-- a choice of two texts is as long as the longer
pub cond_most : (t : Bool) (x y : List ℕ) (n : ℕ) → length x ≤ n → length y ≤ n → length (cond t x y) ≤ n
cond_most true x y n h k = h
cond_most false x y n h k = k
