-- Laws of the limits of a frame's fields, as the code tests them.
use Rattle.std.specs.Prelude.{Option as Maybe, Some, None}
use Prim.Native.Nat.{ℕ, ◌<◌, ◌≤◌}
use mathlib.Core.Path.{◌≡◌, refl, sym}
use mathlib.Core.Bool.{Bool, true, false}
use mathlib.Core.List.{List}
use lib.ListN.{take}
use borrow.Author.Tests.{le-leb, lt-leb, lt-ltb}
use Rattle.image.specs.Limits.{both, is_name, is_note, is_short, optionally, definable, fair}
use Rattle.image.specs.Reading.{perhaps_in}
use Rattle.image.specs.Frames.{Perhaps, node}

-- two tests that hold together
pub both_first : (a b : Bool) → both a b ≡ true → a ≡ true
both_first true b e = refl
both_first false b e = e

pub both_second : (a b : Bool) → both a b ≡ true → b ≡ true
both_second true b e = e
both_second false b e = cc

pub both_true : (a b : Bool) → a ≡ true → b ≡ true → both a b ≡ true
both_true a b p q = rw (p, q)

pub both_false : (a : Bool) → both a false ≡ false
both_false true = refl
both_false false = refl

both_itself : (a : Bool) → both a true ≡ a
both_itself true = refl
both_itself false = refl

-- a test of a part that was lent, seen as a test of what the part holds
pub seen : (rule : List ℕ → Bool) (x y : List ℕ) (r t : Bool) → r ≡ rule x → x ≡ y → r ≡ t → rule y ≡ t
seen rule x y r t e p q = cc

-- a text that may be missing
module _ (rule : List ℕ → Bool) (s : List ℕ) where
  pub none_fair : (o : Maybe ℕ) → o ≡ None → true ≡ optionally rule (perhaps_in o s)
  unfolding perhaps_in
  none_fair o e = rw e

  pub some_fair : (o : Maybe ℕ) (n : ℕ) → o ≡ Some n → rule (take n s) ≡ optionally rule (perhaps_in o s)
  unfolding perhaps_in
  some_fair o n e = rw e

-- how a node's fields decide, in the order of the code
module _ (d h : ℕ) (n ds : List ℕ) (u : Perhaps) (k : h < 65536) where
  pub node_deep : 7 < d → false ≡ fair (node d h n ds u)
  unfolding fair
  node_deep e = rw (lt-ltb h 65536, lt-leb d 7)

  module _ (e : d ≤ 7) where
    pub node_unnamed : is_name n ≡ false → false ≡ fair (node d h n ds u)
    unfolding fair
    node_unnamed a = rw (lt-ltb h 65536, le-leb d 7, a)

    pub node_undescribed : is_name n ≡ true → is_note ds ≡ false → false ≡ fair (node d h n ds u)
    unfolding fair
    node_undescribed a b = rw (lt-ltb h 65536, le-leb d 7, a, b)

    pub node_by : is_name n ≡ true → is_note ds ≡ true → optionally is_note u ≡ fair (node d h n ds u)
    unfolding fair
    node_by a b = rw (lt-ltb h 65536, le-leb d 7, a, b)

-- the same for what options and flags have in common
module _ (c : ℕ) (n : List ℕ) (l : Perhaps) (ds : List ℕ) where
  pub short_bad : is_short c ≡ false → false ≡ definable c n l ds
  unfolding definable
  short_bad a = rw a

  pub name_bad : is_short c ≡ true → is_name n ≡ false → false ≡ definable c n l ds
  unfolding definable
  name_bad a b = rw (a, b)

  pub note_bad : is_short c ≡ true → is_name n ≡ true → is_note ds ≡ false → false ≡ definable c n l ds
  unfolding definable
  note_bad a b d = rw (a, b, d) (sym (both_false (optionally is_name l)))

  pub definable_by : is_short c ≡ true → is_name n ≡ true → is_note ds ≡ true → optionally is_name l ≡ definable c n l ds
  unfolding definable
  definable_by a b d = rw (a, b, d) (sym (both_itself (optionally is_name l)))
