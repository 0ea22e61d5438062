-- Laws of heads: how the code's numbers are those of the definitions.
use Rattle.std.specs.Prelude.{Option as Maybe, Some, None}
use Prim.Native.Nat.{ℕ, ◌+◌, ◌*◌, ◌<◌, ◌≤◌}
use mathlib.Core.Path.{◌≡◌, sym}
use mathlib.Core.Bool.{Bool, true, false, cond}
use mathlib.Core.List.{List}
use native.Mathlib.Omega.{arith}
use lib.Dec.{eqb}
use lib.ListN.{length, get_or}
use borrow.Author.Tests.{le-leb, lt-leb, eq-eqb, ne_eqb}
use Rattle.buffer.proofs.Choices.{then_is, else_is}
use Rattle.image.specs.Reading.{other_of, span, node_lengths, definition_lengths, node_first, option_first, flag_first, head_first}
use Rattle.image.specs.declared.head.Lengths.{Lengths}
use Rattle.image.specs.declared.head.Head.TheVariants.{Node, Option, Flag, Bad, End}

pub span_none : (n : ℕ) → n ≡ 0xff → 0 ≡ span (other_of n)
unfolding span
span_none n h = rw h

pub span_some : (n : ℕ) → (n ≡ 0xff → ⊥) → n ≡ span (other_of n)
unfolding span
span_some n h = rw (ne_eqb n 0xff h)

pub span_least : (n : ℕ) → span (other_of n) ≤ n
unfolding span
span_least n = by (eqb n 0xff)
  where
    by : (t : Bool) → span (cond t None (Some n)) ≤ n
    by true = omega arith
    by false = omega arith

-- lengths found one after the other
pub node_lengths_are : (s : List ℕ) (a b c l : ℕ) (o : Maybe ℕ) → a ≡ get_or s 4 0 → b ≡ get_or s (5 + a) 0 → c ≡ get_or s (6 + a + b) 0 → o ≡ other_of c → l ≡ span o
    → record { name = a; description = b; other = o; size = 7 + a + b + l } ≡ node_lengths s
unfolding node_lengths
node_lengths_are s a b c l o ha hb hc ho hl = rw (hl, ho, hc, hb, ha)

pub definition_lengths_are : (p : ℕ) (s : List ℕ) (a b c l : ℕ) (o : Maybe ℕ) → a ≡ get_or s p 0 → c ≡ get_or s (p + 1 + a) 0 → o ≡ other_of c → l ≡ span o → b ≡ get_or s (p + 2 + a + l) 0
    → record { name = a; description = b; other = o; size = p + 3 + a + l + b } ≡ definition_lengths p s
unfolding definition_lengths
definition_lengths_are p s a b c l o ha hc ho hl hb = rw (hb, hl, ho, hc, ha)

-- a frame that runs past the end, and one that is there
module _ (s : List ℕ) (t : Lengths) where
  module _ (e : t ≡ node_lengths s) where
    pub node_cut : length s < t.size → Bad ≡ node_first s
    unfolding node_first
    node_cut h = rw (← e) (sym (else_is _ _ _ (lt-leb _ _ h)))

    pub node_whole : (d h l : ℕ) → t.size ≤ length s → d ≡ get_or s 1 0 → h ≡ get_or s 2 0 → l ≡ get_or s 3 0 → Node d (h * 256 + l) t ≡ node_first s
    unfolding node_first
    node_whole d h l k hd hh hl = rw (← e, ← hd, ← hh, ← hl) (sym (then_is _ _ _ (le-leb _ _ k)))

  module _ (e : t ≡ definition_lengths 3 s) where
    pub option_cut : length s < t.size → Bad ≡ option_first s
    unfolding option_first
    option_cut h = rw (← e) (sym (else_is _ _ _ (lt-leb _ _ h)))

    pub option_whole : (r c : ℕ) → t.size ≤ length s → r ≡ get_or s 1 0 → c ≡ get_or s 2 0 → Option r c t ≡ option_first s
    unfolding option_first
    option_whole r c k hr hc = rw (← e, ← hr, ← hc) (sym (then_is _ _ _ (le-leb _ _ k)))

  module _ (e : t ≡ definition_lengths 2 s) where
    pub flag_cut : length s < t.size → Bad ≡ flag_first s
    unfolding flag_first
    flag_cut h = rw (← e) (sym (else_is _ _ _ (lt-leb _ _ h)))

    pub flag_whole : (c : ℕ) → t.size ≤ length s → c ≡ get_or s 1 0 → Flag c t ≡ flag_first s
    unfolding flag_first
    flag_whole c k hc = rw (← e, ← hc) (sym (then_is _ _ _ (le-leb _ _ k)))

-- how the kind decides
module _ (s : List ℕ) where
  pub head_end : length s ≡ 0 → End ≡ head_first s
  unfolding head_first
  head_end h = sym (then_is _ _ _ (eq-eqb _ _ h))

  module _ (some : length s ≡ 0 → ⊥) where
    pub head_node : get_or s 0 0 ≡ 1 → node_first s ≡ head_first s
    unfolding head_first
    head_node e = rw (ne_eqb _ _ some, e)

    pub head_option : get_or s 0 0 ≡ 2 → option_first s ≡ head_first s
    unfolding head_first
    head_option e = rw (ne_eqb _ _ some, e)

    pub head_flag : get_or s 0 0 ≡ 3 → flag_first s ≡ head_first s
    unfolding head_first
    head_flag e = rw (ne_eqb _ _ some, e)

    pub head_bad : (get_or s 0 0 ≡ 1 → ⊥) → (get_or s 0 0 ≡ 2 → ⊥) → (get_or s 0 0 ≡ 3 → ⊥) → Bad ≡ head_first s
    unfolding head_first
    head_bad a b c = rw (ne_eqb _ _ some, ne_eqb _ _ a, ne_eqb _ _ b, ne_eqb _ _ c)
