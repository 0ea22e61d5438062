-- What an answer tells: the bytes that a head was read from.
use Prim.Native.Nat.{ℕ, ◌+◌, ◌*◌, ◌<◌, ◌≤◌}
use mathlib.Core.Path.{◌≡◌, refl, ◌∙◌}
use mathlib.Core.Bool.{Bool, true, false, cond}
use mathlib.Core.Logic.{◌⊎◌, inl, inr, ⊎_elim}
use mathlib.Core.List.{List}
use native.Mathlib.Omega.{arith}
use lib.Dec.{leb, eqb}
use lib.ListN.{length, get_or}
use borrow.Author.Tests.{leb-true, eqb-true, le-leb, lt-leb}
use Rattle.buffer.specs.Numbers.{Bytes}
use Rattle.image.specs.Limits.{fair}
use Rattle.image.specs.Reading.{other_of, span, strictly, Small, node_lengths, definition_lengths, node_first, option_first, flag_first, head_first, strict_first, node_in, option_in, flag_in}
use Rattle.image.specs.Inner.{defined_in}
use Rattle.image.proofs.Heads.{span_least}
use Rattle.image.specs.declared.head.Lengths.{Lengths}
use Rattle.image.specs.declared.head.Head.{Head}
use Rattle.image.specs.declared.head.Head.TheVariants.{Node, Option, Flag, Bad, End}

pub record NodeSeen (s : List ℕ) (d h : ℕ) (t : Lengths) : Type 0 where
  pub kind : get_or s 0 0 ≡ 1
  pub depth : d ≡ get_or s 1 0
  pub handler : h ≡ get_or s 2 0 * 256 + get_or s 3 0
  pub texts : t ≡ node_lengths s
  pub fits : t.size ≤ length s

pub record OptionSeen (s : List ℕ) (r c : ℕ) (t : Lengths) : Type 0 where
  pub kind : get_or s 0 0 ≡ 2
  pub required : r ≡ get_or s 1 0
  pub short : c ≡ get_or s 2 0
  pub texts : t ≡ definition_lengths 3 s
  pub fits : t.size ≤ length s

pub record FlagSeen (s : List ℕ) (c : ℕ) (t : Lengths) : Type 0 where
  pub kind : get_or s 0 0 ≡ 3
  pub short : c ≡ get_or s 1 0
  pub texts : t ≡ definition_lengths 2 s
  pub fits : t.size ≤ length s

abbrev pub ViewOf : List ℕ → Head → Type 0
ViewOf s (Node d h t) = NodeSeen s d h t
ViewOf s (Option r c t) = OptionSeen s r c t
ViewOf s (Flag c t) = FlagSeen s c t
ViewOf s Bad = Unit
ViewOf s End = length s ≡ 0

node_view : (s : List ℕ) → get_or s 0 0 ≡ 1 → ViewOf s (node_first s)
unfolding node_first
node_view s e = by (leb (node_lengths s).size (length s)) refl
  where
    by : (t : Bool) → leb (node_lengths s).size (length s) ≡ t → ViewOf s (cond t (Node (get_or s 1 0) (get_or s 2 0 * 256 + get_or s 3 0) (node_lengths s)) Bad)
    by true q = record { kind = e; depth = refl; handler = refl; texts = refl; fits = leb-true _ _ q }
    by false q = tt

option_view : (s : List ℕ) → get_or s 0 0 ≡ 2 → ViewOf s (option_first s)
unfolding option_first
option_view s e = by (leb (definition_lengths 3 s).size (length s)) refl
  where
    by : (t : Bool) → leb (definition_lengths 3 s).size (length s) ≡ t → ViewOf s (cond t (Option (get_or s 1 0) (get_or s 2 0) (definition_lengths 3 s)) Bad)
    by true q = record { kind = e; required = refl; short = refl; texts = refl; fits = leb-true _ _ q }
    by false q = tt

flag_view : (s : List ℕ) → get_or s 0 0 ≡ 3 → ViewOf s (flag_first s)
unfolding flag_first
flag_view s e = by (leb (definition_lengths 2 s).size (length s)) refl
  where
    by : (t : Bool) → leb (definition_lengths 2 s).size (length s) ≡ t → ViewOf s (cond t (Flag (get_or s 1 0) (definition_lengths 2 s)) Bad)
    by true q = record { kind = e; short = refl; texts = refl; fits = leb-true _ _ q }
    by false q = tt

pub head_view : (s : List ℕ) → ViewOf s (head_first s)
unfolding head_first
head_view s = by (eqb (length s) 0) refl (eqb (get_or s 0 0) 1) refl (eqb (get_or s 0 0) 2) refl (eqb (get_or s 0 0) 3) refl
  where
    by : (t : Bool) → eqb (length s) 0 ≡ t → (u : Bool) → eqb (get_or s 0 0) 1 ≡ u → (v : Bool) → eqb (get_or s 0 0) 2 ≡ v → (w : Bool) → eqb (get_or s 0 0) 3 ≡ w
        → ViewOf s (cond t End (cond u (node_first s) (cond v (option_first s) (cond w (flag_first s) Bad))))
    by true p u a v b w c = eqb-true _ _ p
    by false p true a v b w c = node_view s (eqb-true _ _ a)
    by false p false a true b w c = option_view s (eqb-true _ _ b)
    by false p false a false b true c = flag_view s (eqb-true _ _ c)
    by false p false a false b false c = tt

-- the view of an answer that is known
pub view : (s : List ℕ) (head : Head) → head_first s ≡ head → ViewOf s head
view s head e = rw e at (head_view s)

-- lengths that were read from bytes
small_other : (n : ℕ) → n < 256 → span (other_of n) < 256
small_other n h = let k = span_least n in omega arith

pub node_small : (s : List ℕ) (t : Lengths) → Bytes s → t ≡ node_lengths s → Small t
unfolding node_lengths Bytes
node_small s t b e = rw e (record { name = b _; description = b _; other = small_other _ (b _) })

pub definition_small : (p : ℕ) (s : List ℕ) (t : Lengths) → Bytes s → t ≡ definition_lengths p s → Small t
unfolding definition_lengths Bytes
definition_small p s t b e = rw e (record { name = b _; description = b _; other = small_other _ (b _) })

-- how the limits decide
module _ (s : List ℕ) where
  module _ (d h : ℕ) (t : Lengths) (e : head_first s ≡ Node d h t) where
    pub node_bytes : Bytes s → h < 65536
    unfolding Bytes
    node_bytes b = let v = view s (Node d h t) e in let k = b 2 in let l = b 3 in omega (arith, v.handler)

    pub node_strict : (r : Bool) → r ≡ fair (node_in s d h t) → strict_first s ≡ cond r (Node d h t) Bad
    unfolding strict_first
    node_strict r k = rw (e, k)

  module _ (r c : ℕ) (t : Lengths) (e : head_first s ≡ Option r c t) where
    pub option_refused : 1 < r → Bad ≡ strict_first s
    unfolding strict_first option_in fair
    option_refused h = rw (e, lt-leb r 1)

    pub option_strict : r ≤ 1 → (g : Bool) → g ≡ defined_in s 3 c t → strict_first s ≡ cond g (Option r c t) Bad
    unfolding strict_first option_in fair defined_in
    option_strict h g k = rw (e, le-leb r 1, k)

  module _ (c : ℕ) (t : Lengths) (e : head_first s ≡ Flag c t) where
    pub flag_strict : (g : Bool) → g ≡ defined_in s 2 c t → strict_first s ≡ cond g (Flag c t) Bad
    unfolding strict_first flag_in fair defined_in
    flag_strict g k = rw (e, k)

  pub rest_strict : (r : Head) → r ≡ head_first s → (r ≡ Bad) ⊎ (r ≡ End) → r ≡ strict_first s
  unfolding strict_first
  rest_strict r e (inl k) = rw (← e, k)
  rest_strict r e (inr k) = rw (← e, k)

-- a strict answer that is no refusal is the head itself
kept : (s : List ℕ) (x : Head) → (strictly s x ≡ x) ⊎ (strictly s x ≡ Bad)
kept s (Node d h t) = by (fair (node_in s d h t))
  where
    by : (g : Bool) → (cond g (Node d h t) Bad ≡ Node d h t) ⊎ (cond g (Node d h t) Bad ≡ Bad)
    by true = inl refl
    by false = inr refl
kept s (Option r c t) = by (fair (option_in s r c t))
  where
    by : (g : Bool) → (cond g (Option r c t) Bad ≡ Option r c t) ⊎ (cond g (Option r c t) Bad ≡ Bad)
    by true = inl refl
    by false = inr refl
kept s (Flag c t) = by (fair (flag_in s c t))
  where
    by : (g : Bool) → (cond g (Flag c t) Bad ≡ Flag c t) ⊎ (cond g (Flag c t) Bad ≡ Bad)
    by true = inl refl
    by false = inr refl
kept s Bad = inl refl
kept s End = inl refl

pub strict_head : (s : List ℕ) (head : Head) → head ≡ strict_first s → (head ≡ Bad → ⊥) → head ≡ head_first s
unfolding strict_first
strict_head s head e n = ⊎_elim (λ k. e ∙ k) (λ k. absurd (n (e ∙ k))) (kept s (head_first s))
