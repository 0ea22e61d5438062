-- Laws of the subtree as a part of an image, as the code finds it.
use Rattle.std.specs.Prelude.{Some, None, Option}
use Prim.Native.Nat.{ℕ, ◌+◌, ◌≤◌}
use mathlib.Core.Path.{◌≡◌}
use mathlib.Core.List.{List, [], ◌∷◌}
use native.Mathlib.Omega.{arith}
use lib.ListN.{length, drop, length-drop}
use types.Run.{OneOf, miss}
use denote.Enum.Declared.{tag_of}
use Rattle.image.specs.contracts.head.Head.{the_type}
use Rattle.image.specs.Reading.{head_first, read_first, node_in, option_in, flag_in}
use Rattle.image.specs.declared.head.Lengths.{Lengths}
use Rattle.image.specs.declared.head.Head.{Head}
use Rattle.image.specs.declared.head.Head.TheVariants.{Node as NodeHead, Option as OptionHead, Flag as FlagHead, Bad, End}
use Rattle.image.proofs.Encoding.{read_within}
use Rattle.lookup.specs.Spots.{spot}
use Rattle.lookup.specs.Searches.{wanted, ended_by}
use Rattle.lookup.specs.Nodes.{or_end, subtree_end, find_node}
use Rattle.lookup.specs.declared.look.Sought.TheVariants.{Node, Upper}

module _ (image : List ℕ) (start depth : ℕ) where
  pub end_none : (head : Head) → head ≡ head_first (drop start image) → OneOf (1 ∷ 2 ∷ 3 ∷ 4 ∷ []) (tag_of the_type head) → length image ≡ subtree_end image start depth
  unfolding subtree_end read_first option_in flag_in
  end_none (NodeHead d h t) e k = absurd (miss (1 ∷ 2 ∷ 3 ∷ 4 ∷ []) 0 tt k)
  end_none (OptionHead q c t) e k = rw (← e)
  end_none (FlagHead c t) e k = rw (← e)
  end_none Bad e k = rw (← e)
  end_none End e k = rw (← e)

  module _ (d h : ℕ) (t : Lengths) (e : NodeHead d h t ≡ head_first (drop start image)) where
    pub node_fits : start + t.size ≤ length image
    unfolding read_first
    node_fits = let w = read_within (drop start image) (node_in (drop start image) d h t) t.size (rw (← e)) in let l = length-drop start image in omega arith

    pub end_by_lem : (x : Option ℕ) → x ≡ spot (wanted (Upper depth) []) (ended_by (Upper depth)) image (start + t.size) → or_end image x ≡ subtree_end image start depth
    unfolding subtree_end read_first node_in
    end_by_lem x q = rw (← e, q)

module _ (image : List ℕ) (depth : ℕ) (name : List ℕ) (x : Option ℕ) (e : x ≡ spot (wanted (Node depth) name) (ended_by (Node depth)) image 0) where
  pub find_none : x ≡ None → None ≡ find_node image depth name
  unfolding find_node
  find_none k = rw (← e, k)

  pub find_some : (start end : ℕ) → x ≡ Some start → end ≡ subtree_end image start depth → Some (record { start = start; end = end }) ≡ find_node image depth name
  unfolding find_node
  find_some start end k q = rw (← e, k, q)
