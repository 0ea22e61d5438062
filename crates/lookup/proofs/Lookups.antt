-- Lookups in an image are lookups in the forest that it stands for: a command, a child, a definition; no other command matters.
use Rattle.std.specs.Prelude.{Some, Option}
use Prim.Native.Nat.{ℕ, suc, ◌<◌}
use mathlib.Core.Path.{◌≡◌, refl, ap, ◌∙◌}
use mathlib.Core.Bool.{Bool, true, false, cond}
use mathlib.Core.List.{List, [], ◌∷◌, ◌++◌, append-nil}
use native.Mathlib.Omega.{arith}
use lib.ListN.{length}
use borrow.Author.Tests.{eq-eqb, ne_eqb, le-leb, lt-leb}
use Rattle.buffer.specs.Compare.{order, same_bytes}
use Rattle.image.specs.Frames.{Perhaps, Frame, node, option, flag, encode_frame}
use Rattle.image.specs.Limits.{both, fair}
use Rattle.image.proofs.Fields.{both_first, both_second, both_true}
use Rattle.tree.specs.Images.{flat}
use Rattle.tree.specs.Rules.{start, is_less}
use Rattle.tree.specs.Forest.{Forest, bare, grown, flatten, definitions_only, modest, orderly}
use Rattle.tree.proofs.WellFormedImages.{AllFit, obey_fit}
use Rattle.tree.proofs.Flattening.{forest_obeys}
use Rattle.tree.proofs.Forests.{StandsFor}
use Rattle.tree.specs.Subtrees.{up_to, on_from, rooted, subtree}
use Rattle.lookup.specs.Spots.{shifted, place_of, spot}
use Rattle.lookup.specs.Searches.{wanted, is_node}
use Rattle.lookup.specs.Nodes.{find_node}
use Rattle.lookup.specs.Subtrees.{tree_named, PartHolds}
use Rattle.lookup.specs.declared.look.Sought.TheVariants.{Node, Upper}
use Rattle.lookup.proofs.Subtrees.{find_holds, spot_after}

-- frames of which none passes a test
abbrev pub NoneOf : (Frame → Bool) → List Frame → Type 0
NoneOf test [] = Unit
NoneOf test (f ∷ l) = (test f ≡ false) × NoneOf test l

none_append : (test : Frame → Bool) (a b : List Frame) → NoneOf test a → NoneOf test b → NoneOf test (a ++ b)
none_append test [] b x y = y
none_append test (f ∷ a) b x y = (x.0, none_append test a b x.1 y)

pub on_skip : (test : Frame → Bool) (a b : List Frame) → NoneOf test a → on_from test (a ++ b) ≡ on_from test b
unfolding on_from
on_skip test [] b x = refl
on_skip test (f ∷ a) b x = rw x.0 (on_skip test a b x.1)

pub up_skip : (test : Frame → Bool) (a b : List Frame) → NoneOf test a → up_to test (a ++ b) ≡ a ++ up_to test b
unfolding up_to
up_skip test [] b x = refl
up_skip test (f ∷ a) b x = rw x.0 (ap (λ (m : List Frame). f ∷ m) (up_skip test a b x.1))

-- what the rules of a forest tell of one of its trees
record TreeRules (d h : ℕ) (n ds : List ℕ) (u : Perhaps) (defs : List Frame) (below after : Forest) : Type 0 where
  only : definitions_only defs ≡ true
  o_below : orderly [] (suc d) below ≡ true
  o_after : orderly n d after ≡ true

tree_rules : (before : List ℕ) (d h : ℕ) (n ds : List ℕ) (u : Perhaps) (defs : List Frame) (below after : Forest)
    → orderly before d (grown h n ds u defs below after) ≡ true → TreeRules d h n ds u defs below after
unfolding orderly
tree_rules before d h n ds u defs below after e =
    let e₂ = both_second (fair (node d h n ds u)) _ (both_second (is_less (order before n)) _ e) in
    let e₃ = both_second (modest defs) _ e₂ in
    record {
      only = both_first (definitions_only defs) _ (both_first (modest defs) _ e₂);
      o_below = both_first (orderly [] (suc d) below) _ e₃;
      o_after = both_second (orderly [] (suc d) below) _ e₃;
    }

-- a test that only nodes of depth d or less can pass
record Shallow (test : Frame → Bool) (d : ℕ) : Type 0 where
  nodes : (e h : ℕ) (n ds : List ℕ) (u : Perhaps) → d < e → test (node e h n ds u) ≡ false
  options : (r c : ℕ) (n : List ℕ) (x : Perhaps) (ds : List ℕ) → test (option r c n x ds) ≡ false
  flags : (c : ℕ) (n : List ℕ) (x : Perhaps) (ds : List ℕ) → test (flag c n x ds) ≡ false

none_definitions : (test : Frame → Bool) (d : ℕ) → Shallow test d → (defs : List Frame) → definitions_only defs ≡ true → NoneOf test defs
unfolding definitions_only
none_definitions test d s [] e = tt
none_definitions test d s (node b h n ds u ∷ l) e = absurd (let z : ◌≡◌ {A = ℕ} 0 1 = cc in omega arith)
none_definitions test d s (option r c n x ds ∷ l) e = (s.options r c n x ds, none_definitions test d s l (both_second (fair (option r c n x ds)) _ e))
none_definitions test d s (flag c n x ds ∷ l) e = (s.flags c n x ds, none_definitions test d s l (both_second (fair (flag c n x ds)) _ e))

none_below : (test : Frame → Bool) (d : ℕ) → Shallow test d → (f : Forest) (before : List ℕ) (e : ℕ) → d < e → orderly before e f ≡ true → NoneOf test (flatten e f)
unfolding flatten
none_below test d s bare before e l o = tt
none_below test d s (grown h n ds u defs below after) before e l o =
    let r = tree_rules before e h n ds u defs below after o in
    let a = none_below test d s below [] (suc e) (omega arith) r.o_below in
    let b = none_below test d s after n e l r.o_after in
    (s.nodes e h n ds u l, none_append test defs _ (none_definitions test d s defs r.only) (none_append test (flatten (suc e) below) _ a b))

shallow_node : (d : ℕ) (name : List ℕ) → Shallow (wanted (Node d) name) d
shallow_node d name =
    record {
      nodes = λ e h n ds u l. let k : e ≡ d → ⊥ = λ z. omega arith in rw (ne_eqb e d k);
      options = λ r c n x ds. refl;
      flags = λ c n x ds. refl;
    }

shallow_upper : (d : ℕ) → Shallow (wanted (Upper d) []) d
shallow_upper d =
    record {
      nodes = λ e h n ds u l. lt-leb e d l;
      options = λ r c n x ds. refl;
      flags = λ c n x ds. refl;
    }

-- siblings end the subtree before them
siblings_end : (d : ℕ) (f : Forest) → up_to (wanted (Upper d) []) (flatten d f) ≡ []
unfolding up_to flatten
siblings_end d bare = refl
siblings_end d (grown h n ds u defs below after) = rw (le-leb d d (omega arith))

module _ (d h : ℕ) (n ds : List ℕ) (u : Perhaps) (defs : List Frame) (below after : Forest) (r : TreeRules d h n ds u defs below after) where
  tree_frames : rooted d (flatten d (grown h n ds u defs below after)) ≡ flatten d (grown h n ds u defs below bare)
  unfolding flatten
  tree_frames =
      let s = shallow_upper d in
      let skip = up_skip (wanted (Upper d) []) defs (flatten (suc d) below ++ flatten d after) (none_definitions (wanted (Upper d) []) d s defs r.only) in
      let skip₂ = up_skip (wanted (Upper d) []) (flatten (suc d) below) (flatten d after) (none_below (wanted (Upper d) []) d s below [] (suc d) (omega arith) r.o_below) in
      ap (λ (m : List Frame). node d h n ds u ∷ m) (skip ∙ ap (λ (m : List Frame). defs ++ m) (skip₂ ∙ rw (siblings_end d after)))

  tree_skipped : (name : List ℕ) → on_from (wanted (Node d) name) (defs ++ (flatten (suc d) below ++ flatten d after)) ≡ on_from (wanted (Node d) name) (flatten d after)
  tree_skipped name =
      let s = shallow_node d name in
      on_skip (wanted (Node d) name) defs (flatten (suc d) below ++ flatten d after) (none_definitions (wanted (Node d) name) d s defs r.only)
      ∙ on_skip (wanted (Node d) name) (flatten (suc d) below) (flatten d after) (none_below (wanted (Node d) name) d s below [] (suc d) (omega arith) r.o_below)

  named_here : (name : List ℕ) → same_bytes n name ≡ true → subtree d name (flatten d (grown h n ds u defs below after)) ≡ flatten d (grown h n ds u defs below bare)
  unfolding subtree flatten on_from
  named_here name q = rw (eq-eqb d d refl, q) tree_frames

  named_later : (name : List ℕ) → same_bytes n name ≡ false → subtree d name (flatten d (grown h n ds u defs below after)) ≡ subtree d name (flatten d after)
  unfolding subtree flatten on_from
  named_later name q = rw (eq-eqb d d refl, q) (ap (rooted d) (tree_skipped name))

  -- in the part of a tree the nodes one deeper are its children
  not_itself : (name : List ℕ) → subtree (suc d) name (flatten d (grown h n ds u defs below bare)) ≡ subtree (suc d) name (flatten (suc d) below)
  unfolding subtree flatten on_from
  not_itself name =
      let k : d ≡ suc d → ⊥ = λ z. omega arith in
      let s = shallow_node (suc d) name in
      rw (ne_eqb d (suc d) k, append-nil (flatten (suc d) below))
      (ap (rooted (suc d)) (on_skip (wanted (Node (suc d)) name) defs (flatten (suc d) below) (none_definitions (wanted (Node (suc d)) name) (suc d) s defs r.only)))

subtree_none : (d : ℕ) (name : List ℕ) → subtree d name (flatten d bare) ≡ flatten d bare
unfolding subtree flatten on_from
subtree_none d name = refl

-- the subtree of a name among siblings is the tree of that name
pub subtree_named : (f : Forest) (before : List ℕ) (d : ℕ) (name : List ℕ) → orderly before d f ≡ true → subtree d name (flatten d f) ≡ flatten d (tree_named name f)
unfolding tree_named
subtree_named bare before d name o = subtree_none d name
subtree_named (grown h n ds u defs below after) before d name o =
    let r = tree_rules before d h n ds u defs below after o in
    by (same_bytes n name) refl r (subtree_named after n d name r.o_after)
  where
    by : (t : Bool) → same_bytes n name ≡ t → TreeRules d h n ds u defs below after → subtree d name (flatten d after) ≡ flatten d (tree_named name after)
        → subtree d name (flatten d (grown h n ds u defs below after)) ≡ flatten d (cond t (grown h n ds u defs below bare) (tree_named name after))
    by true q r more = named_here d h n ds u defs below after r name q
    by false q r more = named_later d h n ds u defs below after r name q ∙ more

-- the child of a node by name, in the part of the node's tree
pub child_named : (h : ℕ) (n ds : List ℕ) (u : Perhaps) (defs : List Frame) (below : Forest) (before : List ℕ) (d : ℕ) (name : List ℕ)
    → orderly before d (grown h n ds u defs below bare) ≡ true → subtree (suc d) name (flatten d (grown h n ds u defs below bare)) ≡ flatten (suc d) (tree_named name below)
child_named h n ds u defs below before d name o =
    let r = tree_rules before d h n ds u defs below bare o in
    not_itself d h n ds u defs below bare r name ∙ subtree_named below [] (suc d) name r.o_below

-- the tree of a name is orderly as the forest is
pub named_orderly : (f : Forest) (before : List ℕ) (d : ℕ) (name : List ℕ) → orderly before d f ≡ true → (m : List ℕ) × (orderly m d (tree_named name f) ≡ true)
unfolding tree_named orderly
named_orderly bare before d name o = (before, refl)
named_orderly (grown h n ds u defs below after) before d name o =
    by (same_bytes n name) (named_orderly after n d name (both_second (orderly [] (suc d) below) _ e₃))
  where
    e₁ : both (fair (node d h n ds u)) (both (modest defs) (both (orderly [] (suc d) below) (orderly n d after))) ≡ true
    e₁ = both_second (is_less (order before n)) _ o

    e₂ : both (modest defs) (both (orderly [] (suc d) below) (orderly n d after)) ≡ true
    e₂ = both_second (fair (node d h n ds u)) _ e₁

    e₃ : both (orderly [] (suc d) below) (orderly n d after) ≡ true
    e₃ = both_second (modest defs) _ e₂

    by : (t : Bool) → (m : List ℕ) × (orderly m d (tree_named name after) ≡ true) → (m : List ℕ) × (orderly m d (cond t (grown h n ds u defs below bare) (tree_named name after)) ≡ true)
    by true more =
        (before, both_true _ _ (both_first (is_less (order before n)) _ o) (both_true _ _ (both_first (fair (node d h n ds u)) _ e₁) (both_true _ _ (both_first (modest defs) _ e₂) (both_true _ _ (both_first (orderly [] (suc d) below) _ e₃) refl))))
    by false more = more

-- the command of a name in an image: the part that is found holds that tree and nothing else, so that no other command matters
pub command_holds : (image : List ℕ) (f : Forest) (name : List ℕ) → StandsFor image f → PartHolds image (flatten 0 (tree_named name f)) (find_node image 0 name)
command_holds image f name s =
    let fit = obey_fit (flatten 0 f) start (forest_obeys f s.rising s.nodes) in
    rw (s.joined, ← subtree_named f [] 0 name s.rising) (find_holds 0 name (flatten 0 f) fit)

-- the child of a name in the part of a tree
pub child_holds : (h : ℕ) (n ds : List ℕ) (u : Perhaps) (defs : List Frame) (below : Forest) (before : List ℕ) (d : ℕ) (name : List ℕ)
    → orderly before d (grown h n ds u defs below bare) ≡ true → AllFit (flatten d (grown h n ds u defs below bare))
    → PartHolds (flat (flatten d (grown h n ds u defs below bare))) (flatten (suc d) (tree_named name below)) (find_node (flat (flatten d (grown h n ds u defs below bare))) (suc d) name)
child_holds h n ds u defs below before d name o fit =
    rw (← child_named h n ds u defs below before d name o) (find_holds (suc d) name (flatten d (grown h n ds u defs below bare)) fit)

first_size : (f : Frame) → length (flat (f ∷ [])) ≡ length (encode_frame f)
unfolding flat
first_size f = ap length (append-nil (encode_frame f))

-- a list of definitions ends at the next node of any depth, whatever stands after
pub definitions_end : (test : Frame → Bool) (defs : List Frame) (d : ℕ) (f : Forest) → definitions_only defs ≡ true → place_of test is_node (defs ++ flatten d f) ≡ place_of test is_node defs
unfolding place_of definitions_only flatten
definitions_end test [] d bare o = refl
definitions_end test [] d (grown h n ds u defs below after) o = refl
definitions_end test (node b h n ds u ∷ l) d f o = cc
definitions_end test (option r c n x ds ∷ l) d f o =
    ap (λ (s : Option ℕ). cond (test (option r c n x ds)) (Some 0) (shifted (length (encode_frame (option r c n x ds))) s)) (definitions_end test l d f (both_second (fair (option r c n x ds)) _ o))
definitions_end test (flag c n x ds ∷ l) d f o =
    ap (λ (s : Option ℕ). cond (test (flag c n x ds)) (Some 0) (shifted (length (encode_frame (flag c n x ds))) s)) (definitions_end test l d f (both_second (fair (flag c n x ds)) _ o))

-- the definitions of a node, sought in the part of its tree from after the node, are those of the node alone
pub definitions_spot : (test : Frame → Bool) (h : ℕ) (n ds : List ℕ) (u : Perhaps) (defs : List Frame) (below : Forest) (d : ℕ) → definitions_only defs ≡ true
    → AllFit (flatten d (grown h n ds u defs below bare))
    → spot test is_node (flat (flatten d (grown h n ds u defs below bare))) (length (encode_frame (node d h n ds u))) ≡ shifted (length (encode_frame (node d h n ds u))) (place_of test is_node defs)
unfolding flatten
definitions_spot test h n ds u defs below d only fit =
    let size = first_size (node d h n ds u) in
    rw (← size)
    (spot_after test is_node (node d h n ds u ∷ []) (defs ++ (flatten (suc d) below ++ [])) fit
    ∙ rw (append-nil (flatten (suc d) below), definitions_end test defs (suc d) below only))
