-- The Rust's maps hold the nodes of a forest once and in its order, since siblings rise; what is looked up in them is what is looked up among the frames.
use Rattle.std.proofs.Common.{◌≡◌, ℕ, suc, Bool, true, false, cond, ltb, leb, List, [], ◌∷◌, ◌++◌, sym, refl, ap, ◌∙◌, append-nil}
use mathlib.Core.Option.{Option, none, some}
use Rattle.buffer.specs.Compare.{order, same_bytes}
use Rattle.std.specs.declared.cmp.Ordering.{Ordering}
use Rattle.std.specs.declared.cmp.Ordering.TheVariants.{Less, Equal, Greater}
use Rattle.buffer.proofs.Choices.{true_is_not_false}
use Rattle.image.specs.Frames.{Perhaps, Frame, node, option, flag}
use Rattle.image.specs.Limits.{is_name, fair}
use Rattle.image.proofs.Fields.{both_first, both_second}
use Rattle.tree.specs.Rules.{is_less}
use Rattle.tree.specs.Forest.{Forest, bare, grown, flatten, definitions_only, modest, orderly}
use Rattle.tree.specs.Subtrees.{up_to, subtree}
use Rattle.lookup.specs.Searches.{is_node}
use Rattle.lookup.specs.Subtrees.{tree_named}
use Rattle.lookup.proofs.Lookups.{subtree_named, child_named, named_orderly}
use Rattle.arguments.specs.Meanings.{definitions_of}
use Rattle.rust.specs.Tree.{CommandNode, command_node, entry, insert_node, get, some_of, text_of, option_defs, flag_defs, commands_of}

-- one tree of a forest: a node with its definitions and all below it
pub record Tree : Type 0 where
  pub handler : ℕ
  pub name : List ℕ
  pub description : List ℕ
  pub usage : Perhaps
  pub definitions : List Frame
  pub below : Forest

abbrev pub alone : Tree → Forest
alone t = grown t.handler t.name t.description t.usage t.definitions t.below bare

-- the Rust's node for it
abbrev pub node_of : Tree → CommandNode
node_of t = command_node (some_of t.handler) (commands_of t.below) t.description (text_of t.usage) (option_defs t.definitions) (flag_defs t.definitions)

-- it stands at that depth in a forest within the rules
abbrev pub Fine : ℕ → Tree → Type 0
Fine d t = (before : List ℕ) × (orderly before d (alone t) ≡ true)

less : (o : Ordering) → is_less o ≡ true → o ≡ Less
less Less e = refl
less Equal e = absurd (true_is_not_false (sym e))
less Greater e = absurd (true_is_not_false (sym e))

-- what the rules of a forest tell of its first tree
pub record Rules (before : List ℕ) (d : ℕ) (name : List ℕ) (definitions : List Frame) (below after : Forest) : Type 0 where
  pub rises : is_less (order before name) ≡ true
  pub shown : is_name name ≡ true
  pub only : definitions_only definitions ≡ true
  pub deeper : orderly [] (suc d) below ≡ true
  pub later : orderly name d after ≡ true

pub rules : (before : List ℕ) (d h : ℕ) (n ds : List ℕ) (u : Perhaps) (defs : List Frame) (below after : Forest)
    → orderly before d (grown h n ds u defs below after) ≡ true → Rules before d n defs below after
unfolding orderly fair
rules before d h n ds u defs below after o =
    let f = both_second (is_less (order before n)) _ o in
    let e = both_second (fair (node d h n ds u)) _ f in
    let k = both_second (modest defs) _ e in
    record {
      rises = both_first (is_less (order before n)) _ o;
      shown = both_first (is_name n) _ (both_second (leb d 7) _ (both_second (ltb h 65536) _ (both_first (fair (node d h n ds u)) _ f)));
      only = both_first (definitions_only defs) _ (both_first (modest defs) _ e);
      deeper = both_first (orderly [] (suc d) below) _ k;
      later = both_second (orderly [] (suc d) below) _ k;
    }

-- siblings rise, so each goes in front of those after it
pub put_first : (n : List ℕ) (v : CommandNode) (d : ℕ) (f : Forest) → orderly n d f ≡ true → insert_node n v (commands_of f) ≡ entry n v (commands_of f)
unfolding insert_node commands_of
put_first n v d bare o = refl
put_first n v d (grown h m ds u defs below after) o =
    let r = rules n d h m ds u defs below after o in
    rw (put_first m (command_node (some_of h) (commands_of below) ds (text_of u) (option_defs defs) (flag_defs defs)) d after r.later, less (order n m) r.rises)

-- what the Rust's map has for a name and the frames of its subtree: neither, or those of one tree
pub data Sought (got : Option CommandNode) (d : ℕ) (frames : List Frame) : Type 0 where
  nowhere : got ≡ none → frames ≡ [] → Sought got d frames
  there : (t : Tree) → Fine d t → got ≡ some (node_of t) → frames ≡ flatten d (alone t) → Sought got d frames

got_first : (name n : List ℕ) (v : CommandNode) (d : ℕ) (f : Forest) → orderly n d f ≡ true
    → get name (insert_node n v (commands_of f)) ≡ cond (same_bytes n name) (some v) (get name (commands_of f))
unfolding get
got_first name n v d f o = ap (get name) (put_first n v d f o)

-- the tree of a name is within the rules as the forest is
still_fine : (d : ℕ) (t : Tree) (f : Forest) → f ≡ alone t → (before : List ℕ) × (orderly before d f ≡ true) → Fine d t
still_fine d t f e o = (o.0, ap (orderly o.0 d) (sym e) ∙ o.1)

named : (name before : List ℕ) (d : ℕ) (f : Forest) → orderly before d f ≡ true → Sought (get name (commands_of f)) d (flatten d (tree_named name f))
unfolding get commands_of tree_named flatten
named name before d bare o = nowhere refl refl
named name before d (grown h n ds u defs below after) o =
    by (same_bytes n name) refl (rules before d h n ds u defs below after o) (named name n d after (rules before d h n ds u defs below after o).later)
  where
    t : Tree
    t = record { handler = h; name = n; description = ds; usage = u; definitions = defs; below = below }

    by : (b : Bool) → same_bytes n name ≡ b → Rules before d n defs below after → Sought (get name (commands_of after)) d (flatten d (tree_named name after))
        → Sought (get name (insert_node n (node_of t) (commands_of after))) d (flatten d (cond (same_bytes n name) (alone t) (tree_named name after)))
    by true q r more =
        there t (still_fine d t _ (rw q) (named_orderly (grown h n ds u defs below after) before d name o)) (got_first name n (node_of t) d after r.later ∙ rw q) (rw q)
    by false q r (nowhere a b) = nowhere (got_first name n (node_of t) d after r.later ∙ rw q a) (rw q b)
    by false q r (there s fine a b) = there s fine (got_first name n (node_of t) d after r.later ∙ rw q a) (rw q b)

-- a command, in the Rust's tree and among the frames of the image
pub command : (name : List ℕ) (f : Forest) → orderly [] 0 f ≡ true → Sought (get name (commands_of f)) 0 (subtree 0 name (flatten 0 f))
command name f o = rw (subtree_named f [] 0 name o) (named name [] 0 f o)

-- the definitions of a tree's node end where the nodes below it begin
up_definitions : (defs : List Frame) (d : ℕ) (f : Forest) → definitions_only defs ≡ true → up_to is_node (defs ++ flatten d f) ≡ defs
unfolding up_to definitions_only flatten
up_definitions [] d bare o = refl
up_definitions [] d (grown h n ds u defs below after) o = refl
up_definitions (node b h n ds u ∷ l) d f o = cc
up_definitions (option r c n x ds ∷ l) d f o =
    ap (λ (m : List Frame). option r c n x ds ∷ m) (up_definitions l d f (both_second (fair (option r c n x ds)) _ o))
up_definitions (flag c n x ds ∷ l) d f o =
    ap (λ (m : List Frame). flag c n x ds ∷ m) (up_definitions l d f (both_second (fair (flag c n x ds)) _ o))

module _ (d : ℕ) (t : Tree) (fine : Fine d t) where
  pub fine_rules : Rules fine.0 d t.name t.definitions t.below bare
  fine_rules = rules fine.0 d t.handler t.name t.description t.usage t.definitions t.below bare fine.1

  pub own_definitions : definitions_of (flatten d (alone t)) ≡ t.definitions
  unfolding definitions_of flatten
  own_definitions = rw (append-nil (flatten (suc d) t.below)) (up_definitions t.definitions (suc d) t.below fine_rules.only)

  -- a child, in the Rust's map and among the frames of the node's subtree
  pub child : (name : List ℕ) → Sought (get name (commands_of t.below)) (suc d) (subtree (suc d) name (flatten d (alone t)))
  child name =
      rw (child_named t.handler t.name t.description t.usage t.definitions t.below fine.0 d name fine.1)
      (named name [] (suc d) t.below fine_rules.deeper)
