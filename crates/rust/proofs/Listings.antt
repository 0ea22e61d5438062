-- The Rust's lists, of options, flags, subcommands and commands, are our rows of frames.
use Rattle.std.proofs.Common.{◌≡◌, ℕ, suc, ◌<◌, true, false, cond, List, [], ◌∷◌, ◌++◌, length, sym, refl, ap, ◌∙◌, append_assoc, arith, length-append, eq-eqb, ne_eqb}
use Rattle.buffer.proofs.Choices.{then_is, else_is}
use Rattle.image.specs.Frames.{Perhaps, Frame, node, option, flag}
use Rattle.image.specs.Limits.{fair}
use Rattle.image.proofs.Fields.{both_first, both_second}
use Rattle.tree.specs.Forest.{Forest, bare, grown, flatten, definitions_only, orderly}
use Rattle.buffer.specs.Ascii.{ascii}
use Rattle.rows.specs.Rows.{option_row, flag_row, node_row, row_of, ends_list, rows, titled}
use Rattle.rows.specs.declared.row.Listing.{Listing}
use Rattle.rows.specs.declared.row.Listing.TheVariants.{Options, Flags, Subcommands, Commands as AllCommands}
use Rattle.rust.specs.Std.{is_empty, println}
use Rattle.rust.specs.Tree.{OptionDef, FlagDef, CommandNode, Commands, empty, entry, option_defs, flag_defs, commands_of}
use Rattle.rust.specs.Help.{for_each, for_each_node, no_nodes, option_line, flag_line, node_line, available_line}
use Rattle.rust.proofs.Trees.{Tree, node_of, rules, put_first}
use Rattle.rust.proofs.Lines.{option_line_lem, flag_line_lem, node_line_lem}

-- OPTIONS AND FLAGS of a node
pub options_listed : (defs : List Frame) (d : ℕ) (f : Forest) → definitions_only defs ≡ true → rows Options (defs ++ flatten d f) ≡ for_each option_line (option_defs defs)
unfolding rows for_each option_defs definitions_only flatten
options_listed [] d bare o = refl
options_listed [] d (grown h n ds u defs below after) o = refl
options_listed (node b h n ds u ∷ l) d f o = cc
options_listed (option r c n x ds ∷ l) d f o =
    rw (option_line_lem r c n x ds (both_first (fair (option r c n x ds)) _ o)) (ap (λ (s : List ℕ). option_row r c n x ds ++ s) (options_listed l d f (both_second (fair (option r c n x ds)) _ o)))
options_listed (flag c n x ds ∷ l) d f o = options_listed l d f (both_second (fair (flag c n x ds)) _ o)

pub flags_listed : (defs : List Frame) (d : ℕ) (f : Forest) → definitions_only defs ≡ true → rows Flags (defs ++ flatten d f) ≡ for_each flag_line (flag_defs defs)
unfolding rows for_each flag_defs definitions_only flatten
flags_listed [] d bare o = refl
flags_listed [] d (grown h n ds u defs below after) o = refl
flags_listed (node b h n ds u ∷ l) d f o = cc
flags_listed (option r c n x ds ∷ l) d f o = flags_listed l d f (both_second (fair (option r c n x ds)) _ o)
flags_listed (flag c n x ds ∷ l) d f o =
    rw (flag_line_lem c n x ds (both_first (fair (flag c n x ds)) _ o)) (ap (λ (s : List ℕ). flag_row c n x ds ++ s) (flags_listed l d f (both_second (fair (flag c n x ds)) _ o)))

-- A TITLE stands where anything is listed
some_titled : (title a b : List ℕ) → 0 < length a → titled title (a ++ b) ≡ title ++ (a ++ b)
unfolding titled
some_titled title a b h =
    let l = length-append a b in
    else_is _ _ _ (ne_eqb (length (a ++ b)) 0 (λ e. omega arith))

pub titled_each : (A : Type 0) (line : A → List ℕ) (title : List ℕ) (l : List A) → ((x : A) → 0 < length (line x))
    → titled title (for_each line l) ≡ cond (is_empty l) [] (title ++ for_each line l)
unfolding titled for_each
titled_each A line title [] some = refl
titled_each A line title (x ∷ l) some = some_titled title (line x) (for_each line l) (some x)

pub titled_nodes : (line : List ℕ → CommandNode → List ℕ) (title : List ℕ) (m : Commands) → ((n : List ℕ) (c : CommandNode) → 0 < length (line n c))
    → titled title (for_each_node line m) ≡ cond (no_nodes m) [] (title ++ for_each_node line m)
unfolding titled for_each_node
titled_nodes line title empty some = refl
titled_nodes line title (entry n c m) some = some_titled title (line n c) (for_each_node line m) (some n c)

pub option_some : (x : OptionDef) → 0 < length (option_line x)
unfolding option_line println ascii
option_some x = omega arith

pub flag_some : (x : FlagDef) → 0 < length (flag_line x)
unfolding flag_line println ascii
flag_some x = omega arith

pub node_some : (n : List ℕ) (c : CommandNode) → 0 < length (node_line (ascii "  ") 20 n c)
unfolding node_line println ascii
node_some n c = omega arith

-- NODES OF ONE DEPTH: a list that shows them and passes over definitions and deeper nodes
record Shows (L : Listing) (e : ℕ) (indent : List ℕ) (width : ℕ) : Type 0 where
  on : (f : Frame) → ends_list L f ≡ false
  options : (r c : ℕ) (n : List ℕ) (x : Perhaps) (ds : List ℕ) → row_of L (option r c n x ds) ≡ []
  flags : (c : ℕ) (n : List ℕ) (x : Perhaps) (ds : List ℕ) → row_of L (flag c n x ds) ≡ []
  deeper : (d h : ℕ) (n ds : List ℕ) (u : Perhaps) → e < d → row_of L (node d h n ds u) ≡ []
  here : (h : ℕ) (n ds : List ℕ) (u : Perhaps) → row_of L (node e h n ds u) ≡ node_row indent width n ds

module _ (L : Listing) (e : ℕ) (indent : List ℕ) (width : ℕ) (s : Shows L e indent width) where
  row_then : (f : Frame) (l : List Frame) → rows L (f ∷ l) ≡ row_of L f ++ rows L l
  unfolding rows
  row_then f l = else_is _ _ _ (s.on f)

  rows_both : (a b : List Frame) → rows L (a ++ b) ≡ rows L a ++ rows L b
  unfolding rows
  rows_both [] b = refl
  rows_both (f ∷ a) b =
      row_then f (a ++ b) ∙ ap (λ (l : List ℕ). row_of L f ++ l) (rows_both a b) ∙ sym (append_assoc (row_of L f) (rows L a) (rows L b))
      ∙ ap (λ (l : List ℕ). l ++ rows L b) (sym (row_then f a))

  passed : (defs : List Frame) → definitions_only defs ≡ true → rows L defs ≡ []
  unfolding rows definitions_only
  passed [] o = refl
  passed (node b h n ds u ∷ l) o = cc
  passed (option r c n x ds ∷ l) o = row_then (option r c n x ds) l ∙ rw (s.options r c n x ds) (passed l (both_second (fair (option r c n x ds)) _ o))
  passed (flag c n x ds ∷ l) o = row_then (flag c n x ds) l ∙ rw (s.flags c n x ds) (passed l (both_second (fair (flag c n x ds)) _ o))

  -- a node's row, then what is below it, then its siblings
  tree_rows : (d h : ℕ) (n ds : List ℕ) (u : Perhaps) (defs : List Frame) (below after : Forest) → definitions_only defs ≡ true
      → rows L (flatten d (grown h n ds u defs below after)) ≡ row_of L (node d h n ds u) ++ (rows L (flatten (suc d) below) ++ rows L (flatten d after))
  unfolding flatten
  tree_rows d h n ds u defs below after o =
      row_then (node d h n ds u) (defs ++ (flatten (suc d) below ++ flatten d after))
      ∙ ap (λ (l : List ℕ). row_of L (node d h n ds u) ++ l)
      (rows_both defs (flatten (suc d) below ++ flatten d after) ∙ ap (λ (l : List ℕ). l ++ rows L (flatten (suc d) below ++ flatten d after)) (passed defs o)
      ∙ rows_both (flatten (suc d) below) (flatten d after))

  unseen : (f : Forest) (before : List ℕ) (d : ℕ) → e < d → orderly before d f ≡ true → rows L (flatten d f) ≡ []
  unfolding rows flatten
  unseen bare before d k o = refl
  unseen (grown h n ds u defs below after) before d k o =
      let r = rules before d h n ds u defs below after o in
      tree_rows d h n ds u defs below after r.only
      ∙ rw (s.deeper d h n ds u k, unseen below [] (suc d) (omega arith) r.deeper, unseen after n d k r.later)

  nodes_listed : (f : Forest) (before : List ℕ) → orderly before e f ≡ true → rows L (flatten e f) ≡ for_each_node (node_line indent width) (commands_of f)
  unfolding rows flatten for_each_node commands_of
  nodes_listed bare before o = refl
  nodes_listed (grown h n ds u defs below after) before o =
      let r = rules before e h n ds u defs below after o in
      let t : Tree = record { handler = h; name = n; description = ds; usage = u; definitions = defs; below = below } in
      tree_rows e h n ds u defs below after r.only
      ∙ rw (s.here h n ds u, unseen below [] (suc e) (omega arith) r.deeper, put_first n (node_of t) e after r.later, node_line_lem indent width n (node_of t) r.shown)
      (ap (λ (l : List ℕ). node_row indent width n ds ++ l) (nodes_listed after n r.later))

shows_subcommands : (e : ℕ) → Shows (Subcommands e) e (ascii "  ") 20
shows_subcommands e =
    record {
      on = λ f. refl;
      options = λ r c n x ds. refl;
      flags = λ c n x ds. refl;
      deeper = λ d h n ds u k. else_is _ _ _ (ne_eqb d e (λ z. omega arith));
      here = λ h n ds u. then_is _ _ _ (eq-eqb e e refl);
    }

-- the subcommands of a node, below its definitions
pub subcommands_listed : (defs : List Frame) (below : Forest) (e : ℕ) → definitions_only defs ≡ true → orderly [] e below ≡ true
    → rows (Subcommands e) (defs ++ flatten e below) ≡ for_each_node (node_line (ascii "  ") 20) (commands_of below)
subcommands_listed defs below e only o =
    rows_both (Subcommands e) e (ascii "  ") 20 (shows_subcommands e) defs (flatten e below)
    ∙ rw (passed (Subcommands e) e (ascii "  ") 20 (shows_subcommands e) defs only) (nodes_listed (Subcommands e) e (ascii "  ") 20 (shows_subcommands e) below [] o)

shows_commands : Shows AllCommands 1 (ascii "    ") 13
shows_commands =
    record {
      on = λ f. refl;
      options = λ r c n x ds. refl;
      flags = λ c n x ds. refl;
      deeper = λ d h n ds u k. else_is _ _ _ (ne_eqb d 0 (λ z. omega arith)) ∙ else_is _ _ _ (ne_eqb d 1 (λ z. omega arith));
      here = λ h n ds u. refl;
    }

-- if !node.subcommands.is_empty() { for .. } is the loop alone
asked : (line : List ℕ → CommandNode → List ℕ) (m : Commands) → cond (no_nodes m) [] (for_each_node line m) ≡ for_each_node line m
unfolding for_each_node
asked line empty = refl
asked line (entry n c m) = refl

-- ALL COMMANDS
pub commands_listed : (f : Forest) (before : List ℕ) → orderly before 0 f ≡ true → rows AllCommands (flatten 0 f) ≡ for_each_node available_line (commands_of f)
unfolding rows flatten for_each_node commands_of available_line
commands_listed bare before o = refl
commands_listed (grown h n ds u defs below after) before o =
    let r = rules before 0 h n ds u defs below after o in
    let t : Tree = record { handler = h; name = n; description = ds; usage = u; definitions = defs; below = below } in
    tree_rows AllCommands 1 (ascii "    ") 13 shows_commands 0 h n ds u defs below after r.only
    ∙ rw (put_first n (node_of t) 0 after r.later, node_line_lem (ascii "  ") 15 n (node_of t) r.shown, asked (node_line (ascii "    ") 13) (commands_of below))
    (ap (λ (l : List ℕ). node_row (ascii "  ") 15 n ds ++ l)
    (rw (nodes_listed AllCommands 1 (ascii "    ") 13 shows_commands below [] r.deeper, commands_listed after n r.later))
    ∙ sym (append_assoc (node_row (ascii "  ") 15 n ds) (for_each_node (node_line (ascii "    ") 13) (commands_of below)) (for_each_node available_line (commands_of after))))
