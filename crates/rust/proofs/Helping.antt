-- The Rust's `show_help` and `show_available_commands` under the tree of an image print our texts, or name the same unknown word.
use Rattle.std.proofs.Common.{◌≡◌, ℕ, suc, ◌+◌, true, cond, List, [], ◌∷◌, ◌++◌, sym, refl, ap, ◌∙◌, append_assoc, append-nil, arith}
use mathlib.Core.Option.{some}
use Rattle.image.specs.Frames.{Perhaps, absent, present, Frame}
use Rattle.tree.specs.Images.{frames_of}
use Rattle.tree.specs.Forest.{Forest, flatten, orderly}
use Rattle.tree.proofs.Forests.{StandsFor}
use Rattle.tree.specs.Subtrees.{subtree}
use Rattle.buffer.specs.Ascii.{ascii}
use Rattle.rows.specs.Rows.{rows, titled}
use Rattle.rows.specs.declared.row.Listing.TheVariants.{Options, Flags, Subcommands}
use Rattle.help.specs.Texts.{spaced, usage_line, lists, about, help_text, available_head, available_foot, available_text}
use Rattle.help.specs.Paths.{Led, found, lost, followed}
use Rattle.help.specs.Answer.{reply_by, help_in, help_of}
use Rattle.rust.specs.Std.{if_some, is_empty, join, println}
use Rattle.rust.specs.Tree.{OptionDef, FlagDef, CommandNode, option_defs, flag_defs, text_of, get, commands_of}
use Rattle.rust.specs.Parser.{UnknownCommand, Result, ok, err}
use Rattle.rust.specs.Help.{for_each, for_each_node, no_nodes, option_line, flag_line, node_line, available_line, help_lines, node_under, printed, show_help, show_available_commands}
use Rattle.rust.specs.Same.{reply_for}
use Rattle.rust.proofs.Trees.{Tree, alone, node_of, Fine, fine_rules, Sought, nowhere, there, command, child}
use Rattle.rust.proofs.Parsing.{frames_are}
use Rattle.rust.proofs.Listings.{options_listed, flags_listed, titled_each, titled_nodes, option_some, flag_some, node_some, subcommands_listed, commands_listed}

-- THE LINES ON A NODE
pub join_is : (w : List ℕ) (words : List (List ℕ)) → join (w ∷ words) ≡ w ++ spaced words
unfolding join spaced
join_is w [] = sym (append-nil w)
join_is w (v ∷ words) = ap (λ (l : List ℕ). w ++ ascii " " ++ l) (join_is v words) ∙ simp append_assoc

usage_is : (u : Perhaps) → if_some (text_of u) (λ usage. println (ascii "Usage: " ++ usage)) [] ≡ usage_line u
unfolding println
usage_is absent = refl
usage_is (present t) = refl

-- the same pieces in other brackets
about_bracketed : (c gap w s end d description u : List ℕ)
    → (c ++ gap ++ (w ++ s)) ++ end ++ (d ++ description ++ end) ++ u ≡ c ++ (gap ++ w ++ s) ++ (end ++ d) ++ description ++ end ++ u
about_bracketed c gap w s end d description u = simp append_assoc

about_is : (w : List ℕ) (words : List (List ℕ)) (description : List ℕ) (u : Perhaps)
    → println (ascii "Command: " ++ join (w ∷ words)) ++ println (ascii "Description: " ++ description) ++ if_some (text_of u) (λ usage. println (ascii "Usage: " ++ usage)) []
    ≡ about (w ∷ words) description u
unfolding println about spaced ascii
about_is w words description u =
    rw (join_is w words, usage_is u) (about_bracketed (ascii "Command:") (ascii " ") w (spaced words) (ascii "\n") (ascii "Description: ") description (usage_line u))

-- ITS LISTS
module _ (d : ℕ) (t : Tree) (fine : Fine d t) where
  -- the frames after the node
  abbrev beyond : List Frame
  beyond = t.definitions ++ flatten (suc d) t.below

  -- what the Rust prints of each list
  abbrev option_list : List ℕ
  option_list = cond (is_empty (option_defs t.definitions)) [] (println (ascii "\nOptions:") ++ for_each option_line (option_defs t.definitions))

  abbrev flag_list : List ℕ
  flag_list = cond (is_empty (flag_defs t.definitions)) [] (println (ascii "\nFlags:") ++ for_each flag_line (flag_defs t.definitions))

  abbrev node_list : List ℕ
  node_list = cond (no_nodes (commands_of t.below)) [] (println (ascii "\nSubcommands:") ++ for_each_node (node_line (ascii "  ") 20) (commands_of t.below))

  options_are : titled (ascii "\nOptions:\n") (rows Options beyond) ≡ option_list
  unfolding println ascii
  options_are =
      ap (titled (ascii "\nOptions:\n")) (options_listed t.definitions (suc d) t.below (fine_rules d t fine).only)
      ∙ titled_each OptionDef option_line (ascii "\nOptions:\n") (option_defs t.definitions) option_some

  flags_are : titled (ascii "\nFlags:\n") (rows Flags beyond) ≡ flag_list
  unfolding println ascii
  flags_are =
      ap (titled (ascii "\nFlags:\n")) (flags_listed t.definitions (suc d) t.below (fine_rules d t fine).only)
      ∙ titled_each FlagDef flag_line (ascii "\nFlags:\n") (flag_defs t.definitions) flag_some

  subcommands_are : titled (ascii "\nSubcommands:\n") (rows (Subcommands (d + 1)) beyond) ≡ node_list
  unfolding println ascii
  subcommands_are =
      let e : d + 1 ≡ suc d = omega arith in
      ap (λ (n : ℕ). titled (ascii "\nSubcommands:\n") (rows (Subcommands n) beyond)) e
      ∙ ap (titled (ascii "\nSubcommands:\n")) (subcommands_listed t.definitions t.below (suc d) (fine_rules d t fine).only (fine_rules d t fine).deeper)
      ∙ titled_nodes (node_line (ascii "  ") 20) (ascii "\nSubcommands:\n") (commands_of t.below) node_some

  bracketed : (a o f s : List ℕ) → a ++ o ++ f ++ s ≡ a ++ (o ++ f ++ s)
  bracketed a o f s = simp append_assoc

  -- the whole help of a node
  pub help_is : (w : List ℕ) (words : List (List ℕ)) → help_lines (w ∷ words) (node_of t) ≡ help_text (w ∷ words) (flatten d (alone t))
  unfolding help_lines help_text flatten lists
  help_is w words =
      rw (append-nil (flatten (suc d) t.below), options_are, flags_are, subcommands_are, about_is w words t.description t.usage)
      (bracketed (about (w ∷ words) t.description t.usage) option_list flag_list node_list)

-- WHERE WORDS LEAD: to one tree, or to no node, by the same word
data Leads : Result CommandNode → Led → Type 0 where
  arrives : (d : ℕ) (t : Tree) → Fine d t → Leads (ok (node_of t)) (found (flatten d (alone t)))
  strays : (w : List ℕ) → Leads (err (UnknownCommand w)) (lost w)

leads : (words : List (List ℕ)) (d : ℕ) (t : Tree) → Fine d t → Leads (node_under (node_of t) words) (followed (suc d) (flatten d (alone t)) words)
unfolding node_under followed flatten
leads [] d t fine = arrives d t fine
leads (w ∷ words) d t fine = by (child d t fine w) (λ s. leads words (suc d) s)
  where
    by : Sought (get w (commands_of t.below)) (suc d) (subtree (suc d) w (flatten d (alone t)))
        → ((s : Tree) → Fine (suc d) s → Leads (node_under (node_of s) words) (followed (suc (suc d)) (flatten (suc d) (alone s)) words))
        → Leads (node_under (node_of t) (w ∷ words)) (followed (suc d) (flatten d (alone t)) (w ∷ words))
    by (nowhere a b) more = rw (a, b) (strays w)
    by (there s k a b) more = rw (a, b) (more s k)

-- what the Rust prints where words lead
shown : (w : List ℕ) (words : List (List ℕ)) (r : Result CommandNode) (led : Led) → Leads r led → some (printed (w ∷ words) r) ≡ reply_for (reply_by (w ∷ words) led)
shown w words r led (arrives d t fine) = ap (λ (text : List ℕ). some (ok text)) (help_is d t fine w words)
shown w words r led (strays v) = refl

-- THE CALLS: help for words under a forest, and for a line under a well-formed image
same_words : (f : Forest) → orderly [] 0 f ≡ true → (words : List (List ℕ)) → show_help (commands_of f) words ≡ reply_for (help_of (flatten 0 f) words)
unfolding show_help help_of help_in flatten
same_words f o [] = refl
same_words f o (w ∷ words) = by (command w f o)
  where
    by : Sought (get w (commands_of f)) 0 (subtree 0 w (flatten 0 f)) → show_help (commands_of f) (w ∷ words) ≡ reply_for (help_of (flatten 0 f) (w ∷ words))
    by (nowhere a b) = rw (a, b)
    by (there t fine a b) = rw (a, b) (shown w words _ _ (leads words 0 t fine))

pub same_help : (image : List ℕ) (f : Forest) → StandsFor image f → (words : List (List ℕ)) → show_help (commands_of f) words ≡ reply_for (help_of (frames_of image) words)
same_help image f s words = rw (frames_are image f s) (same_words f s.rising words)

-- the list of all commands
available_bracketed : (a b c d e g h i j k l : List ℕ) → a ++ b ++ c ++ d ++ e ++ g ++ h ++ i ++ j ++ k ++ l ≡ a ++ b ++ c ++ ((d ++ e) ++ g ++ h ++ i ++ j ++ (k ++ l))
available_bracketed a b c d e g h i j k l = simp append_assoc

pub same_available : (image : List ℕ) (f : Forest) → StandsFor image f → show_available_commands (commands_of f) ≡ available_text (frames_of image)
unfolding show_available_commands available_text available_head available_foot println ascii
same_available image f s =
    rw (frames_are image f s, commands_listed f [] s.rising)
    (available_bracketed (println (ascii "ArceOS Shell - Available Commands:")) (println (ascii "")) (for_each_node available_line (commands_of f)) (println (ascii ""))
    (println (ascii "Built-in Commands:")) (println (ascii "  help            Show help information")) (println (ascii "  help <command>  Show help for a specific command"))
    (println (ascii "  clear           Clear the screen")) (println (ascii "  exit/quit       Exit the shell")) (println (ascii ""))
    (println (ascii "Tip: Use 'help <command>' to see detailed usage of a command")))
