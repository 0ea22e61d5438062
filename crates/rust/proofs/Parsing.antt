-- The Rust's `parse` under the tree of an image says what our definition says of the image's frames.
use Rattle.std.proofs.Common.{◌≡◌, ℕ, suc, Bool, true, false, cond, not, eqb, List, [], ◌∷◌, ◌++◌, sym, refl, ap, ◌∙◌}
use mathlib.Core.Option.{Option, none, some}
use Rattle.table.specs.Map.{Map, put, has}
use Rattle.words.specs.Tokens.{words_of}
use Rattle.image.specs.Frames.{Frame, node, option, flag}
use Rattle.tree.specs.Images.{frames_of}
use Rattle.tree.specs.Forest.{Forest, flatten, orderly}
use Rattle.tree.proofs.WellFormedImages.{well_formed_frames}
use Rattle.tree.proofs.Flattening.{forest_obeys}
use Rattle.tree.proofs.Forests.{StandsFor}
use Rattle.tree.specs.Subtrees.{subtree}
use Rattle.tree.specs.Commands.{Reached, descend, on_subtree}
use Rattle.buffer.specs.Ascii.{ascii}
use Rattle.arguments.specs.Arguments.{none_found, Stand, go, wait, unknown_option, missing_value, args}
use Rattle.parse.specs.Commands.{Outcome, parsed, fault, is_missing, missing_required, on_missing, outcome_of, concluded, parse_in, parse_words, parse_line}
use Rattle.rust.specs.Tree.{option_defs, get, commands_of}
use Rattle.rust.specs.Parser.{ParsedCommand, MissingRequiredOption, ok, err, and_then, Command, deepest, find_command, parse_args, validate_required, parse_command, parse_tokens, parse}
use Rattle.rust.specs.Same.{flags_for, error_for, result_for}
use Rattle.rust.proofs.Words.{tokenize_is}
use Rattle.rust.proofs.Maps.{contains_is}
use Rattle.rust.proofs.Trees.{Tree, alone, node_of, Fine, Sought, nowhere, there, command, own_definitions, child}
use Rattle.rust.proofs.Arguments.{result_by, same_args}

-- the frames of an image are those of its forest
pub frames_are : (image : List ℕ) (f : Forest) → StandsFor image f → frames_of image ≡ flatten 0 f
frames_are image f s = well_formed_frames image (flatten 0 f) (record { joined = s.joined; obey = forest_obeys f s.rising s.nodes; short = s.short })

-- the frames of a tree are not none
pub some_frames : (A : Type 0) (d : ℕ) (t : Tree) (absent : A) (found : List Frame → A) → on_subtree (flatten d (alone t)) absent found ≡ found (flatten d (alone t))
unfolding flatten
some_frames A d t absent found = refl

-- the Rust's node and our frames are of one tree
pub record Meets (c : Command) (r : Reached) : Type 0 where
  pub depth : ℕ
  pub tree : Tree
  pub fine : Fine depth tree
  pub found : c ≡ record { path = r.path; command = node_of tree; rest = r.words }
  pub frames : r.frames ≡ flatten depth (alone tree)

-- words are followed alike
pub meets : (words path : List (List ℕ)) (d : ℕ) (t : Tree) → Fine d t → Meets (deepest (node_of t) path words) (descend (suc d) (flatten d (alone t)) path words)
unfolding deepest descend
meets [] path d t fine = record { depth = d; tree = t; fine = fine; found = refl; frames = refl }
meets (w ∷ words) path d t fine = by (child d t fine w) (λ s. meets words (path ++ (w ∷ [])) (suc d) s)
  where
    by : Sought (get w (commands_of t.below)) (suc d) (subtree (suc d) w (flatten d (alone t)))
        → ((s : Tree) → Fine (suc d) s → Meets (deepest (node_of s) (path ++ (w ∷ [])) words) (descend (suc (suc d)) (flatten (suc d) (alone s)) (path ++ (w ∷ [])) words))
        → Meets (deepest (node_of t) path (w ∷ words)) (descend (suc d) (flatten d (alone t)) path (w ∷ words))
    by (nowhere a b) more = rw (a, b) (record { depth = d; tree = t; fine = fine; found = refl; frames = refl })
    by (there s k a b) more = rw (a, b, some_frames Reached (suc d) s) (more s k)

-- required options are looked up alike
same_required : (A : Type 0) (defs : List Frame) (m : Map) (a : A) → validate_required (option_defs defs) m a ≡ on_missing (missing_required defs m) (λ name. err (MissingRequiredOption name)) (ok a)
unfolding validate_required option_defs missing_required is_missing
same_required A [] m a = refl
same_required A (node d h n ds u ∷ defs) m a = same_required A defs m a
same_required A (flag c n l ds ∷ defs) m a = same_required A defs m a
same_required A (option r c n l ds ∷ defs) m a = rw (contains_is n m) (by (cond (eqb r 1) (not (has n m)) false) (same_required A defs m a))
  where
    by : (b : Bool) → validate_required (option_defs defs) m a ≡ on_missing (missing_required defs m) (λ name. err (MissingRequiredOption name)) (ok a)
        → cond b (err (MissingRequiredOption n)) (validate_required (option_defs defs) m a)
        ≡ on_missing (cond b (some n) (missing_required defs m)) (λ name. err (MissingRequiredOption name)) (ok a)
    by true more = refl
    by false more = more

-- the arguments of a command, and what is required
same_command : (path words : List (List ℕ)) (d : ℕ) (t : Tree) (fine : Fine d t)
    → parse_command (record { path = path; command = node_of t; rest = words }) ≡ result_for (concluded put (record { path = path; words = words; frames = flatten d (alone t) }))
unfolding parse_command parse_args concluded flags_for error_for
same_command path words d t fine = rw (own_definitions d t fine, same_args t none_found words) (by (args put t.definitions (go none_found) words))
  where
    by : (s : Stand)
        → and_then (result_by s) (λ a. validate_required (option_defs t.definitions) a.options (record { path = path; options = a.options; flags = a.flags; positional = a.positional }))
        ≡ result_for (outcome_of path t.definitions s)
    by (go f) = same_required ParsedCommand t.definitions f.options _ ∙ required (missing_required t.definitions f.options)
      where
        required : (x : Option (List ℕ))
            → on_missing x (λ name. err (MissingRequiredOption name)) (ok (record { path = path; options = f.options; flags = flags_for f.flags; positional = f.positionals }))
            ≡ result_for (on_missing x (λ name. fault 7 name) (parsed path f))
        required (some name) = refl
        required none = refl
    by (wait f key told) = refl
    by (unknown_option told) = refl
    by (missing_value told) = refl

-- a command that was reached
pub same_reached : (c : Command) (r : Reached) → Meets c r → parse_command c ≡ result_for (concluded put r)
same_reached c r m =
    ap parse_command m.found ∙ same_command r.path r.words m.depth m.tree m.fine
    ∙ ap (λ (frames : List Frame). result_for (concluded put (record { path = r.path; words = r.words; frames = frames }))) (sym m.frames)

-- the words of a line under a forest
pub same_tokens : (f : Forest) → orderly [] 0 f ≡ true → (words : List (List ℕ)) → parse_tokens (commands_of f) words ≡ result_for (parse_words (flatten 0 f) words)
unfolding parse_tokens parse_words parse_in find_command error_for ascii
same_tokens f o [] = refl
same_tokens f o (w ∷ words) = by (command w f o)
  where
    by : Sought (get w (commands_of f)) 0 (subtree 0 w (flatten 0 f))
        → parse_tokens (commands_of f) (w ∷ words) ≡ result_for (parse_words (flatten 0 f) (w ∷ words))
    by (nowhere a b) = rw (a, b)
    by (there t fine a b) = rw (a, b, some_frames Outcome 0 t) (same_reached _ _ (meets words (w ∷ []) 0 t fine))

-- a line under a well-formed image: Ok with the same command, or Err with the same variant and text
pub same_parse : (image line : List ℕ) (f : Forest) → StandsFor image f → parse (commands_of f) line ≡ result_for (parse_line image line)
unfolding parse parse_line
same_parse image line f s = rw (tokenize_is line, frames_are image f s) (same_tokens f s.rising (words_of line))
