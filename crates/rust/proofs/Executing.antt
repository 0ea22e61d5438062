-- The Rust's `execute_command` under the tree of an image calls the handler that ours hands over, with the same command, or prints the same message.
use Rattle.std.proofs.Common.{◌≡◌, ℕ, Bool, true, false, cond, eqb, List, [], ◌∷◌, ◌++◌, sym, refl, ap, ◌∙◌, append_assoc, append-nil}
use mathlib.Core.Option.{Option, none, some}
use Rattle.frame.specs.Framed.{frame_of}
use Rattle.frame.specs.Series.{runs}
use Rattle.table.specs.Map.{Map, put}
use Rattle.report.specs.Report.{option_frame, flag_frame, report_of}
use Rattle.image.specs.Frames.{Frame}
use Rattle.tree.specs.Forest.{Forest, flatten, orderly}
use Rattle.tree.specs.Subtrees.{subtree}
use Rattle.tree.specs.Commands.{Reached, descend}
use Rattle.buffer.specs.Ascii.{ascii}
use Rattle.message.specs.Messages.{message}
use Rattle.message.specs.declared.error.ParseError.TheVariants.{UnknownCommand as TellUnknown, UnknownOption as TellOption, MissingValue as TellValue, MissingRequired as TellRequired, NoHandler as TellHandler}
use Rattle.arguments.specs.Meanings.{definitions_of}
use Rattle.arguments.specs.Arguments.{Found, none_found, Stand, go, wait, unknown_option, missing_value, args}
use Rattle.parse.specs.Commands.{Outcome, parsed, fault, missing_required, on_missing, outcome_of, concluded, parse_in}
use Rattle.parse.specs.Answer.{told_in}
use Rattle.shell.specs.Lines.{text, handed as hands_over, joined, fault_message, handler_of as handler_in, carried, execute_in, execute}
use Rattle.rust.specs.Std.{if_some, join, println}
use Rattle.rust.specs.Tree.{CommandNode, Commands, handler_of, subcommands_of, some_of, get, commands_of}
use Rattle.rust.specs.Parser.{ParsedCommand, UnknownCommand, UnknownOption, MissingValue, MissingRequiredOption, NoHandler, Command, deepest, find_command, parse_command, parse_tokens}
use Rattle.rust.specs.Shell.{along, node_at, report, handle, failed, executed, calls}
use Rattle.rust.specs.Same.{flags_for, error_for, result_for, keys_of, report_for, output, handed, seen_of, seen_for}
use Rattle.rust.proofs.Trees.{Tree, alone, node_of, Sought, nowhere, there, command}
use Rattle.rust.proofs.Parsing.{some_frames, Meets, meets, same_reached}
use Rattle.rust.proofs.Helping.{join_is}

-- MESSAGES
told_bracketed : (a t b end : List ℕ) → a ++ t ++ b ++ end ≡ a ++ t ++ (b ++ end)
told_bracketed a t b end = append_assoc (a ++ t) b end

unknown_bracketed : (a t b end more : List ℕ) → (a ++ t ++ b ++ end) ++ more ≡ a ++ t ++ (b ++ end ++ more)
unknown_bracketed a t b end more = simp append_assoc

pub unknown_told : (t : List ℕ) → report (UnknownCommand t) ≡ message TellUnknown t
unfolding report message println ascii
unknown_told t = unknown_bracketed (ascii "Error: Unknown command '") t (ascii "'") (ascii "\n") (println (ascii "Type 'help' to see available commands"))

option_told : (t : List ℕ) → report (UnknownOption t) ≡ message TellOption t
unfolding report message println ascii
option_told t = told_bracketed (ascii "Error: Unknown option '") t (ascii "'") (ascii "\n")

value_told : (t : List ℕ) → report (MissingValue t) ≡ message TellValue t
unfolding report message println ascii
value_told t = told_bracketed (ascii "Error: Option '") t (ascii "' is missing a value") (ascii "\n")

required_told : (t : List ℕ) → report (MissingRequiredOption t) ≡ message TellRequired t
unfolding report message println ascii
required_told t = told_bracketed (ascii "Error: Missing required option '") t (ascii "'") (ascii "\n")

handler_told : (t : List ℕ) → report (NoHandler t) ≡ message TellHandler t
unfolding report message println ascii
handler_told t = told_bracketed (ascii "Error: Command '") t (ascii "' has no handler function") (ascii "\n")

-- THE PATH leads to the node that was found
record Walked (top : CommandNode) (path : List (List ℕ)) (c : Command) : Type 0 where
  more : List (List ℕ)
  whole : c.path ≡ path ++ more
  there_is : along top more ≡ some c.command

walked : (words path : List (List ℕ)) (command : CommandNode) → Walked command path (deepest command path words)
unfolding deepest along
walked [] path command = record { more = []; whole = sym (append-nil path); there_is = refl }
walked (w ∷ words) path command = by (get w (subcommands_of command)) refl (λ s. walked words (path ++ (w ∷ [])) s)
  where
    by : (x : Option CommandNode) → get w (subcommands_of command) ≡ x
        → ((s : CommandNode) → Walked s (path ++ (w ∷ [])) (deepest s (path ++ (w ∷ [])) words))
        → Walked command path (if_some x (λ s. deepest s (path ++ (w ∷ [])) words) (record { path = path; command = command; rest = w ∷ words }))
    by none q next = record { more = []; whole = sym (append-nil path); there_is = refl }
    by (some s) q next =
        let k = next s in
        record {
          more = w ∷ k.more;
          whole = k.whole ∙ append_assoc path (w ∷ []) k.more;
          there_is = rw q k.there_is;
        }

path_leads : (tree : Commands) (w : List ℕ) (top : CommandNode) (c : Command) → get w tree ≡ some top → Walked top (w ∷ []) c → node_at tree c.path ≡ some c.command
unfolding node_at
path_leads tree w top c e k = rw (k.whole, e) k.there_is

-- THE REPORT of the command that a handler is called with
flags_told : (m : Map) → runs flag_frame (keys_of (flags_for m)) ≡ runs flag_frame m
unfolding runs flag_frame keys_of flags_for
flags_told [] = refl
flags_told (e ∷ m) = ap (λ (l : List ℕ). frame_of 0x13 e.0 ++ l) (flags_told m)

pub report_same : (path : List (List ℕ)) (f : Found)
    → report_for (record { path = path; options = f.options; flags = flags_for f.flags; positional = f.positionals }) ≡ told_in (parsed path f)
unfolding report_for told_in report_of
report_same path f = ap (λ (l : List ℕ). runs (frame_of 0x11) path ++ (runs option_frame f.options ++ (l ++ runs (frame_of 0x14) f.positionals))) (flags_told f.flags)

path_joined : (path : List (List ℕ)) → join path ≡ joined path
unfolding joined join
path_joined [] = refl
path_joined (w ∷ path) = join_is w path

-- WHAT IS CARRIED OUT for a command at a path whose node has that handler
module _ (tree : Commands) (path : List (List ℕ)) (node : CommandNode) (h : ℕ) (at : node_at tree path ≡ some node) (handler : handler_of node ≡ some_of h) where
  called : (f : Found) → seen_of (executed tree (result_for (parsed path f))) ≡ seen_for (carried h (parsed path f))
  unfolding carried handle some_of
  called f = rw (at, handler) (by (eqb h 0))
    where
      p : ParsedCommand
      p = record { path = path; options = f.options; flags = flags_for f.flags; positional = f.positionals }

      by : (z : Bool) → seen_of (if_some (cond z none (some h)) (λ n. calls n p) (failed (NoHandler (join path)))) ≡ seen_for (cond z (text 8 (message TellHandler (joined path))) (hands_over h (told_in (parsed path f))))
      by true = ap (output 8) (handler_told (join path) ∙ ap (message TellHandler) (path_joined path))
      by false = ap (handed h) (report_same path f)

  -- whatever the arguments come to
  same_stand : (defs : List Frame) (s : Stand) → seen_of (executed tree (result_for (outcome_of path defs s))) ≡ seen_for (carried h (outcome_of path defs s))
  unfolding carried error_for fault_message
  same_stand defs (go f) = by (missing_required defs f.options)
    where
      by : (x : Option (List ℕ)) → seen_of (executed tree (result_for (on_missing x (λ name. fault 7 name) (parsed path f)))) ≡ seen_for (carried h (on_missing x (λ name. fault 7 name) (parsed path f)))
      by (some name) = ap (output 7) (required_told name)
      by none = called f
  same_stand defs (wait f key t) = ap (output 6) (value_told t)
  same_stand defs (unknown_option t) = ap (output 5) (option_told t)
  same_stand defs (missing_value t) = ap (output 6) (value_told t)

-- the handler of a tree's node
tree_handler : (d : ℕ) (t : Tree) → handler_in (flatten d (alone t)) ≡ t.handler
unfolding flatten handler_in
tree_handler d t = refl

same_reach : (tree : Commands) (c : Command) (r : Reached) → node_at tree c.path ≡ some c.command → (m : Meets c r)
    → seen_of (executed tree (parse_command c)) ≡ seen_for (carried (handler_in r.frames) (concluded put r))
unfolding concluded
same_reach tree c r at m =
    let here : node_at tree r.path ≡ some (node_of m.tree) = ap (λ (x : Command). node_at tree x.path) (sym m.found) ∙ at ∙ ap (λ (x : Command). some x.command) m.found in
    let defs : List Frame = definitions_of (flatten m.depth (alone m.tree)) in
    rw (same_reached c r m, m.frames, tree_handler m.depth m.tree)
    (same_stand tree r.path (node_of m.tree) m.tree.handler here refl defs (args put defs (go none_found) r.words))

-- the words of a line under a forest
pub same_execute : (f : Forest) → orderly [] 0 f ≡ true → (words : List (List ℕ)) → seen_of (executed (commands_of f) (parse_tokens (commands_of f) words)) ≡ seen_for (execute (flatten 0 f) words)
unfolding parse_tokens find_command execute execute_in parse_in carried fault_message ascii
same_execute f o [] = ap (output 4) (unknown_told _)
same_execute f o (w ∷ words) = by (command w f o)
  where
    by : Sought (get w (commands_of f)) 0 (subtree 0 w (flatten 0 f)) → seen_of (executed (commands_of f) (parse_tokens (commands_of f) (w ∷ words))) ≡ seen_for (execute (flatten 0 f) (w ∷ words))
    by (nowhere a b) = rw (a, b) (ap (output 4) (unknown_told w))
    by (there t fine a b) =
        rw (a, b, some_frames Outcome 0 t)
        (same_reach (commands_of f) (deepest (node_of t) (w ∷ []) words) (descend 1 (flatten 0 (alone t)) (w ∷ []) words)
        (path_leads (commands_of f) w (node_of t) (deepest (node_of t) (w ∷ []) words) a (walked words (w ∷ []) (node_of t))) (meets words (w ∷ []) 0 t fine))
