-- The number beside a text of `run`, and the Rust's message that goes with it: 3 to 8 for what it refuses, a help line's 4 too, and 0 for what is no refusal.
use Prim.Native.Nat.{ℕ}
use mathlib.Core.Bool.{Bool, true, false, cond}
use mathlib.Core.List.{List, [], ◌∷◌}
use lib.Dec.{ltb, eqb}
use lib.ListN.{length}
use Rattle.text.specs.Decoding.{well_formed_length}
use Rattle.text.specs.Apart.{trimmed, blank}
use Rattle.words.specs.Tokens.{words_of}
use Rattle.image.specs.Frames.{Frame}
use Rattle.tree.specs.Images.{frames_of}
use Rattle.tree.specs.Subtrees.{subtree}
use Rattle.tree.specs.Commands.{descend}
use Rattle.message.specs.Messages.{message, ill_formed, clear_screen}
use Rattle.message.specs.Debug.{unknown_help}
use Rattle.message.specs.declared.error.ParseError.TheVariants.{UnknownCommand, UnknownOption, MissingValue, MissingRequired, NoHandler}
use Rattle.help.specs.Answer.{Reply, said, unknown, wordless, help_of}
use Rattle.parse.specs.Commands.{Outcome, parse_words, parse_line}
use Rattle.parse.proofs.Answers.{Numbered, report, four, five, six, seven, numbered}
use Rattle.shell.specs.Lines.{Said, silence, text, farewell, handed, builtin_of, on_builtin, begins_help, help_words, help_said, fault_message, joined, handler_of, carried, execute_in, execute, other_said, line_said, said_of}
use Rattle.shell.specs.declared.builtin.Builtin.{Builtin}
use Rattle.shell.specs.declared.builtin.Builtin.TheVariants.{Help, Exit, Clear, None}

-- a number, and the text that it stands beside
pub data Beside : ℕ → List ℕ → Type 0 where
  no_refusal : {bytes : List ℕ} → Beside 0 bytes
  ill_formed_lem : Beside 3 ill_formed
  unknown_command : (word : List ℕ) → Beside 4 (message UnknownCommand word)
  unknown_help_lem : (word : List ℕ) → Beside 4 (unknown_help word)
  unknown_option_lem : (told : List ℕ) → Beside 5 (message UnknownOption told)
  missing_value_lem : (told : List ℕ) → Beside 6 (message MissingValue told)
  missing_required_lem : (name : List ℕ) → Beside 7 (message MissingRequired name)
  no_handler : (path : List (List ℕ)) → Beside 8 (message NoHandler (joined path))

-- what is said is no text, or one with its number
abbrev pub Fitting : Said → Type 0
Fitting silence = Unit {0}
Fitting (text number bytes) = Beside number bytes
Fitting farewell = Unit {0}
Fitting (handed handler frames) = Unit {0}

either : (t : Bool) (x y : Said) → Fitting x → Fitting y → Fitting (cond t x y)
either true x y p q = p
either false x y p q = q

carried_fits : (handler : ℕ) (o : Outcome) → Numbered o → Fitting (carried handler o)
unfolding carried fault_message
carried_fits handler _ (report {path}) = either (eqb handler 0) _ _ (no_handler path) tt
carried_fits handler _ (four {told}) = unknown_command told
carried_fits handler _ (five {told}) = unknown_option_lem told
carried_fits handler _ (six {told}) = missing_value_lem told
carried_fits handler _ (seven {told}) = missing_required_lem told

execute_fits : (frames : List Frame) (words : List (List ℕ)) → Numbered (parse_words frames words) → Fitting (execute frames words)
unfolding execute execute_in parse_words
execute_fits frames [] n = carried_fits 0 (parse_words frames []) n
execute_fits frames (w ∷ words) n = carried_fits (handler_of (descend 1 (subtree 0 w frames) (w ∷ []) words).frames) (parse_words frames (w ∷ words)) n

help_fits : (r : Reply) → Fitting (help_said r)
help_fits (said bytes) = no_refusal
help_fits (unknown word) = unknown_help_lem word
help_fits wordless = tt

builtin_fits : (x : Builtin) (list s : Said) → Fitting list → Fitting s → Fitting (on_builtin x list farewell (text 0 clear_screen) s)
builtin_fits Help list s p q = p
builtin_fits Exit list s p q = tt
builtin_fits Clear list s p q = no_refusal
builtin_fits None list s p q = q

pub texts_fit : (image line : List ℕ) → Fitting (said_of (frames_of image) line)
unfolding said_of line_said other_said parse_line
texts_fit image line =
    either (ltb (well_formed_length line) (length line)) _ _ ill_formed_lem
    (builtin_fits (builtin_of (trimmed line)) _ _ no_refusal
    (either (begins_help line) _ _ (help_fits (help_of (frames_of image) (help_words line)))
    (either (blank line) _ _ tt (execute_fits (frames_of image) (words_of (trimmed line)) (numbered image (trimmed line))))))
