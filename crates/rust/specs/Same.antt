-- Our answers as the Rust would give them: what the laws of this crate equate (STANDARD 9.6).
use Rattle.std.specs.Prelude.{◌≡◌, ℕ, Bool, true, cond, List, [], ◌∷◌, ◌++◌, drop, ◌==◌, nat_lt, Some, None, Option}
use Rattle.std.proofs.Math.Option.{Option as Maybe, none, some}
use Rattle.text.specs.Decoding.{codes_in}
use Rattle.history.specs.Journal.{Journal, entry_of, at_place}
use Rattle.history.specs.declared.stepping.Step.{Step}
use Rattle.keys.specs.declared.standing.Mode.{Mode}
use Rattle.keys.specs.declared.standing.Mode.TheVariants.{Typing, Escape, Sequence, Control}
use Rattle.editor.specs.Turns.{State}
use Rattle.buffer.specs.Ascii.{ascii}
use Rattle.image.specs.Limits.{both}
use Rattle.table.specs.Map.{Map}
use Rattle.report.specs.Report.{report_of}
use Rattle.parse.specs.Commands.{Outcome, parsed, fault}
use Rattle.help.specs.Answer.{Reply, said, unknown, wordless}
use Rattle.message.specs.Messages.{goodbye}
use Rattle.shell.specs.Lines.{Said, silence, text, farewell, handed as hands_over}
use Rattle.rust.specs.Std.{split_whitespace, starts_with, utf8_or_empty}
use Rattle.rust.specs.Tree.{Commands}
use Rattle.rust.specs.Parser.{BTreeMap, ParsedCommand, ParseError, UnknownCommand, UnknownOption, MissingValue, MissingRequiredOption, NoHandler, Result, ok, err}
use Rattle.rust.specs.Help.{show_help}
use Rattle.rust.specs.Shell.{Effect, returns, prints, fails, garbled, calls, exits, panics, text_in}
use Rattle.rust.specs.History.{CommandHistory, Stepped}
use Rattle.rust.specs.Loop.{InputState, Normal, Escape as EscapeState, EscapeSeq, Shell, Event, writes, runs}

-- the Rust's history with the entries and the place of ours
abbrev pub original : Journal → CommandHistory
original j = record { history = j.entries; index = j.place; size = 100 }

-- a step of ours in a history: the place that it leads to, and the entry of the number that it recalls
abbrev pub recalled_in : Journal → Option ℕ → Maybe (List ℕ)
recalled_in j (Some n) = some (entry_of j n)
recalled_in j None = none

abbrev pub step_in : Journal → Step → Stepped
step_in j step = record { after = original (at_place j step.history.place); text = recalled_in j step.recalled }

-- the Rust's shell in a state of ours; a good state of the Rust's profile is in no control sequence (2.22, 2.23)
abbrev pub input_of : Mode → InputState
input_of Typing = Normal
input_of Escape = EscapeState
input_of Sequence = EscapeSeq
input_of (Control p) = EscapeSeq

abbrev pub shell_of : State → Shell
shell_of s = record { buf = s.line; cursor = s.cursor; input = input_of s.mode; history = original s.history }

-- what a caller of ours does with bytes that are shown, and at Enter with the line that is submitted: it writes them, it runs the line, and writes the prompt
abbrev pub written : List ℕ → List Event
written [] = []
written (b ∷ bytes) = writes (b ∷ bytes) ∷ []

abbrev pub entered : List ℕ → List Event
entered [] = []
entered (b ∷ line) = runs (utf8_or_empty (b ∷ line)) (b ∷ line) ∷ []

abbrev pub at_enter : List ℕ → List ℕ → List ℕ → List Event
at_enter prompt bytes line = writes bytes ∷ (entered line ++ (writes prompt ∷ []))

-- BTreeMap<String, bool>: each flag that was found is true
unfoldable pub flags_for : Map → BTreeMap Bool
flags_for [] = []
flags_for (e ∷ m) = (e.0, true) ∷ flags_for m

-- the variant of a fault's number, 4 to 7
unfoldable pub error_for : ℕ → List ℕ → ParseError
error_for number told = cond (number == 4) (UnknownCommand told) (cond (number == 5) (UnknownOption told) (cond (number == 6) (MissingValue told) (MissingRequiredOption told)))

-- Ok with the command that a line says, or Err with its fault
abbrev pub result_for : Outcome → Result ParsedCommand
result_for (parsed path found) = ok (record { path = path; options = found.options; flags = flags_for found.flags; positional = found.positionals })
result_for (fault number told) = err (error_for number told)

-- what show_help does where help replies: it prints, or its error; with no words it panics
abbrev pub reply_for : Reply → Maybe (Result (List ℕ))
reply_for (said bytes) = some (ok bytes)
reply_for (unknown word) = some (err (UnknownCommand word))
reply_for wordless = none

-- what the console sees of a line: nothing, an output with the number of the standard beside it, a handler with its report, the end with its output, or a crash
pub data Seen : Type 0 where
  quiet : Seen
  output : (number : ℕ) (bytes : List ℕ) → Seen
  handed : (handler : ℕ) (report : List ℕ) → Seen
  exited : List ℕ → Seen
  crashed : Seen

-- the number of the standard for an error
abbrev pub error_number : ParseError → ℕ
error_number (UnknownCommand t) = 4
error_number (UnknownOption t) = 5
error_number (MissingValue t) = 6
error_number (MissingRequiredOption t) = 7
error_number (NoHandler t) = 8

-- our report of the command that a handler of the Rust is called with
unfoldable pub keys_of : BTreeMap Bool → Map
keys_of [] = []
keys_of (e ∷ m) = (e.0, []) ∷ keys_of m

unfoldable pub report_for : ParsedCommand → List ℕ
report_for command = report_of command.path command.options (keys_of command.flags) command.positional

abbrev pub seen_of : Effect → Seen
seen_of returns = quiet
seen_of (prints bytes) = output 0 bytes
seen_of (fails e bytes) = output (error_number e) bytes
seen_of (garbled bytes) = output 3 bytes
seen_of (calls handler command) = handed handler (report_for command)
seen_of (exits bytes) = exited bytes
seen_of panics = crashed

-- the same of our answer
abbrev pub seen_for : Said → Seen
seen_for silence = quiet
seen_for (text number bytes) = output number bytes
seen_for farewell = exited goodbye
seen_for (hands_over handler report) = handed handler report

-- characters of which each outside ASCII is one that the Rust's tables print as it is: a `Debug` text copies those, and ours copies all (docs/DIFFERENCES.md)
unfoldable pub all_printed : (ℕ → Bool) → List ℕ → Bool
all_printed printable [] = true
all_printed printable (c ∷ chars) = both (cond (nat_lt c 0x80) true (printable c)) (all_printed printable chars)

-- the word that a line's `Debug` text quotes: the text of e where handle_builtin_commands(input) comes to println!("Error: {:?}", e), and nothing elsewhere
abbrev pub word_in : Maybe (Result (List ℕ)) → List ℕ
word_in (some (ok bytes)) = []
word_in (some (err e)) = text_in e
word_in none = []

-- (9.6)
unfoldable pub debugged : Commands → List ℕ → List ℕ
debugged tree input = cond (starts_with (ascii "help ") input) (word_in (show_help tree (split_whitespace (drop 5 input)))) []

-- that word of a line is one whose characters are printed as they are (9.6)
abbrev pub QuotedAsIs : (ℕ → Bool) → Commands → List ℕ → Type 0
QuotedAsIs printable tree line = all_printed printable (codes_in (debugged tree (utf8_or_empty line))) ≡ true
