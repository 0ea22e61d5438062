-- What the calls answer and leave, said by what the Rust does: the bytes that are written, the number of the standard beside them, and 9 where they don't fit.
-- (STANDARD 2.9)
use Rattle.std.specs.Prelude.{◌≡◌, ℕ, ◌<◌, ◌≤◌, Bool, List, [], length, Ok, Err, Result}
use Rattle.std.proofs.Math.Option.{Option, none, some}
use Rattle.buffer.specs.Write.{over}
use Rattle.text.specs.Decoding.{well_formed_length}
use Rattle.text.specs.Apart.{words_between}
use Rattle.frame.specs.Framed.{frame_of}
use Rattle.editor.specs.declared.drawing.Pressed.{Pressed}
use Rattle.editor.specs.declared.drawing.KeyRefusal.{KeyRefusal}
use Rattle.editor.specs.declared.drawing.Pressed.TheVariants.{Shown, Entered, Dropped}
use Rattle.editor.specs.declared.drawing.KeyRefusal.TheVariants.{BadState, BadPrompt, NoRoom as KeyNoRoom}
use Rattle.words.specs.Tokens.{word_frames}
use Rattle.words.specs.declared.tokenizer.TokenizeRefusal.{TokenizeRefusal}
use Rattle.words.specs.declared.tokenizer.TokenizeRefusal.TheVariants.{NoRoom as WordsNoRoom}
use Rattle.report.specs.Report.{fault_of}
use Rattle.parse.specs.Answer.{Parsing, number as parse_number, value as parse_value}
use Rattle.parse.specs.declared.answer.ParseRefusal.{ParseRefusal}
use Rattle.parse.specs.declared.answer.ParseRefusal.TheVariants.{NoRoom as ParseNoRoom}
use Rattle.help.specs.Answer.{Helping, number as help_number, value as help_value}
use Rattle.help.specs.declared.call.HelpRefusal.{HelpRefusal}
use Rattle.help.specs.declared.call.HelpRefusal.TheVariants.{NoWords, NoRoom as HelpNoRoom}
use Rattle.shell.specs.Answer.{Running}
use Rattle.shell.specs.declared.answer.Ran.{Ran}
use Rattle.shell.specs.declared.answer.RunRefusal.{RunRefusal}
use Rattle.shell.specs.declared.answer.Ran.TheVariants.{Nothing, Text, Exit, Handler}
use Rattle.shell.specs.declared.answer.RunRefusal.TheVariants.{NoRoom as RunNoRoom}
use Rattle.rust.specs.Tree.{Commands}
use Rattle.rust.specs.Parser.{ParsedCommand, Result as RustResult, ok, err, parse}
use Rattle.rust.specs.Help.{show_help}
use Rattle.rust.specs.Shell.{text_in, enter}
use Rattle.rust.specs.Loop.{Shell, Event, Loop, first_bytes, line_run}
use Rattle.rust.specs.Same.{written, at_enter, report_for, error_number, Seen, quiet, output, handed, exited, crashed, seen_of, QuotedAsIs}

-- bytes at the front of a buffer where they fit, and an answer that says so; else nothing, and the other answer
pub record Writes (bytes out left : List ℕ) (fits short : Type 0) : Type 0 where
  pub fitting : length bytes ≤ length out → fits × (left ≡ over bytes out)
  pub lacking : length out < length bytes → short × (left ≡ out)

abbrev pub result_number : {A : Type 0} → RustResult A → ℕ
result_number (ok a) = 0
result_number (err e) = error_number e

-- KEY: one turn of the loop. The call shows the bytes that the loop writes first and gives back the line that it runs, so that a caller who writes those, runs the line and
-- writes the prompt after Enter does what the loop does, in its order. Where the loop does nothing the answer may be dropped (2.9).
abbrev pub ToldAs : List ℕ → List Event → Result Pressed KeyRefusal → Type 0
ToldAs prompt events (Ok (Shown n)) = (n ≡ length (first_bytes events)) × (events ≡ written (first_bytes events))
ToldAs prompt events (Ok (Entered n)) = (n ≡ length (line_run events)) × (events ≡ at_enter prompt (first_bytes events) (line_run events))
ToldAs prompt events (Ok Dropped) = events ≡ []
ToldAs prompt events (Err BadState) = ⊥
ToldAs prompt events (Err (BadPrompt n)) = ⊥
ToldAs prompt events (Err (KeyNoRoom n)) = ⊥

pub record PressesAs (prompt : List ℕ) (turn : Loop) (line screen : List ℕ) (after : Shell) (r : Result Pressed KeyRefusal) (line' screen' : List ℕ) : Type 0 where
  pub state : after ≡ turn.after
  pub answer : ToldAs prompt turn.events r
  pub given : line' ≡ over (line_run turn.events) line
  pub shown : screen' ≡ over (first_bytes turn.events) screen

-- WORDS: a frame 14 for each token
abbrev pub SplitsAs : List (List ℕ) → List ℕ → Result ℕ TokenizeRefusal → List ℕ → Type 0
SplitsAs tokens out r left = Writes (word_frames tokens) out left (r ≡ Ok (length (word_frames tokens))) (r ≡ Err (WordsNoRoom (length (word_frames tokens))))

-- PARSE: the report of the command, or frame 1E with the error's text
abbrev pub parse_bytes : RustResult ParsedCommand → List ℕ
parse_bytes (ok command) = report_for command
parse_bytes (err e) = fault_of (text_in e)

abbrev pub ParsesAs : RustResult ParsedCommand → List ℕ → Result ℕ ParseRefusal → List ℕ → Type 0
ParsesAs result out r left =
    Writes (parse_bytes result) out left ((parse_number r ≡ result_number result) × (parse_value r ≡ length (parse_bytes result)))
    (r ≡ Err (ParseNoRoom (length (parse_bytes result))))

-- HELP: what is printed, or frame 1E with the unknown word; 14 where the Rust panics
abbrev pub help_bytes : RustResult (List ℕ) → List ℕ
help_bytes (ok text) = text
help_bytes (err e) = frame_of 0x1e (text_in e)

abbrev pub HelpsAs : Option (RustResult (List ℕ)) → List ℕ → Result ℕ HelpRefusal → List ℕ → Type 0
HelpsAs (some result) out r left =
    Writes (help_bytes result) out left ((help_number r ≡ result_number result) × (help_value r ≡ length (help_bytes result)))
    (r ≡ Err (HelpNoRoom (length (help_bytes result))))
HelpsAs none out r left = (r ≡ Err NoWords) × (left ≡ out)

-- RUN: nothing; what is printed, with its number; a handler with its report; or the end
abbrev pub seen_bytes : Seen → List ℕ
seen_bytes quiet = []
seen_bytes (output number bytes) = bytes
seen_bytes (handed handler report) = report
seen_bytes (exited bytes) = bytes
seen_bytes crashed = []

abbrev pub Says : Seen → Result Ran RunRefusal → Type 0
Says quiet r = r ≡ Ok Nothing
Says (output number bytes) r = r ≡ Ok (Text number (length bytes))
Says (handed handler report) r = r ≡ Ok (Handler handler (length report))
Says (exited bytes) r = r ≡ Ok (Exit (length bytes))
Says crashed r = ⊥

abbrev pub RunsAs : Seen → List ℕ → Result Ran RunRefusal → List ℕ → Type 0
RunsAs seen out r left = Writes (seen_bytes seen) out left (Says seen r) (r ≡ Err (RunNoRoom (length (seen_bytes seen))))

-- THE WHOLE: a line in the Rust's domain is well-formed and within the limit
pub record Fair (line : List ℕ) : Type 0 where
  pub short : length line ≤ 1024
  pub formed : well_formed_length line ≡ length line

-- under an image the calls do what the Rust does under a tree of its own. Running takes ill-formed lines too, as the Rust does; in the word that a help
-- line's `Debug` text quotes each character outside ASCII is to be one that the Rust prints as it is.
pub record SameAsRust (image : List ℕ) (tree : Commands) : Type 0 where
  pub parses : (line out left : List ℕ) (r : Result ℕ ParseRefusal) → Fair line → Parsing image line out r left → ParsesAs (parse tree line) out r left
  pub helps : (line out left : List ℕ) (r : Result ℕ HelpRefusal) → Fair line → Helping image line out r left → HelpsAs (show_help tree (words_between line)) out r left
  pub runs : (printable : ℕ → Bool) (line out left : List ℕ) (r : Result Ran RunRefusal) → length line ≤ 1024 → QuotedAsIs printable tree line → Running image line out r left
      → RunsAs (seen_of (enter printable tree line)) out r left
