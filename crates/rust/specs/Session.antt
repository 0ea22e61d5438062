-- What a session prints of the loop's events: bytes that are written are a frame 22; a line that is run is what it comes to, its output in a 22, its handler's call in a 21, the end in
-- a 23 after its output, and nothing comes after that (STANDARD 2.9).
use Rattle.std.specs.Prelude.{◌≡◌, ℕ, Bool, true, false, List, [], ◌∷◌, ◌++◌, Result}
use Rattle.editor.specs.Turns.{State}
use Rattle.session.specs.Prints.{Printed, handler, exit, shown}
use Rattle.session.specs.Lines.{keys, line_form, Course}
use Rattle.session.specs.Calls.{Laid}
use Rattle.session.specs.declared.running.Printing.{Printing}
use Rattle.session.specs.declared.running.PrintRefusal.{PrintRefusal}
use Rattle.rust.specs.Tree.{Commands}
use Rattle.rust.specs.Shell.{run_line}
use Rattle.rust.specs.Loop.{Shell, Event, writes, runs, Loop, prompt_without_fs, rust_key, rust_keys}
use Rattle.rust.specs.Same.{shell_of, Seen, quiet, output, handed, exited, crashed, seen_of, QuotedAsIs}

-- a turn of the loop without the feature fs, from a state of ours, and its turns
abbrev pub turn_from : State → ℕ → Loop
turn_from s byte = rust_key prompt_without_fs (shell_of s) byte

abbrev pub turns_from : State → List ℕ → Loop
turns_from s bytes = rust_keys prompt_without_fs (shell_of s) bytes

-- what a line comes to, before what the loop does next; a process that has ended or crashed does nothing more
abbrev pub seen_then : Seen → List Printed → List Printed
seen_then quiet more = more
seen_then (output number bytes) more = shown bytes ++ more
seen_then (handed number report) more = handler number report ∷ more
seen_then (exited bytes) more = shown bytes ++ (exit ∷ [])
seen_then crashed more = []

abbrev pub ends_then : Seen → Bool → Bool
ends_then quiet more = more
ends_then (output number bytes) more = more
ends_then (handed number report) more = more
ends_then (exited bytes) more = true
ends_then crashed more = true

unfoldable pub printed_by : (ℕ → Bool) → Commands → List Event → List Printed
printed_by printable tree [] = []
printed_by printable tree (writes bytes ∷ events) = shown bytes ++ printed_by printable tree events
printed_by printable tree (runs cmd bytes ∷ events) = seen_then (seen_of (run_line printable tree cmd bytes)) (printed_by printable tree events)

-- whether the process has ended
unfoldable pub ended_by : (ℕ → Bool) → Commands → List Event → Bool
ended_by printable tree [] = false
ended_by printable tree (writes bytes ∷ events) = ended_by printable tree events
ended_by printable tree (runs cmd bytes ∷ events) = ends_then (seen_of (run_line printable tree cmd bytes)) (ended_by printable tree events)

-- of each line that is run, until the process ends, the word that its `Debug` text quotes is printed as it is
abbrev pub Unless : Bool → Type 0 → Type 0
Unless true asked = Unit {0}
Unless false asked = asked

abbrev pub EachQuoted : (ℕ → Bool) → Commands → List Event → Type 0
EachQuoted printable tree [] = Unit {0}
EachQuoted printable tree (writes bytes ∷ events) = EachQuoted printable tree events
EachQuoted printable tree (runs cmd bytes ∷ events) =
    QuotedAsIs printable tree bytes × Unless (ends_then (seen_of (run_line printable tree cmd bytes)) false) (EachQuoted printable tree events)

-- KEYS: turns of the loop. What they print, whether the process has ended, and if not, where it stands.
pub record CourseAs (printable : ℕ → Bool) (tree : Commands) (turns : Loop) (course : Course) : Type 0 where
  pub prints : course.prints ≡ printed_by printable tree turns.events
  pub ends : course.ends ≡ ended_by printable tree turns.events
  pub after : course.ends ≡ false → shell_of course.after.state ≡ turns.after

-- house lines that are frames 20, and their key bytes one after the other
pub data KeyLines : List (List ℕ) → List ℕ → Type 0 where
  none : KeyLines [] []
  more : (line : List ℕ) {bytes : List ℕ} {lines : List (List ℕ)} {others : List ℕ} → line_form line ≡ keys bytes → KeyLines lines others → KeyLines (line ∷ lines) (bytes ++ others)

-- PRESS: one turn of the loop. The house lines in the out buffer are the frames of the loop's events, in its order, and the answer says whether they are the last.
pub record PrintsAs (printable : ℕ → Bool) (tree : Commands) (turn : Loop) (out : List ℕ) (after : Shell) (r : Result Printing PrintRefusal) (out' : List ℕ) : Type 0 where
  pub state : after ≡ turn.after
  pub lines : Laid (printed_by printable tree turn.events) (ended_by printable tree turn.events) out r out'
