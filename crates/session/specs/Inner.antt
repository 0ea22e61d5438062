-- What only contracts of inner functions cite: a line that was run, and what a key did, printed at a place.
use Rattle.std.specs.Prelude.{ℕ, ◌+◌, ◌≤◌, ◌≡◌, false, List, [], ◌++◌, length, take, drop, Ok, Err, Result}
use Rattle.buffer.specs.Write.{over_at}
use Rattle.image.specs.Frames.{Frame}
use Rattle.tree.specs.Images.{frames_of}
use Rattle.tree.specs.Rules.{check_tree}
use Rattle.editor.specs.Turns.{line_feed}
use Rattle.editor.specs.declared.drawing.Pressed.{Pressed}
use Rattle.editor.specs.declared.drawing.KeyRefusal.{KeyRefusal}
use Rattle.editor.specs.declared.drawing.Pressed.TheVariants.{Shown, Entered, Dropped}
use Rattle.shell.specs.Lines.{Said, said_of}
use Rattle.shell.specs.Answer.{bytes_of, named}
use Rattle.shell.specs.declared.answer.Ran.{Ran}
use Rattle.shell.specs.declared.answer.RunRefusal.{RunRefusal}
use Rattle.shell.specs.declared.answer.Ran.TheVariants.{Nothing, Text, Exit, Handler}
use Rattle.session.specs.Prints.{lines_of, shown, answered, leaves}
use Rattle.session.specs.Calls.{printing, Laid}
use Rattle.session.specs.declared.running.Printing.{Printing}
use Rattle.session.specs.declared.running.PrintRefusal.{PrintRefusal}
use Rattle.session.specs.declared.running.PrintRefusal.TheVariants.{BadState}

-- what a line said lies within a buffer of so many bytes
abbrev pub Fits : Ran → ℕ → Type 0
Fits Nothing room = Unit {0}
Fits (Text m n) room = n ≤ room
Fits (Exit n) room = n ≤ room
Fits (Handler h n) room = n ≤ room

-- a line that was run: what it said is the answer, and stands in a buffer from place 3 on
pub record Says (said : Said) (ran : Result Ran RunRefusal) (text : List ℕ) : Type 0 where
  pub answer : ran ≡ named said (length (bytes_of said))
  pub bytes : take (length (bytes_of said)) (drop 3 text) ≡ bytes_of said

pub record Answers (said : Said) (out : List ℕ) (at : ℕ) (r : Result Printing PrintRefusal) (left : List ℕ) : Type 0 where
  pub answer : r ≡ printing (leaves said) (at + length (lines_of (answered said)))
  pub bytes : left ≡ over_at (lines_of (answered said)) out at

-- Enter
abbrev pub Enters : List Frame → List ℕ → List ℕ → Result Printing PrintRefusal → List ℕ → Type 0
Enters frames line out r left = Laid (shown line_feed ++ answered (said_of frames line)) (leaves (said_of frames line)) out r left

-- bytes that were shown lie within their buffer; a line has at most 255 bytes, and is run under a well-formed tree
abbrev pub Within : List ℕ → Result Pressed KeyRefusal → Type 0
Within image (Ok (Shown n)) = n ≤ 1023
Within image (Ok (Entered n)) = (check_tree image ≡ Ok tt) × (n ≤ 255)
Within image (Ok Dropped) = Unit {0}
Within image (Err refusal) = Unit {0}

-- what a key did, by its answer, the line that it submitted and the screen bytes after their kind
abbrev pub Tells : Result Pressed KeyRefusal → List ℕ → List ℕ → List ℕ → List ℕ → Result Printing PrintRefusal → List ℕ → Type 0
Tells (Ok (Shown n)) image line screen out r left = Laid (shown (take n (drop 1 screen))) false out r left
Tells (Ok (Entered n)) image line screen out r left = Enters (frames_of image) (take n line) out r left
Tells (Ok Dropped) image line screen out r left = Laid [] false out r left
Tells (Err refusal) image line screen out r left = (r ≡ Err BadState) × (left ≡ out)
