-- What only contracts of inner calls cite. What the code holds of a line before it is run: its words as frames, where they lead in the tree, and the handler there.
use Rattle.tree.specs.declared.command.Place.{Place}
use Rattle.std.specs.Prelude.{ℕ, ◌≤◌, ◌≡◌, cond, List, eqb, length, take, Option, Some, None, Ok, Err, Result}
use Rattle.text.specs.Decoding.{well_formed_length}
use Rattle.text.specs.Apart.{trimmed}
use Rattle.frame.specs.Limits.{line_limit, frames_limit}
use Rattle.frame.specs.Series.{texts_in}
use Rattle.words.specs.Tokens.{words_of}
use Rattle.arguments.specs.Inner.{WellSplit}
use Rattle.tree.specs.Rules.{image_limit, check_tree}
use Rattle.tree.specs.Commands.{reached_by}
use Rattle.tree.specs.Trails.{Within, Leads}
use Rattle.parse.specs.Inner.{outcome_in, Lent}
use Rattle.parse.specs.declared.judging.Judged.{Judged}
use Rattle.parse.specs.declared.judging.Fault.{Fault}
use Rattle.parse.specs.declared.judging.Fault.TheVariants.{NoWords, UnknownCommand as NoCommand, UnknownOption as NoOption, MissingValue as NoValue, MissingRequired as Lacking}
use Rattle.message.specs.declared.error.ParseError.{ParseError}
use Rattle.message.specs.declared.error.ParseError.TheVariants.{UnknownCommand, UnknownOption, MissingValue, MissingRequired}
use Rattle.shell.specs.Lines.{Said, carried}
use Rattle.shell.specs.Answer.{said_answer, said_leaves}
use Rattle.shell.specs.declared.answer.Ran.{Ran}
use Rattle.shell.specs.declared.answer.RunRefusal.{RunRefusal}

-- the words of a line that is not refused, once it is trimmed
unfoldable pub Splits : List ℕ → List ℕ → Type 0
Splits line words = length line ≤ line_limit → well_formed_length line ≡ length line → texts_in words ≡ words_of (trimmed line)

-- a line that is not refused under a well-formed tree, its words, and the command that they lead to
pub record Ready (image line words : List ℕ) (found : Option Place) : Type 0 where
  pub good : check_tree image ≡ Ok tt
  pub short : length line ≤ line_limit
  pub whole : well_formed_length line ≡ length line
  pub room : length words ≤ frames_limit
  pub split : texts_in words ≡ words_of (trimmed line)
  pub well : WellSplit words
  pub leads : Leads words image found (reached_by image words)

-- the handler of a number, which 0 is not
abbrev pub handler_by : ℕ → Option ℕ
handler_by n = cond (eqb n 0) None (Some n)

-- the message of a fault
abbrev pub error_of : Fault → ParseError
error_of NoWords = UnknownCommand
error_of (NoCommand word) = UnknownCommand
error_of (NoOption told) = UnknownOption
error_of (NoValue told) = MissingValue
error_of (Lacking name) = MissingRequired

-- a line split into words at the front of a buffer: n bytes of them, and the line's words unless it is refused
abbrev pub SplitInto : List ℕ → ℕ → List ℕ → Type 0
SplitInto line n left =
    (n ≤ frames_limit) × (length left ≡ frames_limit) × (length line ≤ line_limit → well_formed_length line ≡ length line → texts_in (take n left) ≡ words_of line) × WellSplit (take n left)

-- what the words of a line ask to be executed
abbrev pub ExecutionAsks : List ℕ → List ℕ → Option Place → Type 0
ExecutionAsks words image found = (length words ≤ frames_limit) × (check_tree image ≡ Ok tt) × Leads words image found (reached_by image words) × WellSplit words

-- what a fault that was judged asks to be told
abbrev pub FaultAsks : List ℕ → List ℕ → Judged → Fault → Type 0
FaultAsks words image j fault = Within words image j.place × (length words ≤ frames_limit) × (length image ≤ image_limit) × (j.verdict ≡ Err fault)

-- what a judgement asks to be handed out as a command
abbrev pub HandingAsks : List ℕ → List ℕ → Judged → List ℕ → Type 0
HandingAsks words image j rest =
    Within words image j.place × (j.scan.kept ≤ length rest) × (length rest ≤ frames_limit) × (length words ≤ frames_limit) × (j.verdict ≡ Ok tt) × Lent words rest j

-- what is said, by itself: the answer, and what is left in the buffer
pub record Answered (s : Said) (out : List ℕ) (r : Result Ran RunRefusal) (left : List ℕ) : Type 0 where
  pub answer : r ≡ said_answer s (length out)
  pub bytes : left ≡ said_leaves s out

-- a fault told, whatever the handler is and the positional words
abbrev pub FaultTold : List ℕ → List ℕ → Judged → List ℕ → Result Ran RunRefusal → List ℕ → Type 0
FaultTold words image j out r left = (n : ℕ) (rest : List ℕ) → Answered (carried n (outcome_in words image rest j)) out r left

-- a command handed out to its handler, if it has one
abbrev pub HandedOut : List ℕ → List ℕ → Judged → List ℕ → Option ℕ → List ℕ → Result Ran RunRefusal → List ℕ → Type 0
HandedOut words image j rest handler out r left = (n : ℕ) → handler ≡ handler_by n → Answered (carried n (outcome_in words image rest j)) out r left
