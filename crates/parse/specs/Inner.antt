-- What only contracts of inner calls cite. How the code holds what a line says: a verdict, the command's place in the image and in the words, and the scan.
use Rattle.std.specs.Prelude.{ℕ, ◌*◌, ◌≤◌, ◌≡◌, List, [], length, take, drop, Ok, Err, Result, ⊤, Option}
use Rattle.std.proofs.Math.Option.{Option as Maybe, none, some}
use Rattle.frame.specs.Limits.{line_limit, frames_limit}
use Rattle.frame.specs.Series.{texts_in, AllFrames}
use Rattle.table.specs.Inner.{part_of}
use Rattle.image.specs.Frames.{Frame}
use Rattle.tree.specs.Images.{frames_of}
use Rattle.tree.specs.Rules.{image_limit, check_tree}
use Rattle.tree.specs.Commands.{Reached, reached_by, NodeFirst}
use Rattle.tree.specs.Trails.{image_part, Within, Descended, Leads}
use Rattle.tree.specs.declared.command.Place.{Place}
use Rattle.arguments.specs.Arguments.{Found}
use Rattle.arguments.specs.Inner.{stored, told_of, definitions_at, found_of, stand_of, WellSplit}
use Rattle.arguments.specs.declared.standing.Scan.{Scan}
use Rattle.parse.specs.Commands.{Outcome, parsed, fault, empty_command, outcome_of, concluded, parse_words}
use Rattle.parse.specs.Answer.{outcome_answer, outcome_leaves, on_checked}
use Rattle.parse.specs.declared.answer.ParseRefusal.{ParseRefusal}
use Rattle.parse.specs.declared.answer.ParseRefusal.TheVariants.{BadTree}
use Rattle.table.specs.declared.packing.Span.{Span}
use Rattle.parse.specs.declared.judging.Fault.{Fault}
use Rattle.parse.specs.declared.judging.Fault.TheVariants.{NoWords, UnknownCommand, UnknownOption, MissingValue, MissingRequired}
use Rattle.parse.specs.declared.judging.Judged.{Judged}

-- as many bytes as the words of a line may take: four for each byte of it
abbrev pub Enough : List ℕ → ℕ → Type 0
Enough line room = (room ≤ frames_limit) × (length line ≤ line_limit → 4 * length line ≤ room)

-- a required name that is missing, by where it stands in the command's part of the image
abbrev pub required_by : List ℕ → Result ⊤ Span → Maybe (List ℕ)
required_by part (Ok u) = none
required_by part (Err name) = some (part_of part name.start name.length)

-- what a verdict says
abbrev pub outcome_by : List ℕ → List ℕ → List (List ℕ) → Found → Result ⊤ Fault → Outcome
outcome_by words part path found (Ok u) = parsed path found
outcome_by words part path found (Err NoWords) = fault 4 empty_command
outcome_by words part path found (Err (UnknownCommand word)) = fault 4 (part_of words word.start word.length)
outcome_by words part path found (Err (UnknownOption told)) = fault 5 (told_of words told)
outcome_by words part path found (Err (MissingValue told)) = fault 6 (told_of words told)
outcome_by words part path found (Err (MissingRequired name)) = fault 7 (part_of part name.start name.length)

unfoldable pub outcome_in : List ℕ → List ℕ → List ℕ → Judged → Outcome
outcome_in words image rest j =
    outcome_by words (image_part image j.place) (texts_in (take j.place.at words)) (found_of words (image_part image j.place) rest j.scan) j.verdict

-- the number and the text of a fault, the text in its dashes and the part after them
abbrev pub fault_number : Fault → ℕ
fault_number NoWords = 4
fault_number (UnknownCommand word) = 4
fault_number (UnknownOption told) = 5
fault_number (MissingValue told) = 6
fault_number (MissingRequired name) = 7

abbrev pub fault_dashes : Fault → ℕ
fault_dashes NoWords = 0
fault_dashes (UnknownCommand word) = 0
fault_dashes (UnknownOption told) = told.dashes
fault_dashes (MissingValue told) = told.dashes
fault_dashes (MissingRequired name) = 0

abbrev pub fault_text : List ℕ → List ℕ → Fault → List ℕ
fault_text words part NoWords = empty_command
fault_text words part (UnknownCommand word) = part_of words word.start word.length
fault_text words part (UnknownOption told) = part_of words told.start told.length
fault_text words part (MissingValue told) = part_of words told.start told.length
fault_text words part (MissingRequired name) = part_of part name.start name.length

-- the same of a verdict: where it has no fault 0, no dashes and no text
abbrev pub number_of : Result ⊤ Fault → ℕ
number_of (Ok u) = 0
number_of (Err f) = fault_number f

abbrev pub dashes_of : Result ⊤ Fault → ℕ
dashes_of (Ok u) = 0
dashes_of (Err f) = fault_dashes f

abbrev pub text_of : List ℕ → List ℕ → Result ⊤ Fault → List ℕ
text_of words part (Ok u) = []
text_of words part (Err f) = fault_text words part f

-- words parted at a place: frames before it, and from it on words as they are split
pub record Parted (words : List ℕ) (at : ℕ) : Type 0 where
  pub path : AllFrames (take at words)
  pub later : WellSplit (drop at words)

-- what a report is lent of a judgement is frames up to the end: the words of the path, and the positional ones
pub record Lent (words rest : List ℕ) (j : Judged) : Type 0 where
  pub path : AllFrames (take j.place.at words)
  pub positionals : AllFrames (take j.scan.kept rest)

-- what was judged, what can be lent of it, and the frames of the command that was reached
pub record Judging (words image rest left : List ℕ) (j : Judged) (o : Outcome) (frames : List Frame) : Type 0 where
  pub outcome : outcome_in words image left j ≡ o
  pub within : Within words image j.place
  pub kept : j.scan.kept ≤ length left
  pub room : length left ≡ length rest
  pub lent : j.verdict ≡ Ok tt → Lent words left j
  pub command : j.verdict ≡ Ok tt → frames_of (image_part image j.place) ≡ frames

-- the verdict on a scan, whatever the path and the positionals are
abbrev pub Judges : List ℕ → List ℕ → ℕ → Scan → Result ⊤ Fault → Type 0
Judges words node first scan r =
    (path : List (List ℕ)) (rest : List ℕ) → outcome_by words node path (found_of words node rest scan) r ≡ outcome_of path (definitions_at node first) (stand_of words node rest scan)

-- what the arguments of a command ask, and what judging them comes to
abbrev pub ArgumentsAsk : List ℕ → List ℕ → Place → List ℕ → Type 0
ArgumentsAsk words image place rest =
    (length words ≤ frames_limit) × (length image ≤ image_limit) × (length words ≤ length rest) × Within words image place × NodeFirst (frames_of (image_part image place)) × Parted words place.at

abbrev pub ArgumentsJudged : List ℕ → List ℕ → Place → List ℕ → Judged → List ℕ → Type 0
ArgumentsJudged words image place rest r left = (to : Reached) → Descended words image place to → Judging words image rest left r (concluded stored to) to.frames

-- what the words of a line ask, and what judging them comes to
abbrev pub WordsAsk : List ℕ → List ℕ → Option Place → List ℕ → Type 0
WordsAsk words image found rest =
    (length words ≤ frames_limit) × (length words ≤ length rest) × (check_tree image ≡ Ok tt) × Leads words image found (reached_by image words) × WellSplit words

abbrev pub WordsJudged : List ℕ → List ℕ → List ℕ → Judged → List ℕ → Type 0
WordsJudged words image rest r left = Judging words image rest left r (parse_words (frames_of image) (texts_in words)) (reached_by image words).frames

-- what a judgement asks to be told
abbrev pub TellingAsks : List ℕ → List ℕ → Judged → List ℕ → Type 0
TellingAsks words image j rest =
    Within words image j.place × (j.scan.kept ≤ length rest) × (length rest ≤ frames_limit) × (length words ≤ frames_limit) × (length image ≤ image_limit) × (j.verdict ≡ Ok tt → Lent words rest j)

-- what a command asks to be parsed
abbrev pub CommandAsks : List ℕ → List ℕ → Option Place → List ℕ → Type 0
CommandAsks words image found rest =
    (length words ≤ length rest) × (length rest ≤ frames_limit) × (check_tree image ≡ Ok tt) × Leads words image found (reached_by image words) × WellSplit words

-- an outcome told: the answer, and what is left in the buffer
pub record Telling (o : Outcome) (out : List ℕ) (r : Result ℕ ParseRefusal) (left : List ℕ) : Type 0 where
  pub answer : r ≡ outcome_answer o (length out)
  pub bytes : left ≡ outcome_leaves o out

-- the words of a line told under a tree that may be bad
pub record Worded (image words out : List ℕ) (r : Result ℕ ParseRefusal) (left : List ℕ) : Type 0 where
  pub answer : r ≡ on_checked (check_tree image) (λ n. Err (BadTree n)) (outcome_answer (parse_words (frames_of image) (texts_in words)) (length out))
  pub bytes : left ≡ on_checked (check_tree image) (λ n. out) (outcome_leaves (parse_words (frames_of image) (texts_in words)) out)
