-- What a line says (STANDARD 7; `CommandParser::parse` of 000): the command that its words name, its arguments, or the fault.
use Rattle.std.specs.Prelude.{ℕ, Bool, false, cond, not, List, [], ◌∷◌, eqb}
use Rattle.std.proofs.Math.Option.{Option, none, some}
use Rattle.table.specs.Map.{Map, put, has}
use Rattle.words.specs.Tokens.{words_of}
use Rattle.image.specs.Frames.{Frame, node, option, flag}
use Rattle.tree.specs.Images.{frames_of}
use Rattle.tree.specs.Subtrees.{subtree}
use Rattle.tree.specs.Commands.{Reached, on_subtree, descend}
use Rattle.arguments.specs.Meanings.{definitions_of, name_of}
use Rattle.arguments.specs.Arguments.{Found, none_found, Insert, Stand, go, wait, unknown_option, missing_value, args}

-- an option that is required and whose name is no key (7.13)
abbrev pub lacking : ℕ → List ℕ → Map → Bool
lacking required name options = cond (eqb required 1) (not (has name options)) false

-- (7.13)
unfoldable pub is_missing : Map → Frame → Bool
is_missing options (node depth handler name description usage) = false
is_missing options (option required short name long description) = lacking required name options
is_missing options (flag short name long description) = false

-- required names are looked up among the keys in definition order (7.13)
unfoldable pub missing_required : List Frame → Map → Option (List ℕ)
missing_required [] options = none
missing_required (f ∷ defs) options = cond (is_missing options f) (some (name_of f)) (missing_required defs options)

-- what a line says: a command, or a fault by its number and its text
pub data Outcome : Type 0 where
  parsed : (path : List (List ℕ)) (found : Found) → Outcome
  fault : (number : ℕ) (told : List ℕ) → Outcome

abbrev pub on_missing : {A : Type 0} → Option (List ℕ) → (List ℕ → A) → A → A
on_missing none missing fine = fine
on_missing (some name) missing fine = missing name

-- the end of the words: an option that still waits has no value, and then what is required must be there (7.7, 7.8, 7.14)
abbrev pub outcome_of : List (List ℕ) → List Frame → Stand → Outcome
outcome_of path defs (go found) = on_missing (missing_required defs found.options) (λ name. fault 7 name) (parsed path found)
outcome_of path defs (wait found key told) = fault 6 told
outcome_of path defs (unknown_option told) = fault 5 told
outcome_of path defs (missing_value told) = fault 6 told

-- the arguments of the command that was reached, with a map's insert (7.4)
unfoldable pub concluded : Insert → Reached → Outcome
concluded insert r = outcome_of r.path (definitions_of r.frames) (args insert (definitions_of r.frames) (go none_found) r.words)

-- a line whose first word names the command of that subtree, which is empty if there is none (7.2, 7.3, 12.4)
unfoldable pub parse_in : List Frame → List ℕ → List (List ℕ) → Outcome
parse_in frames w words = on_subtree frames (fault 4 w) (λ found. concluded put (descend 1 found (w ∷ []) words))

-- `empty command` (7.1, 10.11)
abbrev pub empty_command : List ℕ
empty_command = 0x65 ∷ 0x6d ∷ 0x70 ∷ 0x74 ∷ 0x79 ∷ 0x20 ∷ 0x63 ∷ 0x6f ∷ 0x6d ∷ 0x6d ∷ 0x61 ∷ 0x6e ∷ 0x64 ∷ []

-- (7.1, 7.2, 7.14, 12.9)
unfoldable pub parse_words : List Frame → List (List ℕ) → Outcome
parse_words frames [] = fault 4 empty_command
parse_words frames (w ∷ words) = parse_in (subtree 0 w frames) w words

-- a line under a tree (7.1)
unfoldable pub parse_line : List ℕ → List ℕ → Outcome
parse_line image line = parse_words (frames_of image) (words_of line)
