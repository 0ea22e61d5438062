-- What a line is answered (STANDARD 9; `handle_builtin_commands`, `run_cmd_bytes` and `execute_command` of 000).
use Rattle.std.specs.Prelude.{ℕ, Bool, cond, List, [], ◌∷◌, ◌++◌, eqb, take, drop}
use Rattle.buffer.specs.Compare.{same_bytes}
use Rattle.text.specs.Decoding.{is_ill_formed}
use Rattle.text.specs.Apart.{trimmed, blank, words_between}
use Rattle.words.specs.Tokens.{words_of}
use Rattle.image.specs.Frames.{Frame, node, option, flag}
use Rattle.tree.specs.Subtrees.{subtree}
use Rattle.tree.specs.Commands.{descend}
use Rattle.buffer.specs.Ascii.{ascii}
use Rattle.message.specs.Messages.{message, ill_formed, clear_screen}
use Rattle.message.specs.Debug.{unknown_help}
use Rattle.message.specs.declared.error.ParseError.{ParseError}
use Rattle.message.specs.declared.error.ParseError.TheVariants.{UnknownCommand, UnknownOption, MissingValue, MissingRequired, NoHandler}
use Rattle.help.specs.Texts.{spaced, available_text}
use Rattle.help.specs.Answer.{Reply, said, unknown, wordless, help_of}
use Rattle.parse.specs.Commands.{Outcome, parsed, fault, empty_command, parse_in}
use Rattle.parse.specs.Answer.{told_in}
use Rattle.shell.specs.declared.builtin.Builtin.{Builtin}
use Rattle.shell.specs.declared.builtin.Builtin.TheVariants.{Help, Exit, Clear, None}

-- nothing; a text, with the number of the standard beside it, 0 where it is no refusal; the end, with its text; or a handler with the report for it
-- (10.13)
pub data Said : Type 0 where
  silence : Said
  text : (number : ℕ) (bytes : List ℕ) → Said
  farewell : Said
  handed : (handler : ℕ) (report : List ℕ) → Said

-- a trimmed line that the shell answers by itself (9.1, 9.15)
unfoldable pub builtin_of : List ℕ → Builtin
builtin_of line =
    cond (same_bytes line (ascii "help")) Help
    (cond (same_bytes line (ascii "exit")) Exit
    (cond (same_bytes line (ascii "quit")) Exit
    (cond (same_bytes line (ascii "clear")) Clear
    None)))

abbrev pub on_builtin : {A : Type 0} → Builtin → A → A → A → A → A
on_builtin Help list leave wipe other = list
on_builtin Exit list leave wipe other = leave
on_builtin Clear list leave wipe other = wipe
on_builtin None list leave wipe other = other

-- an untrimmed line that begins `help `, and its other words, split on white space only (9.1, 9.2, 9.13)
unfoldable pub begins_help : List ℕ → Bool
begins_help line = same_bytes (take 5 line) (ascii "help ")

-- (9.2, 9.13)
unfoldable pub help_words : List ℕ → List (List ℕ)
help_words line = words_between (drop 5 line)

-- the answer to such words: with none the line is a bare `help`, trimmed, and is not asked here (9.2, 10.13)
abbrev pub help_said : Reply → Said
help_said (said bytes) = text 0 bytes
help_said (unknown word) = text 4 (unknown_help word)
help_said wordless = silence

-- the message of a fault by its number (9.4)
unfoldable pub fault_message : ℕ → ParseError
fault_message number = cond (eqb number 4) UnknownCommand (cond (eqb number 5) UnknownOption (cond (eqb number 6) MissingValue MissingRequired))

-- words joined by spaces (9.3)
unfoldable pub joined : List (List ℕ) → List ℕ
joined [] = []
joined (w ∷ words) = w ++ spaced words

-- the handler of the node that a subtree begins with, 0 where there is none (9.3, 12.8)
unfoldable pub handler_of : List Frame → ℕ
handler_of [] = 0
handler_of (node depth handler name description usage ∷ below) = handler
handler_of (option r c name long description ∷ below) = 0
handler_of (flag c name long description ∷ below) = 0

-- what a line says, carried out: a fault's message, or the handler's number with the report; handler 0 is fault 8 with the path (9.3, 10.13)
unfoldable pub carried : ℕ → Outcome → Said
carried handler (fault number told) = text number (message (fault_message number) told)
carried handler (parsed path found) = cond (eqb handler 0) (text 8 (message NoHandler (joined path))) (handed handler (told_in (parsed path found)))

-- `execute_command`: the command of a first word by its subtree, and the handler of the node that the words lead to (9.3, 12.4)
unfoldable pub execute_in : List Frame → List ℕ → List (List ℕ) → Said
execute_in frames w words = carried (handler_of (descend 1 frames (w ∷ []) words).frames) (parse_in frames w words)

-- (9.3)
unfoldable pub execute : List Frame → List (List ℕ) → Said
execute frames [] = carried 0 (fault 4 empty_command)
execute frames (w ∷ words) = execute_in (subtree 0 w frames) w words

-- a line that is no builtin when trimmed: with the word `help` and a space in front, help; otherwise trim, and blank does nothing (9.1 to 9.3)
unfoldable pub other_said : List Frame → List ℕ → Said
other_said frames line =
    cond (begins_help line) (help_said (help_of frames (help_words line)))
    (cond (blank line) silence (execute frames (words_of (trimmed line))))

-- a well-formed line (9.1, 9.15)
unfoldable pub line_said : List Frame → List ℕ → Said
line_said frames line = on_builtin (builtin_of (trimmed line)) (text 0 (available_text frames)) farewell (text 0 clear_screen) (other_said frames line)

-- any line under the frames of a tree (9.1, 10.13)
unfoldable pub said_of : List Frame → List ℕ → Said
said_of frames line = cond (is_ill_formed line) (text 3 ill_formed) (line_said frames line)
