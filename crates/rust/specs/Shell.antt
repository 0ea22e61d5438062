-- The Rust's `run_cmd_bytes`, `execute_command` and `handle_builtin_commands` on values: what they print, call and end (STANDARD 9.1, 9.6).
use Rattle.std.specs.Prelude.{ℕ, zero, suc, ◌/◌, ◌%◌, Bool, true, false, cond, List, [], ◌∷◌, ◌++◌, drop, ◌==◌, nat_lt}
use Rattle.std.proofs.Math.Option.{Option, none, some}
use Rattle.buffer.specs.Compare.{same_bytes}
use Rattle.buffer.specs.Ascii.{ascii}
use Rattle.rust.specs.Std.{chars_of, hex_digit, if_some, is_empty, is_utf8, join, println, split_whitespace, starts_with, trim, utf8, utf8_or_empty}
use Rattle.rust.specs.Tree.{CommandNode, Commands, handler_of, subcommands_of, get}
use Rattle.rust.specs.Parser.{ParsedCommand, ParseError, UnknownCommand, UnknownOption, MissingValue, MissingRequiredOption, NoHandler, Result, ok, err, parse}
use Rattle.rust.specs.Help.{show_help, show_available_commands}

-- what a line comes to: nothing; a text that is printed, by itself or on an error, its own or that of `from_utf8`; a handler that is called with a command;
-- the end of the process, with what was printed; or a panic
pub data Effect : Type 0 where
  returns : Effect
  prints : List ℕ → Effect
  fails : ParseError → List ℕ → Effect
  garbled : List ℕ → Effect
  calls : (handler : ℕ) (command : ParsedCommand) → Effect
  exits : List ℕ → Effect
  panics : Effect

-- for cmd in &parsed.command_path[1..] { current_node = current_node.subcommands.get(cmd).unwrap(); }, where an unwrap() that panics is none
unfoldable pub along : CommandNode → List (List ℕ) → Option CommandNode
along command [] = some command
along command (cmd ∷ path) = if_some (get cmd (subcommands_of command)) (λ subcommand. along subcommand path) none

-- COMMAND_TREE.get(&parsed.command_path[0]).unwrap()
unfoldable pub node_at : Commands → List (List ℕ) → Option CommandNode
node_at tree [] = none
node_at tree (cmd ∷ path) = if_some (get cmd tree) (λ command. along command path) none

-- println!s for an error
unfoldable pub report : ParseError → List ℕ
report (UnknownCommand cmd) = println (ascii "Error: Unknown command '" ++ cmd ++ ascii "'") ++ println (ascii "Type 'help' to see available commands")
report (UnknownOption opt) = println (ascii "Error: Unknown option '" ++ opt ++ ascii "'")
report (MissingValue opt) = println (ascii "Error: Option '" ++ opt ++ ascii "' is missing a value")
report (MissingRequiredOption opt) = println (ascii "Error: Missing required option '" ++ opt ++ ascii "'")
report (NoHandler cmd) = println (ascii "Error: Command '" ++ cmd ++ ascii "' has no handler function")

abbrev pub failed : ParseError → Effect
failed e = fails e (report e)

-- if let Some(handler) = current_node.handler { handler(&parsed); Ok(()) } else { Err(ParseError::NoHandler(parsed.command_path.join(" "))) }
unfoldable pub handle : ParsedCommand → CommandNode → Effect
handle parsed command = if_some (handler_of command) (λ handler. calls handler parsed) (failed (NoHandler (join parsed.path)))

-- match execute_command(trimmed) { Ok(_) => {}, Err(ParseError::UnknownCommand(cmd)) => .. }
abbrev pub executed : Commands → Result ParsedCommand → Effect
executed tree (ok parsed) = if_some (node_at tree parsed.path) (handle parsed) panics
executed tree (err e) = failed e

unfoldable pub execute_command : Commands → List ℕ → Effect
execute_command tree input = executed tree (parse tree input)

-- pub fn run_cmd_bytes(cmd_bytes: &[u8]) (9.1)
unfoldable pub run_cmd_bytes : Commands → List ℕ → Effect
run_cmd_bytes tree bytes =
    cond (is_utf8 bytes) (cond (is_empty (trim bytes)) returns (execute_command tree (trim bytes)))
    (garbled (println (ascii "Error: Input contains invalid UTF-8 characters")))

-- `\u{..}`: a character's code in hexadecimal, without a leading 0
unfoldable pub hex_in : ℕ → ℕ → List ℕ
hex_in zero n = []
hex_in (suc most) n = cond (nat_lt n 16) (hex_digit n ∷ []) (hex_in most (n / 16) ++ (hex_digit (n % 16) ∷ []))

unfoldable pub escape_unicode : ℕ → List ℕ
escape_unicode c = ascii "\\u{" ++ hex_in 6 c ++ ascii "}"

-- core's `char::escape_debug_ext` within a `str`. Which characters from 80 on are printed as they are is a matter of its tables: `printable` stands for them.
unfoldable pub is_printable : (ℕ → Bool) → ℕ → Bool
is_printable printable c = cond (nat_lt c 0x20) false (cond (nat_lt c 0x7f) true (cond (c == 0x7f) false (printable c)))

-- (9.6)
unfoldable pub escape_debug : (ℕ → Bool) → ℕ → List ℕ
escape_debug printable c =
    cond (c == 0x00) (ascii "\\0")
    (cond (c == 0x09) (ascii "\\t")
    (cond (c == 0x0d) (ascii "\\r")
    (cond (c == 0x0a) (ascii "\\n")
    (cond (c == 0x5c) (ascii "\\\\")
    (cond (c == 0x22) (ascii "\\\"")
    (cond (is_printable printable c) (utf8 c)
    (escape_unicode c)))))))

unfoldable pub debug_chars : (ℕ → Bool) → List ℕ → List ℕ
debug_chars printable [] = []
debug_chars printable (c ∷ chars) = escape_debug printable c ++ debug_chars printable chars

-- {:?} of an error, by #[derive(Debug)]: the variant, and its text in quotes
abbrev pub variant : ParseError → List ℕ
variant (UnknownCommand t) = ascii "UnknownCommand"
variant (UnknownOption t) = ascii "UnknownOption"
variant (MissingValue t) = ascii "MissingValue"
variant (MissingRequiredOption t) = ascii "MissingRequiredOption"
variant (NoHandler t) = ascii "NoHandler"

abbrev pub text_in : ParseError → List ℕ
text_in (UnknownCommand t) = t
text_in (UnknownOption t) = t
text_in (MissingValue t) = t
text_in (MissingRequiredOption t) = t
text_in (NoHandler t) = t

unfoldable pub debug_error : (ℕ → Bool) → ParseError → List ℕ
debug_error printable e = variant e ++ ascii "(\"" ++ debug_chars printable (chars_of (text_in e)) ++ ascii "\")"

-- if let Err(e) = show_help(&cmd_parts) { println!("Error: {:?}", e); }
abbrev pub helped : (ℕ → Bool) → Result (List ℕ) → Effect
helped printable (ok text) = prints text
helped printable (err e) = fails e (println (ascii "Error: " ++ debug_error printable e))

-- pub fn handle_builtin_commands(input: &str) -> bool: what it does where it answers true, none where it answers false (9.1)
unfoldable pub handle_builtin_commands : (ℕ → Bool) → Commands → List ℕ → Option Effect
handle_builtin_commands printable tree input =
    cond (same_bytes (trim input) (ascii "help")) (some (prints (show_available_commands tree)))
    (cond (cond (same_bytes (trim input) (ascii "exit")) true (same_bytes (trim input) (ascii "quit"))) (some (exits (println (ascii "Goodbye!"))))
    (cond (same_bytes (trim input) (ascii "clear")) (some (prints (0x1b ∷ ascii "[2J" ++ 0x1b ∷ ascii "[H")))
    (cond (starts_with (ascii "help ") input) (some (if_some (show_help tree (split_whitespace (drop 5 input))) (helped printable) panics))
    none)))

-- shell/mod.rs: if !handle_builtin_commands(cmd_str) { run_cmd_bytes(&buf[..line_len]); }
unfoldable pub run_line : (ℕ → Bool) → Commands → List ℕ → List ℕ → Effect
run_line printable tree cmd bytes = if_some (handle_builtin_commands printable tree cmd) (λ e. e) (run_cmd_bytes tree bytes)

-- the same of a line: let cmd_str = std::str::from_utf8(&buf[..line_len]).unwrap_or("");
unfoldable pub enter : (ℕ → Bool) → Commands → List ℕ → Effect
enter printable tree line = run_line printable tree (utf8_or_empty line) line
