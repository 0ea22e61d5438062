-- Worked examples: what the original answered when it was run with this tree planted, computed from its functions on values.
use Rattle.std.proofs.Common.{◌≡◌, ℕ, Bool, true, false, [], ◌∷◌, ◌++◌, refl}
use Rattle.buffer.specs.Compare.{order, same_bytes}
use Rattle.text.specs.Unicode.{encode, encode_all}
use Rattle.text.specs.Decoding.{least_second, greatest_second, within, decode_two, decode_three, decode_four, table, decode_first, pieces_from, pieces_of, codes_of, codes_in, bytes_all, well_formed_length}
use Rattle.text.specs.Space.{white_space, among, is_white_space}
use Rattle.text.specs.Apart.{after_run, trim_end, trimmed, words_after, words_between}
use Rattle.frame.specs.Hex.{digit_of}
use Rattle.buffer.specs.Numbers.{number_bytes}
use Rattle.frame.specs.Text.{text_of}
use Rattle.frame.specs.Framed.{frame_of}
use Rattle.frame.specs.Series.{runs as frame_runs}
use Rattle.image.specs.Frames.{absent, present, option, flag}
use Rattle.tree.specs.Forest.{Forest, bare, grown}
use Rattle.buffer.specs.Ascii.{ascii}
use Rattle.screen.specs.Decimal.{digits_in, decimal}
use Rattle.report.specs.Report.{option_frame, flag_frame, report_of}
use Rattle.history.specs.Journal.{no_entries}
use Rattle.keys.specs.declared.standing.Profile.TheVariants.{Rust}
use Rattle.keys.specs.declared.standing.Mode.TheVariants.{Typing}
use Rattle.editor.specs.Turns.{fresh_state}
use Rattle.session.specs.Prints.{screen, handler, exit, shown}
use Rattle.rust.specs.Std.{is_utf8, join, left_in, println, starts_with, strip_prefix, utf8_or_empty}
use Rattle.rust.specs.Tree.{Commands, insert_node, get, some_of, option_defs, flag_defs, commands_of}
use Rattle.rust.specs.Parser.{insert, contains_key, UnknownCommand, UnknownOption, MissingValue, MissingRequiredOption, NoHandler, ok, err, closed, tokenize_from, tokenize, deepest, find_command, any, find, is_option, is_flag, is_short_option, is_short_flag, option_name_by_short, flag_name_by_short, find_equals, option_value, long_name, short_names, short_or_positional, long, turn, parse_args_from, parse_args, validate_required, parse_command, parse_tokens, parse}
use Rattle.rust.specs.Help.{for_each, for_each_node, label_str, option_line, flag_line, node_line, help_lines, node_under, show_help, available_line, show_available_commands}
use Rattle.rust.specs.Shell.{returns, prints, fails, garbled, calls, exits, along, node_at, report, handle, execute_command, run_cmd_bytes, hex_in, escape_unicode, is_printable, escape_debug, debug_chars, debug_error, handle_builtin_commands, run_line, enter}
use Rattle.rust.specs.History.{last, pushed, kept, add_command, clear_line_and_redraw}
use Rattle.rust.specs.Loop.{prompt_without_fs, crlf, other, normal, rust_in, rust_key, rust_keys}
use Rattle.rust.specs.Same.{keys_of, report_for, all_printed, debugged, QuotedAsIs}
use Rattle.rust.specs.Session.{turn_from, turns_from, printed_by, ended_by}

-- `vm` without a handler and its child `start`, with a required option, a flag and an option of a name alone; `log`. The map puts `log` first.
forest : Forest
forest =
    grown 0 (ascii "vm") (ascii "Machines") (present (ascii "vm <COMMAND>")) []
    (grown 3 (ascii "start") (ascii "Start one") absent
    (option 1 0x63 (ascii "config") (present (ascii "cfg")) (ascii "Its file") ∷ flag 0x66 (ascii "force") absent (ascii "No question") ∷ option 0 0 (ascii "name") absent (ascii "Its name") ∷ [])
    bare bare)
    (grown 2 (ascii "log") (ascii "Change log level") absent [] bare bare)

tree : Commands
tree = commands_of forest

-- tables that print every character as it is
all : ℕ → Bool
all c = true

parses :
    (parse tree [] ≡ err (UnknownCommand (ascii "empty command")))
    × (parse tree (ascii "vm start -fc x a --name=1=2 -")
    ≡ ok (record {
      path = ascii "vm" ∷ ascii "start" ∷ [];
      options = (ascii "config", ascii "x") ∷ (ascii "name", ascii "1=2") ∷ [];
      flags = (ascii "force", true) ∷ [];
      positional = ascii "a" ∷ ascii "-" ∷ [];
    }))
    × (parse tree (ascii "vm start -cf x") ≡ err (MissingValue (ascii "-c")))
    × (parse tree (ascii "vm start --cfg x") ≡ err (MissingRequiredOption (ascii "config")))
    × (parse tree (ascii "vm start --force=1") ≡ err (UnknownOption (ascii "--force")))
    × (parse tree (ascii "vm start -c x --") ≡ err (UnknownOption (ascii "--")))
    × (parse tree (ascii "vm start -c x -" ++ 0xC3 ∷ 0xA9 ∷ []) ≡ err (UnknownOption (ascii "-" ++ 0xC3 ∷ 0xA9 ∷ [])))
    × (parse tree (ascii "log a\\ ") ≡ ok (record { path = ascii "log" ∷ []; options = []; flags = []; positional = ascii "a " ∷ [] }))
unfolding forest tree ascii same_bytes order insert_node get some_of option_defs flag_defs commands_of decode_first table decode_two decode_three decode_four least_second greatest_second within pieces_from pieces_of codes_of codes_in bytes_all encode encode_all among white_space is_white_space after_run trim_end trimmed words_after words_between well_formed_length closed tokenize_from tokenize insert contains_key deepest find_command any find is_option is_flag is_short_option is_short_flag option_name_by_short flag_name_by_short strip_prefix starts_with find_equals option_value long_name short_names short_or_positional long turn parse_args_from parse_args validate_required parse_command parse_tokens parse
parses = (refl, refl, refl, refl, refl, refl, refl, refl)

runs :
    (enter all tree (ascii "exit") ≡ exits (ascii "Goodbye!\n"))
    × (enter all tree (ascii "vm") ≡ fails (NoHandler (ascii "vm")) (ascii "Error: Command 'vm' has no handler function\n"))
    × (enter all tree (ascii " \t ") ≡ returns)
    × (enter all tree (ascii "log") ≡ calls 2 (record { path = ascii "log" ∷ []; options = []; flags = []; positional = [] }))
    × (enter all tree (ascii " help log") ≡ fails (UnknownCommand (ascii "help")) (ascii "Error: Unknown command 'help'\nType 'help' to see available commands\n"))
    × (enter all tree (ascii "help vm stop\"\\") ≡ fails (UnknownCommand (ascii "stop\"\\")) (ascii "Error: UnknownCommand(\"stop\\\"\\\\\")\n"))
    × (enter all tree (ascii "help " ++ 0x01 ∷ 0x7f ∷ ascii "x") ≡ fails (UnknownCommand (0x01 ∷ 0x7f ∷ ascii "x")) (ascii "Error: UnknownCommand(\"\\u{1}\\u{7f}x\")\n"))
    × (enter (λ c. false) tree (ascii "help " ++ 0xC2 ∷ 0x80 ∷ []) ≡ fails (UnknownCommand (0xC2 ∷ 0x80 ∷ [])) (ascii "Error: UnknownCommand(\"\\u{80}\")\n"))
    × (enter all tree (0xFF ∷ []) ≡ garbled (ascii "Error: Input contains invalid UTF-8 characters\n"))
unfolding forest tree ascii same_bytes order insert_node get some_of option_defs flag_defs commands_of all decode_first table decode_two decode_three decode_four least_second greatest_second within pieces_from pieces_of codes_of codes_in bytes_all encode encode_all among white_space is_white_space after_run trim_end trimmed words_after words_between well_formed_length closed tokenize_from tokenize insert contains_key deepest find_command any find is_option is_flag is_short_option is_short_flag option_name_by_short flag_name_by_short strip_prefix starts_with find_equals option_value long_name short_names short_or_positional long turn parse_args_from parse_args validate_required parse_command parse_tokens parse println left_in join for_each for_each_node label_str option_line flag_line node_line help_lines node_under show_help available_line show_available_commands is_utf8 utf8_or_empty along node_at report handle execute_command run_cmd_bytes digit_of hex_in escape_unicode is_printable escape_debug debug_chars debug_error handle_builtin_commands run_line enter
runs = (refl, refl, refl, refl, refl, refl, refl, refl, refl)

helps :
    (enter all tree (ascii "help vm") ≡ prints (ascii "Command: vm\nDescription: Machines\nUsage: vm <COMMAND>\n\nSubcommands:\n  start                Start one\n"))
    × (enter all tree (ascii "help vm start")
    ≡ prints
    (ascii "Command: vm start\nDescription: Start one\n\nOptions:\n  -c, --cfg            Its file (required)\n  name                 Its name\n\nFlags:\n  -f                   No question\n"))
    × (enter all tree (ascii "\thelp ")
    ≡ prints
    (ascii "ArceOS Shell - Available Commands:\n\n  log             Change log level\n  vm              Machines\n    start         Start one\n\nBuilt-in Commands:\n  help            Show help information\n  help <command>  Show help for a specific command\n  clear           Clear the screen\n  exit/quit       Exit the shell\n\nTip: Use 'help <command>' to see detailed usage of a command\n"))
unfolding forest tree ascii same_bytes order insert_node get some_of option_defs flag_defs commands_of all decode_first table decode_two decode_three decode_four least_second greatest_second within pieces_from pieces_of codes_of codes_in bytes_all encode encode_all among white_space is_white_space after_run trim_end trimmed words_after words_between well_formed_length closed tokenize_from tokenize insert contains_key deepest find_command any find is_option is_flag is_short_option is_short_flag option_name_by_short flag_name_by_short strip_prefix starts_with find_equals option_value long_name short_names short_or_positional long turn parse_args_from parse_args validate_required parse_command parse_tokens parse println left_in join for_each for_each_node label_str option_line flag_line node_line help_lines node_under show_help available_line show_available_commands is_utf8 utf8_or_empty along node_at report handle execute_command run_cmd_bytes digit_of hex_in escape_unicode is_printable escape_debug debug_chars debug_error handle_builtin_commands run_line enter
helps = (refl, refl, refl)

-- `help log` with U+3000 after it: no word is quoted, so that nothing is asked of the tables, and what is printed is the help of `log`. Of an unknown word only its own characters are asked.
quotes :
    (enter (λ c. false) tree (ascii "help log" ++ 0xE3 ∷ 0x80 ∷ 0x80 ∷ []) ≡ prints (ascii "Command: log\nDescription: Change log level\n"))
    × QuotedAsIs (λ c. false) tree (ascii "help log" ++ 0xE3 ∷ 0x80 ∷ 0x80 ∷ [])
    × (debugged tree (utf8_or_empty (ascii "help vm" ++ 0xE3 ∷ 0x80 ∷ 0x80 ∷ ascii "stop")) ≡ ascii "stop")
    × (debugged tree (utf8_or_empty (ascii "help " ++ 0xFF ∷ [])) ≡ [])
unfolding forest tree ascii same_bytes order insert_node get some_of option_defs flag_defs commands_of all decode_first table decode_two decode_three decode_four least_second greatest_second within pieces_from pieces_of codes_of codes_in bytes_all encode encode_all among white_space is_white_space after_run trim_end trimmed words_after words_between well_formed_length closed tokenize_from tokenize insert contains_key deepest find_command any find is_option is_flag is_short_option is_short_flag option_name_by_short flag_name_by_short strip_prefix starts_with find_equals option_value long_name short_names short_or_positional long turn parse_args_from parse_args validate_required parse_command parse_tokens parse println left_in join for_each for_each_node label_str option_line flag_line node_line help_lines node_under show_help available_line show_available_commands is_utf8 utf8_or_empty along node_at report handle execute_command run_cmd_bytes digit_of hex_in escape_unicode is_printable escape_debug debug_chars debug_error handle_builtin_commands run_line enter all_printed debugged
quotes = (refl, refl, refl, refl)

-- the standard's session from the loop itself: three keys, then Enter with its line feed, the handler's call and the prompt. An Enter on an empty line runs nothing; of an ill-formed
-- line the bytes are run, and not what is shown of them; after `exit` nothing is done any more.
sessions :
    (printed_by all tree (turns_from (fresh_state Rust) (ascii "log\r")).events
    ≡ screen (0x0D ∷ 0x1B ∷ ascii "[2Kaxvisor:$ l")
    ∷ screen (0x0D ∷ 0x1B ∷ ascii "[2Kaxvisor:$ lo")
    ∷ screen (0x0D ∷ 0x1B ∷ ascii "[2Kaxvisor:$ log")
    ∷ screen (0x0A ∷ [])
    ∷ handler 2 (0x11 ∷ 0x00 ∷ 0x03 ∷ ascii "log")
    ∷ screen (ascii "axvisor:$ ")
    ∷ [])
    × (printed_by all tree (turns_from (fresh_state Rust) (ascii "\n")).events ≡ screen (0x0A ∷ []) ∷ screen (ascii "axvisor:$ ") ∷ [])
    × (printed_by all tree (turn_from (record { line = 0xFF ∷ []; cursor = 1; mode = Typing; profile = Rust; history = no_entries }) 0x0A).events
    ≡ screen (0x0A ∷ []) ∷ screen (ascii "Error: Input contains invalid UTF-8 characters\n") ∷ screen (ascii "axvisor:$ ") ∷ [])
    × (printed_by all tree (turn_from (record { line = ascii "exit"; cursor = 4; mode = Typing; profile = Rust; history = no_entries }) 0x0D).events ≡ screen (0x0A ∷ []) ∷ screen (ascii "Goodbye!\n") ∷ exit ∷ [])
    × (ended_by all tree (turn_from (record { line = ascii "exit"; cursor = 4; mode = Typing; profile = Rust; history = no_entries }) 0x0D).events ≡ true)
unfolding forest tree ascii same_bytes order insert_node get some_of option_defs flag_defs commands_of all decode_first table decode_two decode_three decode_four least_second greatest_second within pieces_from pieces_of codes_of codes_in bytes_all encode encode_all among white_space is_white_space after_run trim_end trimmed words_after words_between well_formed_length closed tokenize_from tokenize insert contains_key deepest find_command any find is_option is_flag is_short_option is_short_flag option_name_by_short flag_name_by_short strip_prefix starts_with find_equals option_value long_name short_names short_or_positional long turn parse_args_from parse_args validate_required parse_command parse_tokens parse println left_in join for_each for_each_node label_str option_line flag_line node_line help_lines node_under show_help available_line show_available_commands is_utf8 utf8_or_empty along node_at report handle execute_command run_cmd_bytes digit_of hex_in escape_unicode is_printable escape_debug debug_chars debug_error handle_builtin_commands run_line enter text_of number_bytes frame_of frame_runs option_frame flag_frame report_of keys_of report_for digits_in decimal last pushed kept add_command clear_line_and_redraw prompt_without_fs crlf other normal rust_in rust_key rust_keys shown printed_by ended_by
sessions = (refl, refl, refl, refl, refl)
