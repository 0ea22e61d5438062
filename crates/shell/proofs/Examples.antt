-- Worked examples of lines that are run, computed from the definition.
use mathlib.Core.Path.{◌≡◌, refl}
use mathlib.Core.List.{List, [], ◌∷◌, ◌++◌}
use Rattle.buffer.specs.Compare.{order, same_bytes}
use Rattle.text.specs.Unicode.{encode, encode_all}
use Rattle.text.specs.Decoding.{decode_two, decode_three, decode_four, table, decode_first, pieces_from, pieces_of, codes_of, codes_in, bytes_all, well_formed_length}
use Rattle.text.specs.Space.{white_space, among, is_white_space}
use Rattle.text.specs.Apart.{after_run, trim_end, trimmed, all_white, blank, words_after, words_between}
use Rattle.buffer.specs.Numbers.{number_bytes}
use Rattle.frame.specs.Text.{text_of}
use Rattle.frame.specs.Framed.{frame_of}
use Rattle.frame.specs.Series.{runs}
use Rattle.table.specs.Map.{put, has}
use Rattle.report.specs.Report.{option_frame, flag_frame, report_of}
use Rattle.words.specs.Tokens.{role_of, tokens_from, tokens, words_of}
use Rattle.image.specs.Frames.{absent, present, Frame, node, flag}
use Rattle.tree.specs.Subtrees.{up_to, on_from, subtree}
use Rattle.tree.specs.Commands.{descend}
use Rattle.lookup.specs.Searches.{keyed}
use Rattle.buffer.specs.Ascii.{ascii}
use Rattle.rows.specs.Rows.{blanks, padded, short_then, shown_as, entry, flag_row, node_row, rows, titled}
use Rattle.message.specs.Messages.{message, ill_formed, clear_screen}
use Rattle.message.specs.Debug.{debug_byte, debug_bytes, unknown_help}
use Rattle.help.specs.Texts.{spaced, lists, about, help_text, available_text}
use Rattle.help.specs.Paths.{followed}
use Rattle.help.specs.Answer.{help_in, help_of}
use Rattle.arguments.specs.Meanings.{definitions_of, first_name, meaning, is_option}
use Rattle.arguments.specs.Forms.{before_equals, long_form, form_of}
use Rattle.arguments.specs.Arguments.{with_option, with_flag, with_positional, short_steps, args}
use Rattle.parse.specs.Commands.{is_missing, missing_required, concluded, parse_in}
use Rattle.parse.specs.Answer.{told_in}
use Rattle.shell.specs.Lines.{silence, text, farewell, handed, builtin_of, begins_help, help_words, fault_message, joined, handler_of, carried, execute_in, execute, other_said, line_said, said_of}

-- `log` with handler 2; `vm` with none, and its child `start` with handler 3 and a flag
frames : List Frame
frames =
    node 0 2 (ascii "log") (ascii "Change log level") (present (ascii "log [LEVEL]"))
    ∷ node 0 0 (ascii "vm") (ascii "Machines") absent
    ∷ node 1 3 (ascii "start") (ascii "Start one") absent
    ∷ flag 0x66 (ascii "force") (present (ascii "force")) (ascii "No question")
    ∷ []

-- the standard's session; `log a\ ` is trimmed before it is split; a child with its flag
handlers :
    (said_of frames (ascii "log") ≡ handed 2 (0x11 ∷ 0 ∷ 3 ∷ ascii "log"))
    × (said_of frames (ascii "log a\\ ") ≡ handed 2 (0x11 ∷ 0 ∷ 3 ∷ ascii "log" ++ 0x14 ∷ 0 ∷ 1 ∷ ascii "a"))
    × (said_of frames (ascii " vm start -f ") ≡ handed 3 (0x11 ∷ 0 ∷ 2 ∷ ascii "vm" ++ 0x11 ∷ 0 ∷ 5 ∷ ascii "start" ++ 0x13 ∷ 0 ∷ 5 ∷ ascii "force"))
unfolding frames ascii same_bytes order decode_first table decode_two decode_three decode_four pieces_from pieces_of codes_of codes_in bytes_all encode encode_all among white_space is_white_space after_run trim_end trimmed all_white blank words_after words_between number_bytes text_of frame_of runs keyed up_to on_from subtree role_of tokens_from tokens words_of put has definitions_of first_name meaning is_option before_equals long_form form_of with_option with_flag with_positional short_steps args option_frame flag_frame report_of descend is_missing missing_required concluded parse_in told_in message ill_formed clear_screen debug_byte debug_bytes unknown_help spaced lists about help_text blanks padded short_then shown_as entry flag_row node_row rows titled followed help_in help_of builtin_of begins_help help_words fault_message joined handler_of carried execute_in execute other_said line_said well_formed_length said_of
handlers = (refl, refl, refl)

-- a bare `help` is judged after trimming, as are the end and `clear`; a blank line does nothing
builtins :
    (said_of frames (ascii "\thelp ") ≡ text 0 (available_text frames))
    × (said_of frames (ascii "exit") ≡ farewell)
    × (said_of frames (ascii " quit\n") ≡ farewell)
    × (said_of frames (ascii "clear ") ≡ text 0 clear_screen)
    × (said_of frames (ascii " \t ") ≡ silence)
unfolding frames ascii same_bytes order decode_first table decode_two decode_three decode_four pieces_from pieces_of codes_of codes_in bytes_all encode encode_all among white_space is_white_space after_run trim_end trimmed all_white blank words_after words_between number_bytes text_of frame_of runs keyed up_to on_from subtree role_of tokens_from tokens words_of put has definitions_of first_name meaning is_option before_equals long_form form_of with_option with_flag with_positional short_steps args option_frame flag_frame report_of descend is_missing missing_required concluded parse_in told_in message ill_formed clear_screen debug_byte debug_bytes unknown_help spaced lists about help_text blanks padded short_then shown_as entry flag_row node_row rows titled followed help_in help_of builtin_of begins_help help_words fault_message joined handler_of carried execute_in execute other_said line_said well_formed_length said_of
builtins = (refl, refl, refl, refl, refl)

-- an untrimmed line that begins `help `, its words split on white space only; with a leading space it is the unknown command `help`
helps :
    (said_of frames (ascii "help log ") ≡ text 0 (ascii "Command: log\nDescription: Change log level\nUsage: log [LEVEL]\n"))
    × (said_of frames (ascii "help \"log\"") ≡ text 4 (ascii "Error: UnknownCommand(\"\\\"log\\\"\")\n"))
    × (said_of frames (ascii " help log") ≡ text 4 (ascii "Error: Unknown command 'help'\nType 'help' to see available commands\n"))
unfolding frames ascii same_bytes order decode_first table decode_two decode_three decode_four pieces_from pieces_of codes_of codes_in bytes_all encode encode_all among white_space is_white_space after_run trim_end trimmed all_white blank words_after words_between number_bytes text_of frame_of runs keyed up_to on_from subtree role_of tokens_from tokens words_of put has definitions_of first_name meaning is_option before_equals long_form form_of with_option with_flag with_positional short_steps args option_frame flag_frame report_of descend is_missing missing_required concluded parse_in told_in message ill_formed clear_screen debug_byte debug_bytes unknown_help spaced lists about help_text blanks padded short_then shown_as entry flag_row node_row rows titled followed help_in help_of builtin_of begins_help help_words fault_message joined handler_of carried execute_in execute other_said line_said well_formed_length said_of
helps = (refl, refl, refl)

-- each refusal with its message: 3, 4 without a word, 4, 5, 8
refusals :
    (said_of frames (0x6c ∷ 0xff ∷ []) ≡ text 3 (ascii "Error: Input contains invalid UTF-8 characters\n"))
    × (said_of frames (ascii "\"\"") ≡ text 4 (ascii "Error: Unknown command 'empty command'\nType 'help' to see available commands\n"))
    × (said_of frames (ascii "start") ≡ text 4 (ascii "Error: Unknown command 'start'\nType 'help' to see available commands\n"))
    × (said_of frames (ascii "vm start --x=1") ≡ text 5 (ascii "Error: Unknown option '--x'\n"))
    × (said_of frames (ascii "vm") ≡ text 8 (ascii "Error: Command 'vm' has no handler function\n"))
unfolding frames ascii same_bytes order decode_first table decode_two decode_three decode_four pieces_from pieces_of codes_of codes_in bytes_all encode encode_all among white_space is_white_space after_run trim_end trimmed all_white blank words_after words_between number_bytes text_of frame_of runs keyed up_to on_from subtree role_of tokens_from tokens words_of put has definitions_of first_name meaning is_option before_equals long_form form_of with_option with_flag with_positional short_steps args option_frame flag_frame report_of descend is_missing missing_required concluded parse_in told_in message ill_formed clear_screen debug_byte debug_bytes unknown_help spaced lists about help_text blanks padded short_then shown_as entry flag_row node_row rows titled followed help_in help_of builtin_of begins_help help_words fault_message joined handler_of carried execute_in execute other_said line_said well_formed_length said_of
refusals = (refl, refl, refl, refl, refl)
