-- The session of the standard, and one in the profile of ECMA-48, computed from the definitions.
use Prim.Native.Nat.{ℕ}
use mathlib.Core.Path.{◌≡◌, refl}
use mathlib.Core.List.{List, [], ◌∷◌, ◌++◌}
use Rattle.buffer.specs.Write.{over_if_fits}
use Rattle.text.specs.Unicode.{encode, encode_all}
use Rattle.text.specs.Decoding.{least_second, greatest_second, within, decode_two, decode_three, decode_four, table, decode_first, letter, letter_first, pieces_from, pieces_of, bytes_all, codes_of, codes_in, well_formed_length}
use Rattle.text.specs.Inner.{letter_head}
use Rattle.text.specs.Space.{white_space, among, is_white_space}
use Rattle.text.specs.Apart.{run_of, after_run, trim_end, trimmed, all_white, blank, words_after, words_between, next_word}
use Rattle.buffer.specs.Compare.{order, same_bytes}
use Rattle.buffer.specs.Numbers.{Bytes, number_bytes, number_of}
use Rattle.frame.specs.Text.{text_of, read_text}
use Rattle.frame.specs.Framed.{frame_of, frame_first}
use Rattle.frame.specs.Series.{texts_from, texts_in, runs}
use Rattle.frame.specs.House.{house_line, ends_in_lF, digits_of, read_digits, read_house, house_leaves, write_house}
use Rattle.frame.specs.Hex.{digit_of, hex_of, digit_value, pair_of, unhex, first_bad}
use Rattle.image.specs.Frames.{text, perhaps, encode_frame}
use Rattle.image.specs.Reading.{span, node_lengths, definition_lengths, node_first, option_first, flag_first, head_first, perhaps_in, node_in, option_in, flag_in, strict_first, read_first}
use Rattle.image.specs.Inner.{defined_in}
use Rattle.image.specs.Limits.{all_shown, is_name, is_note, is_short, definable, fair}
use Rattle.tree.specs.Images.{items_from, items, frames_in, frames_of, flat}
use Rattle.tree.specs.Rules.{rises, follows, obeys, after, judge_items, obey_all, check_tree}
use Rattle.lookup.specs.Subtrees.{tree_named}
use Rattle.tree.specs.Subtrees.{up_to, on_from, subtree}
use Rattle.words.specs.Tokens.{role_of, tokens_from, tokens, words_of, word_frames}
use Rattle.table.specs.Map.{put, look, has, among as among_table, put_within}
use Rattle.arguments.specs.Meanings.{definitions_of, first_name, meaning, is_option}
use Rattle.arguments.specs.Inner.{definitions_at}
use Rattle.arguments.specs.Forms.{before_equals, long_form, form_of}
use Rattle.arguments.specs.Arguments.{with_option, with_flag, with_positional, short_steps, args}
use Rattle.report.specs.Report.{option_frame, flag_frame, report_of, fault_of}
use Rattle.report.specs.Inner.{dashed, report_answer, report_leaves}
use Rattle.parse.specs.Commands.{is_missing, missing_required, concluded, parse_in, parse_words, parse_line}
use Rattle.tree.specs.Commands.{descend}
use Rattle.parse.specs.Answer.{told_in, outcome_answer, outcome_leaves, parse_answer, parse_leaves}
use Rattle.buffer.specs.Ascii.{ascii}
use Rattle.shell.specs.Lines.{builtin_of, begins_help, help_words, fault_message, joined, handler_of, carried, execute_in, execute, other_said, line_said, said_of}
use Rattle.screen.specs.Decimal.{digits_in, decimal, value_after, digits_value}
use Rattle.screen.specs.Redraw.{move_back, redraw, room_answer}
use Rattle.text.specs.Decoding.{well_formed}
use Rattle.history.specs.Entries.{most_entries, newest_is, is_new, with_room, added, usable, sound}
use Rattle.editor.specs.Line.{limit, padded, holding, line_of, good_line, inserted, erased, content}
use Rattle.history.specs.Journal.{record_of, slots_of, journal_of}
use Rattle.keys.specs.declared.standing.Profile.TheVariants.{Rust, Ecma48}
use Rattle.keys.specs.Modes.{other, longest}
use Rattle.keys.specs.Control.{between, arrow_of, letter as letter_by, tilde, ended, digit, further}
use Rattle.keys.specs.Keys.{typed, escaped, sequenced, awaiting_more, controlled}
use Rattle.editor.specs.Turns.{redrawn, enter, erase, insert, up, on_place, down, right, left, go_to, delete, turn_of, after_keys}
use Rattle.session.specs.Prints.{wide, frame_of as frame_of_session, lines_of, shown, prompt, answered, leaves, key_prints, key_ends}
use Rattle.tree.specs.Growth.{one_frame, takes}
use Rattle.session.specs.Lines.{beginning, form_of as form_of_session, line_form, take_form, take_line, press_key, press_keys, on_taking, line_course, session}

input : List (List ℕ)
input = ascii "01000002036c6f67104368616e6765206c6f67206c6576656c0b6c6f67205b4c4556454c5d\n" ∷ ascii "206c6f670d\n" ∷ []

output : List ℕ
output =
    ascii "220d1b5b324b61787669736f723a24206c\n"
    ++ (ascii "220d1b5b324b61787669736f723a24206c6f\n"
    ++ (ascii "220d1b5b324b61787669736f723a24206c6f67\n"
    ++ (ascii "220a\n"
    ++ (ascii "2100021100036c6f67\n"
    ++ ascii "2261787669736f723a2420\n"))))

in_full : lines_of (session (beginning Rust) input) ≡ output
unfolding encode encode_all least_second greatest_second within decode_two decode_three decode_four table decode_first letter letter_head letter_first pieces_from pieces_of bytes_all codes_of codes_in well_formed_length white_space among is_white_space run_of after_run trim_end trimmed all_white blank words_after words_between next_word order same_bytes Bytes number_bytes number_of text_of read_text frame_of frame_first texts_from texts_in runs house_line ends_in_lF digits_of read_digits read_house house_leaves write_house over_if_fits digit_of hex_of digit_value pair_of unhex first_bad text perhaps encode_frame span node_lengths definition_lengths node_first option_first flag_first head_first perhaps_in node_in option_in flag_in defined_in strict_first read_first all_shown is_name is_note is_short definable fair items_from items frames_in frames_of flat rises follows obeys after judge_items obey_all check_tree up_to on_from subtree tree_named role_of tokens_from tokens words_of word_frames put look has among_table put_within definitions_of definitions_at first_name meaning is_option before_equals long_form form_of with_option with_flag with_positional short_steps args option_frame flag_frame report_of fault_of dashed report_answer report_leaves descend is_missing missing_required concluded parse_in parse_words parse_line told_in outcome_answer outcome_leaves parse_answer parse_leaves ascii builtin_of begins_help help_words fault_message joined handler_of carried execute_in execute other_said line_said said_of digits_in decimal value_after digits_value move_back redraw room_answer most_entries newest_is is_new with_room added well_formed usable sound limit padded holding line_of good_line inserted erased content redrawn enter erase insert typed escaped sequenced up on_place down right left turn_of after_keys record_of slots_of journal_of wide frame_of_session lines_of shown prompt answered leaves key_prints key_ends form_of_session line_form one_frame takes take_form take_line press_key press_keys on_taking line_course session input output
in_full = refl

-- keys read as ECMA-48 has them: `a`, `c`, Home, Delete, and a sequence with two parameters, which does nothing and is swallowed whole
edited : List (List ℕ)
edited = ascii "206163\n" ∷ ascii "201b5b481b5b337e1b5b313b3544\n" ∷ []

shows_edited : List ℕ
shows_edited =
    ascii "220d1b5b324b61787669736f723a242061\n"
    ++ (ascii "220d1b5b324b61787669736f723a24206163\n"
    ++ (ascii "220d1b5b324b61787669736f723a242061631b5b3244\n"
    ++ ascii "220d1b5b324b61787669736f723a2420631b5b3144\n"))

in_ecma : lines_of (session (beginning Ecma48) edited) ≡ shows_edited
unfolding encode encode_all least_second greatest_second within decode_two decode_three decode_four table decode_first letter letter_head letter_first pieces_from pieces_of bytes_all codes_of codes_in well_formed_length well_formed Bytes number_bytes number_of house_line ends_in_lF digits_of read_digits read_house digit_of hex_of digit_value pair_of unhex first_bad ascii digits_in decimal move_back redraw limit inserted erased content redrawn insert go_to delete typed escaped sequenced controlled awaiting_more other longest between arrow_of letter_by tilde ended digit further turn_of lines_of frame_of_session shown prompt key_prints key_ends wide form_of_session line_form take_form take_line press_key press_keys on_taking line_course session edited shows_edited
in_ecma = refl
