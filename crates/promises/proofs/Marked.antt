-- The marked examples of the standard, M1 to M14, as one table under one theorem.
use Rattle.std.specs.Prelude.{Result, Ok}
use Prim.Native.Nat.{ℕ}
use mathlib.Core.Path.{◌≡◌, refl, ap, ◌∙◌}
use mathlib.Core.Bool.{false, cond}
use mathlib.Core.List.{List, [], ◌∷◌}
use lib.ListN.{length}
use Rattle.buffer.specs.Write.{over}
use Rattle.buffer.proofs.Choices.{else_is}
use Rattle.buffer.specs.Compare.{order, same_bytes}
use Rattle.text.specs.Unicode.{encode, encode_all}
use Rattle.text.specs.Decoding.{least_second, greatest_second, within, decode_two, decode_three, decode_four, table, decode_first, pieces_from, pieces_of, codes_of, codes_in, well_formed_length}
use Rattle.text.specs.Space.{white_space, among, is_white_space}
use Rattle.buffer.specs.Numbers.{number_bytes}
use Rattle.frame.specs.Text.{text_of}
use Rattle.words.specs.Tokens.{role_of, tokens_from, tokens, words_of, word_frames}
use Rattle.words.specs.Answer.{written, Tokenized, number as tokens_number, value as tokens_value}
use Rattle.words.specs.declared.tokenizer.TokenizeRefusal.{TokenizeRefusal}
use Rattle.image.specs.Frames.{absent, present, Frame, node, option, flag, text, perhaps, encode_frame}
use Rattle.image.specs.Limits.{all_shown, is_name, is_note, is_short, definable, fair}
use Rattle.image.specs.Reading.{span, perhaps_in, node_lengths, definition_lengths, node_first, option_first, flag_first, head_first, node_in, option_in, flag_in, read_first}
use Rattle.tree.specs.Images.{items_from, items, frames_in, frames_of, flat}
use Rattle.tree.specs.Rules.{rises, follows, obeys, after, judge_items, check_tree}
use Rattle.lookup.specs.Searches.{keyed}
use Rattle.tree.specs.Subtrees.{up_to, on_from, subtree}
use Rattle.table.specs.Map.{put, has}
use Rattle.arguments.specs.Meanings.{definitions_of, first_name, meaning, is_option}
use Rattle.arguments.specs.Forms.{before_equals, long_form, form_of}
use Rattle.arguments.specs.Arguments.{with_option, with_flag, with_positional, short_steps, args}
use Rattle.parse.specs.Commands.{is_missing, missing_required, Outcome, parsed, fault, concluded, parse_in, parse_words, parse_line}
use Rattle.tree.specs.Commands.{descend}
use Rattle.parse.specs.Answer.{Parsing, number as parsed_number, value as parsed_value}
use Rattle.parse.specs.declared.answer.ParseRefusal.{ParseRefusal}
use Rattle.buffer.specs.Ascii.{ascii}
use Rattle.promises.proofs.Tables.{told, row, first, lacks}
use Rattle.promises.proofs.Answers.{too_long, ill_formed, is_bad_tree, tokenize_table, tokenize_tells, outcome_table, parse_table, parse_tells}

-- a row: a line and its words; or a line and what it says under the node `set`
pub data Row : Type 0 where
  splits : (line : List ℕ) (words : List (List ℕ)) → Row
  says : (line : List ℕ) (outcome : Outcome) → Row

-- node `set` with flag long (`-l`, `--long`) and required option config (`-c`, `--cfg`)
unfoldable pub set_tree : List Frame
set_tree =
    node 0 1 (ascii "set") [] absent
    ∷ option 1 0x63 (ascii "config") (present (ascii "cfg")) []
    ∷ flag 0x6C (ascii "long") (present (ascii "long")) []
    ∷ []

-- what a row claims
abbrev pub Holds : Row → Type 0
Holds (splits line words) = words_of line ≡ words
Holds (says line outcome) = parse_words set_tree (words_of line) ≡ outcome

-- what holds of every row of a table
abbrev pub All : (Row → Type 0) → List Row → Type 0
All P [] = Unit {0}
All P (r ∷ rows) = P r × All P rows

unfoldable pub marked : List Row
marked =
    splits (ascii "") []
    ∷ splits (ascii "\"\"") []
    ∷ splits (ascii "a\\") (ascii "a" ∷ [])
    ∷ splits (ascii "a \"b c\" d") (ascii "a" ∷ ascii "b c" ∷ ascii "d" ∷ [])
    ∷ splits (ascii "a\"b\"c") (ascii "abc" ∷ [])
    ∷ splits (ascii "\"a\\\"b\"") (ascii "a\"b" ∷ [])
    ∷ splits (0x61 ∷ 0xC2 ∷ 0xA0 ∷ 0x62 ∷ []) (ascii "a" ∷ ascii "b" ∷ [])
    ∷ splits (ascii "a \"b") (ascii "a" ∷ ascii "b" ∷ [])
    ∷ says (ascii "set -lc x")
    (parsed (ascii "set" ∷ []) (record { options = (ascii "config", ascii "x") ∷ []; flags = (ascii "long", []) ∷ []; positionals = [] }))
    ∷ says (ascii "set -cl x") (fault 6 (ascii "-c"))
    ∷ says (ascii "set --long=1") (fault 5 (ascii "--long"))
    ∷ says (ascii "set --") (fault 5 (ascii "--"))
    ∷ says (ascii "set --cfg x") (fault 7 (ascii "config"))
    ∷ says (ascii "set -c x -")
    (parsed (ascii "set" ∷ []) (record { options = (ascii "config", ascii "x") ∷ []; flags = []; positionals = ascii "-" ∷ [] }))
    ∷ []

pub M1-to-M14 : All Holds marked
unfolding marked set_tree ascii words_of tokens tokens_from role_of encode_all encode codes_in codes_of pieces_of pieces_from decode_first table decode_two decode_three decode_four within least_second greatest_second is_white_space among white_space parse_words parse_in concluded descend subtree on_from up_to definitions_of args form_of long_form before_equals short_steps meaning first_name is_option keyed with_option with_flag with_positional put has order same_bytes missing_required is_missing
M1-to-M14 = (refl, (refl, (refl, (refl, (refl, (refl, (refl, (refl, (refl, (refl, (refl, (refl, (refl, (refl, tt))))))))))))))

-- AS CALLED: `tokenize` and `parse` answer each line so, and refuse it only with 9, where what they tell does not fit
abbrev pub Called : Row → Type 0
Called (splits line words) =
    (out left : List ℕ) (r : Result ℕ TokenizeRefusal) → Tokenized line out r left
    → told (tokens_number r) (tokens_value r) left
    ≡ first (row 9 (lacks (word_frames words) out) (length (word_frames words)) out ∷ []) (told 0 (length (word_frames words)) (over (word_frames words) out))
Called (says line outcome) =
    (out left : List ℕ) (r : Result ℕ ParseRefusal) → Parsing (flat set_tree) line out r left → told (parsed_number r) (parsed_value r) left ≡ outcome_table outcome out

-- no line is refused for itself
abbrev Fair : Row → Type 0
Fair (splits line words) = (too_long line ≡ false) × (ill_formed line ≡ false)
Fair (says line outcome) = (too_long line ≡ false) × (ill_formed line ≡ false)

all_fair_lem : All Fair marked
unfolding marked ascii encode_all encode codes_in codes_of pieces_of pieces_from decode_first table decode_two decode_three decode_four within least_second greatest_second well_formed_length
all_fair_lem = ((refl, refl), ((refl, refl), ((refl, refl), ((refl, refl), ((refl, refl), ((refl, refl), ((refl, refl), ((refl, refl), ((refl, refl), ((refl, refl), ((refl, refl), ((refl, refl), ((refl, refl), ((refl, refl), tt))))))))))))))

-- the image of the node `set`
set_good : check_tree (flat set_tree) ≡ Ok tt
unfolding set_tree ascii order number_bytes text_of text perhaps encode_frame all_shown is_name is_note is_short definable fair span perhaps_in node_lengths definition_lengths node_first option_first flag_first head_first node_in option_in flag_in read_first items_from items flat rises follows obeys after judge_items check_tree
set_good = refl

set_frames : frames_of (flat set_tree) ≡ set_tree
unfolding set_tree ascii number_bytes text_of text perhaps encode_frame span perhaps_in node_lengths definition_lengths node_first option_first flag_first head_first node_in option_in flag_in read_first items_from items flat frames_in frames_of
set_frames = refl

called : (r : Row) → Fair r → Holds r → Called r
unfolding tokenize_table parse_table first written parse_line
called (splits line words) f h = λ out left r t.
    tokenize_tells line out r left t ∙ else_is _ _ _ f.0 ∙ else_is _ _ _ f.1
    ∙ ap (λ (ws : List (List ℕ)). cond (lacks (word_frames ws) out) (told 9 (length (word_frames ws)) out) (told 0 (length (word_frames ws)) (over (word_frames ws) out))) h
called (says line outcome) f h = λ out left r t.
    let same : parse_line (flat set_tree) line ≡ outcome = ap (λ (fs : List Frame). parse_words fs (words_of line)) set_frames ∙ h in
    parse_tells (flat set_tree) line out r left t
    ∙ else_is _ _ _ (ap is_bad_tree set_good) ∙ else_is _ _ _ f.0 ∙ else_is _ _ _ f.1
    ∙ ap (λ (o : Outcome). outcome_table o out) same

all_called : (rows : List Row) → All Fair rows → All Holds rows → All Called rows
all_called [] f h = tt
all_called (r ∷ rows) f h = (called r f.0 h.0, all_called rows f.1 h.1)

pub M1-to-M14-called : All Called marked
M1-to-M14-called = all_called marked all_fair_lem M1-to-M14
