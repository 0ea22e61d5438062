-- Demand 2, same as the Rust: each call does what the Rust's function does, which stands as a function on values, beside its lines, in the crate `rust`.
-- What both sides take from Rust's std is held to Unicode and to what it is, and a quoted list of words splits back into that list.
use Rattle.std.specs.Prelude.{Ok, Result}
use Prim.Native.Nat.{ℕ, ◌+◌, ◌<◌, ◌≤◌}
use mathlib.Core.Path.{◌≡◌, ap}
use mathlib.Core.Bool.{Bool, true, false}
use mathlib.Core.List.{List, [], ◌∷◌, ◌++◌}
use native.Mathlib.Omega.{arith}
use lib.ListN.{length, take, get_or}
use Rattle.buffer.specs.Compare.{order, same_bytes}
use Rattle.buffer.specs.Write.{over}
use Rattle.std.specs.declared.cmp.Ordering.TheVariants.{Less, Equal}
use Rattle.buffer.proofs.Ordering.{same_is, is_same, order_is, turned, order_turned, order_trans}
use Rattle.text.specs.Unicode.{Scalar, Scalars, encode, encode_all, WellFormed}
use Rattle.text.specs.Decoding.{decode_first, codes_in, well_formed_length}
use Rattle.text.specs.Space.{is_white_space}
use Rattle.text.specs.Apart.{trimmed, blank}
use Rattle.text.specs.declared.utf8.Decoded.TheVariants.{Character}
use Rattle.text.proofs.Encoding.{SoundOf, decode_sound, decode_complete}
use Rattle.text.proofs.Prefix.{codes_are, prefix_well_formed, prefix_longest, whole_is, is_whole}
use Rattle.text.proofs.Splits.{Trimming, trimming}
use Rattle.buffer.specs.Numbers.{Bytes}
use Rattle.frame.specs.Hex.{digit_of, digit_value, value_of as value_in}
use Rattle.frame.proofs.Digits.{digit_read}
use Rattle.words.specs.Tokens.{words_of}
use Rattle.words.specs.Answer.{Tokenized}
use Rattle.words.specs.declared.tokenizer.TokenizeRefusal.{TokenizeRefusal}
use Rattle.quote.specs.Given.{listed, fine, judge_words}
use Rattle.quote.specs.Answer.{quote_line}
use Rattle.quote.proofs.GivenBack.{given_back, call_back}
use Rattle.tree.specs.Images.{flat, frames_of}
use Rattle.tree.specs.Forest.{Forest}
use Rattle.tree.specs.Rules.{check_tree}
use Rattle.tree.proofs.Forests.{StandsFor}
use Rattle.trees.specs.Commands.{base_tree, fs_tree}
use Rattle.rust.specs.Std.{is_empty, is_utf8}
use Rattle.rust.specs.Tree.{commands_of}
use Rattle.rust.specs.Base.{build_command_tree}
use Rattle.rust.specs.Parser.{tokenize}
use Rattle.rust.specs.History.{new, add_command, shortened, previous, next, clear_line_and_redraw}
use Rattle.rust.specs.Loop.{rust_key}
use Rattle.rust.specs.Same.{original, step_in, shell_of}
use Rattle.rust.specs.Calls.{PressesAs, SplitsAs, Fair, SameAsRust}
use Rattle.rust.specs.Session.{turn_from, turns_from, printed_by, ended_by, EachQuoted, CourseAs, KeyLines, PrintsAs}
use Rattle.rust.proofs.Running.{utf_formed}
use Rattle.rust.proofs.Histories.{blank_is_empty, fresh_is, add_as_rust, forget_as_rust, previous_as_rust, next_as_rust}
use Rattle.rust.proofs.Keys.{same_redraw, presses_as}
use Rattle.rust.proofs.Sessions.{key_printed, keys_printed, press_printed}
use Rattle.rust.proofs.Whole.{session_printed}
use Rattle.rust.proofs.Calls.{splits_as, good_same, base_same, fs_same}
use Rattle.session.specs.Prints.{prompt, key_prints, key_ends}
use Rattle.session.specs.Lines.{Standing, press_keys, session}
use Rattle.session.specs.Calls.{image_of, is_enter, PressingKey}
use Rattle.session.specs.Sizes.{key_room}
use Rattle.session.specs.declared.standing.Session.{Session}
use Rattle.session.specs.declared.pressing.Pressing.{Pressing as Press}
use Rattle.history.specs.Journal.{no_entries, journal_of, good}
use Rattle.history.specs.Answer.{Addition}
use Rattle.history.specs.Forgotten.{Forgets}
use Rattle.history.specs.Steps.{back, onward}
use Rattle.history.specs.declared.stepping.History.{History}
use Rattle.screen.specs.Decimal.{decimal, digits_value}
use Rattle.screen.specs.Redraw.{redraw}
use Rattle.screen.proofs.Numerals.{Digits, decimal_one, decimal_value, decimal_digits, decimal_lead}
use Rattle.keys.specs.declared.standing.Profile.TheVariants.{Rust}
use Rattle.editor.specs.declared.line.Editor.{Editor}
use Rattle.editor.specs.declared.drawing.KeyAnswer.{KeyAnswer}
use Rattle.editor.specs.Turns.{State, turn_of}
use Rattle.editor.specs.Answer.{state_of, good_state, refused, Pressing}
use Rattle.editor.proofs.Fine.{Fine}
use Rattle.promises.proofs.Std.{prop_list, Listed, white_is_listed, listed_is_white, Splitting, splitting}

-- HISTORY (002): `CommandHistory::new(100)`, and its add_command on the entries and the place that record and slots hold
pub history_new : original no_entries ≡ new 100
history_new = fresh_is

pub add_command_lem : (h : History) (slots text : List ℕ) (r : History) (left : List ℕ) → Addition h slots text r (Ok tt) left
    → add_command (original (journal_of h slots)) text ≡ original (journal_of r left)
add_command_lem = add_as_rust

-- an entry that is forgotten leaves the Rust's history with the shortened list, at the place after its newest, from which add_command and the steps go on
pub forget : (h : History) (slots : List ℕ) (k : ℕ) (r : History) (n : ℕ) (left : List ℕ) → Forgets h slots k r (Ok n) left
    → shortened k (original (journal_of h slots)) ≡ original (journal_of r left)
forget = forget_as_rust

-- its previous and next: the place that a step leads to, and the entry of the number that it recalls, in a good state
pub step_back : (h : History) (slots : List ℕ) → good h slots ≡ true → previous (original (journal_of h slots)) ≡ step_in (journal_of h slots) (back h)
step_back = previous_as_rust

pub step_on : (h : History) (slots : List ℕ) → good h slots ≡ true → next (original (journal_of h slots)) ≡ step_in (journal_of h slots) (onward h)
step_on = next_as_rust

-- its clear_line_and_redraw: the bytes that a redraw shows
pub redraws : (prompt content : List ℕ) (cursor : ℕ) → clear_line_and_redraw prompt content cursor ≡ redraw prompt content cursor
redraws = same_redraw

-- THE LINE EDITOR (001, with 002's previous, next and clear_line_and_redraw): a key that is taken in a good state does what one turn of the Rust's loop does. It leaves the loop's line,
-- cursor, mode and history, shows the bytes that the loop writes first, and at Enter gives back the line that the loop runs, with its length; what the loop does besides, running that line
-- and the prompt after it, is the caller's. `PressesAs` says so over the loop's events, which stand in its order. This and the sessions below are about the key profile of the Rust.
pub key : (e : Editor) (h : History) (slots prompt : List ℕ) (byte : ℕ) (line screen : List ℕ) (k : KeyAnswer) (slots' line' screen' : List ℕ)
    → Pressing e h slots prompt byte line screen k slots' line' screen' → refused k.answer ≡ false → good_state e h slots ≡ true
    → e.profile ≡ Rust → PressesAs prompt (rust_key prompt (shell_of (state_of e h slots)) byte) line screen (shell_of (state_of k.editor k.history slots')) k.answer line' screen'
key = presses_as

-- WORDS, PARSE, HELP AND RUN (000), under the tree of 003 or any other: the Rust's functions stand beside their lines in the crate `rust`, on its own tree of nodes with
-- maps by name. `SameAsRust image tree` says of parse, help and run that whatever their contracts allow is what the Rust does: its bytes and the number of its
-- error, or 9 with their length. The Rust's domain is a well-formed line of at most 1,024 bytes; run takes ill-formed ones too.
pub words : (line : List ℕ) → Fair line → (out left : List ℕ) (r : Result ℕ TokenizeRefusal) → Tokenized line out r left → SplitsAs (tokenize line) out r left
words = splits_as

pub good_tree : (image : List ℕ) → Bytes image → check_tree image ≡ Ok tt → (f : Forest) × StandsFor image f × SameAsRust image (commands_of f)
good_tree = good_same

pub base_tree_lem : SameAsRust (flat base_tree) (build_command_tree false)
base_tree_lem = base_same

pub fs_tree_lem : SameAsRust (flat fs_tree) (build_command_tree true)
fs_tree_lem = fs_same

-- A SESSION: what a key prints are the frames of what one turn of the Rust's loop does, in its order: a 22 for the bytes that it writes, at Enter what the line that it runs comes to,
-- 22, 21 or 23, then a 22 for the prompt; it is the last exactly if the process ends. The line, the order and the end are the loop's own, and a tree is asked for at Enter alone.
pub session_key : (image : List ℕ) (f : Forest) (printable : ℕ → Bool) (s : State) → Fine s → s.profile ≡ Rust → (byte : ℕ) → (is_enter byte ≡ true → StandsFor image f)
    → EachQuoted printable (commands_of f) (turn_from s byte).events
    → (key_prints (frames_of image) (turn_of prompt s byte) ≡ printed_by printable (commands_of f) (turn_from s byte).events)
    × (key_ends (frames_of image) (turn_of prompt s byte) ≡ ended_by printable (commands_of f) (turn_from s byte).events)
session_key = key_printed

-- so do the keys of a line, one after the other, as the loop goes on
pub session_keys : (f : Forest) (printable : ℕ → Bool) (s : Standing) → StandsFor s.image f → Fine s.state → s.state.profile ≡ Rust → (keys : List ℕ)
    → EachQuoted printable (commands_of f) (turns_from s.state keys).events → CourseAs printable (commands_of f) (turns_from s.state keys) (press_keys s keys)
session_keys = keys_printed

-- and so do whole lines of keys after a tree: a session prints what the loop does with all their bytes, up to where the process ends
pub whole_session : (f : Forest) (printable : ℕ → Bool) (s : Standing) → StandsFor s.image f → Fine s.state → s.state.profile ≡ Rust → {lines : List (List ℕ)} {bytes : List ℕ} → KeyLines lines bytes
    → s.lines + length lines ≤ 65535 → EachQuoted printable (commands_of f) (turns_from s.state bytes).events
    → session s lines ≡ printed_by printable (commands_of f) (turns_from s.state bytes).events
whole_session = session_printed

-- and so does the call: what `press` leaves, with room and in a good state, are the loop's state and the house lines of those frames
pub press : (h : Session) (image slots : List ℕ) (byte : ℕ) (out : List ℕ) (r : Press) (slots' out' : List ℕ) → PressingKey h image slots byte out r slots' out'
    → key_room ≤ length out → good_state h.editor h.history slots ≡ true → h.editor.profile ≡ Rust → (f : Forest) → (is_enter byte ≡ true → StandsFor (image_of h image) f)
    → (printable : ℕ → Bool) → EachQuoted printable (commands_of f) (turn_from (state_of h.editor h.history slots) byte).events
    → PrintsAs printable (commands_of f) (turn_from (state_of h.editor h.history slots) byte) out (shell_of (state_of r.session.editor r.session.history slots')) r.answer out'
press = press_printed

-- WHAT BOTH SIDES SHARE: the Rust's functions on values stand on these of Rust's std (rust: Std, under the Rust's names), and so do our definitions, and they share nothing else. A
-- misreading of one would pass every theorem above, so each is held here to what it is, by a law that names neither side.

-- `str::from_utf8` (is_utf8, well_formed_length) is Ok exactly on well-formed text, a concatenation of encodings of scalar values (Unicode, D92); the prefix that is found is well-formed, and
-- no longer one is
pub from_utf8 : (s : List ℕ) → (is_utf8 s ≡ true → WellFormed s) × (WellFormed s → is_utf8 s ≡ true)
from_utf8 = utf_formed

pub longest_prefix : (s : List ℕ) → WellFormed (take (well_formed_length s) s) × ((n : ℕ) → n ≤ length s → WellFormed (take n s) → n ≤ well_formed_length s)
longest_prefix s = (prefix_well_formed s, prefix_longest s)

pub well_formed_lem : (s : List ℕ) → (WellFormed s → well_formed_length s ≡ length s) × (well_formed_length s ≡ length s → WellFormed s)
well_formed_lem s = (whole_is s, is_whole s)

-- `str::chars` and `String::push` (codes_in, encode): a character is read from its encoding, whatever follows; what is read as a character begins with the encoding of a scalar value; and
-- characters pushed one after the other are the characters of the text
pub read_back : (n : ℕ) (t : List ℕ) → Scalar n → decode_first (encode n ++ t) ≡ Character n (length (encode n))
read_back = decode_complete

pub read_sound : (s : List ℕ) → SoundOf s (decode_first s)
read_sound = decode_sound

pub chars : (codes : List ℕ) → Scalars codes → codes_in (encode_all codes) ≡ codes
chars = codes_are

-- `char::is_whitespace` (is_white_space) is White_Space of Unicode's PropList, code point by code point; `prop_list` has its rows
pub white_space_lem : (n : ℕ) → (is_white_space n ≡ true → Listed n prop_list) × (Listed n prop_list → is_white_space n ≡ true)
white_space_lem n = (white_is_listed n, listed_is_white n)

-- `str::trim` (trimmed) removes the white space at either end and nothing else; what is left `is_empty` exactly if the text is blank
pub trim : (s : List ℕ) → Trimming s
trim = trimming

pub is_empty_lem : (s : List ℕ) → is_empty (trimmed s) ≡ blank s
is_empty_lem = blank_is_empty

-- `str::split_whitespace` (words_between): white space is passed over, a word goes on up to the next or to the end, and none is empty
pub split_whitespace_lem : (s : List ℕ) → Splitting s
split_whitespace_lem = splitting

-- `Display` of a usize (decimal): the ASCII digits of the number, one for 0 and no leading 0 for any other; and in `\u{..}` a digit of 16 (digit_of) has its value
pub display : (n : ℕ) → (digits_value (decimal n) ≡ n) × Digits (decimal n) × (0 < n → 0x30 < get_or (decimal n) 0 0)
display n = (decimal_value n, decimal_digits n, decimal_lead n)

pub display_zero : decimal 0 ≡ 0x30 ∷ []
display_zero = decimal_one 0 (omega arith)

pub hex_digit_lem : (v : ℕ) → v < 16 → value_in (digit_value (digit_of v)) ≡ v
hex_digit_lem v h = ap value_in (digit_read v h)

-- `==` and `Ord` of strings (same_bytes, order): equal exactly if they are the same bytes; the order is total, the first byte that differs decides, and a prefix comes first
pub equal : (a b : List ℕ) → (same_bytes a b ≡ true → a ≡ b) × (a ≡ b → same_bytes a b ≡ true)
equal a b = (same_is a b, is_same a b)

pub ordered : (a b c : List ℕ) → (order a b ≡ Equal → a ≡ b) × (order b a ≡ turned (order a b)) × (order a b ≡ Less → order b c ≡ Less → order a c ≡ Less)
ordered a b c = (order_is a b, order_turned a b, order_trans a b c)

-- QUOTING: the line of a list of words that quoting accepts splits into that list; and as calls, `tokenize` of what `quote` writes gives back the very frames
pub splits_back : (words : List ℕ) (ws : List (List ℕ)) → judge_words (listed words) ≡ fine ws → words_of (quote_line ws) ≡ ws
splits_back = given_back

pub frames_back : (words out : List ℕ) (ws : List (List ℕ)) → Bytes words → judge_words (listed words) ≡ fine ws → length (quote_line ws) ≤ 1024 → length words ≤ length out
    → Tokenized (quote_line ws) out (Ok (length words)) (over words out)
frames_back = call_back
