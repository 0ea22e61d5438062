-- A line that is entered: the Rust's builtins, help and commands under the tree of an image do what ours do.
use Rattle.std.proofs.Common.{◌≡◌, ℕ, suc, Bool, true, false, cond, not, ltb, List, [], ◌∷◌, ◌++◌, length, drop, sym, refl, ap, ◌∙◌, append_assoc, arith, ltb-false, le-ltb}
use mathlib.Core.Option.{none, some}
use Rattle.buffer.specs.Compare.{same_bytes}
use Rattle.buffer.proofs.Choices.{then_is, true_is_not_false}
use Rattle.text.specs.Unicode.{WellFormed}
use Rattle.text.specs.Decoding.{pieces_from, pieces_of, bytes_all, codes_in, well_formed_length}
use Rattle.text.specs.Apart.{after_run, trim_end, trimmed, blank, words_between}
use Rattle.text.proofs.Prefix.{prefix_fits, whole_is, is_whole}
use Rattle.words.specs.Tokens.{words_of}
use Rattle.image.specs.Frames.{Frame}
use Rattle.tree.specs.Images.{frames_of}
use Rattle.tree.specs.Forest.{Forest, flatten}
use Rattle.tree.proofs.Forests.{StandsFor}
use Rattle.tree.specs.Subtrees.{subtree}
use Rattle.buffer.specs.Ascii.{ascii}
use Rattle.message.specs.Debug.{debug_bytes, unknown_help}
use Rattle.message.specs.Messages.{ill_formed, goodbye, clear_screen}
use Rattle.help.specs.Texts.{available_text}
use Rattle.help.specs.Paths.{Led, found, lost, on_subtree, followed}
use Rattle.help.specs.Answer.{reply_by, help_in, help_of}
use Rattle.shell.specs.Lines.{silence, text, farewell, builtin_of, on_builtin, begins_help, help_words, help_said, execute, other_said, line_said, said_of}
use Rattle.shell.specs.declared.builtin.Builtin.{Builtin}
use Rattle.shell.specs.declared.builtin.Builtin.TheVariants.{Help, Exit, Clear, None}
use Rattle.shell.proofs.BareHelp.{bare_help}
use Rattle.rust.specs.Std.{if_some, is_utf8, println, starts_with, utf8_or_empty}
use Rattle.rust.specs.Tree.{Commands, commands_of}
use Rattle.rust.specs.Parser.{UnknownCommand, parse_tokens, parse}
use Rattle.rust.specs.Help.{show_help, show_available_commands}
use Rattle.rust.specs.Shell.{returns, prints, exits, panics, executed, execute_command, run_cmd_bytes, debug_error, helped, handle_builtin_commands, run_line, enter}
use Rattle.rust.specs.Same.{reply_for, output, exited, seen_of, seen_for, all_printed, word_in, debugged, QuotedAsIs}
use Rattle.rust.proofs.Words.{tokenize_is}
use Rattle.rust.proofs.Histories.{blank_is_empty}
use Rattle.rust.proofs.Parsing.{frames_are}
use Rattle.rust.proofs.Helping.{same_help, same_available}
use Rattle.rust.proofs.Asked.{Each, Whole, AsIs, whole_told, help_whole}
use Rattle.rust.proofs.Executing.{same_execute}

-- HELP: the word that is unknown is one of those asked for
lost_told : (P : List ℕ → Type 0) (v : List ℕ) (words : List (List ℕ)) (d : ℕ) (frames : List Frame) → Each P words → followed d frames words ≡ lost v → P v
unfolding followed
lost_told P v [] d frames each e = absurd (let z : ◌≡◌ {A = ℕ} 0 1 = cc in omega arith)
lost_told P v (w ∷ words) d frames each e = by (subtree d w frames) (λ below. lost_told P v words (suc d) below each.1) e
  where
    by : (sub : List Frame) → ((below : List Frame) → followed (suc d) below words ≡ lost v → P v) → on_subtree w sub (λ below. followed (suc d) below words) ≡ lost v → P v
    by [] more q = let same : w ≡ v = cc in rw (← same) each.0
    by (g ∷ l) more q = more (g ∷ l) q

-- the Rust's line on an unknown word
error_bracketed : (e u before t beyond end : List ℕ) → e ++ (u ++ before ++ t ++ beyond) ++ end ≡ e ++ u ++ before ++ t ++ (beyond ++ end)
error_bracketed e u before t beyond end = simp append_assoc

error_is : (printable : ℕ → Bool) (v : List ℕ) → AsIs printable v → println (ascii "Error: " ++ debug_error printable (UnknownCommand v)) ≡ unknown_help v
unfolding println debug_error unknown_help ascii
error_is printable v e = rw e (error_bracketed (ascii "Error: ") (ascii "UnknownCommand") (ascii "(\"") (debug_bytes v) (ascii "\")") (ascii "\n"))

help_seen : (printable : ℕ → Bool) (frames : List Frame) (w : List ℕ) (words : List (List ℕ)) → Each Whole (w ∷ words)
    → all_printed printable (codes_in (word_in (reply_for (help_of frames (w ∷ words))))) ≡ true
    → seen_of (if_some (reply_for (help_of frames (w ∷ words))) (helped printable) panics) ≡ seen_for (help_said (help_of frames (w ∷ words)))
unfolding help_of help_in followed
help_seen printable frames w words each = by (followed 0 frames (w ∷ words)) refl
  where
    by : (led : Led) → followed 0 frames (w ∷ words) ≡ led → all_printed printable (codes_in (word_in (reply_for (reply_by (w ∷ words) led)))) ≡ true
        → seen_of (if_some (reply_for (reply_by (w ∷ words) led)) (helped printable) panics) ≡ seen_for (help_said (reply_by (w ∷ words) led))
    by (found below) e p = refl
    by (lost v) e p = ap (output 4) (error_is printable v (whole_told printable v (lost_told Whole v (w ∷ words) 0 frames each e) p))

-- BUILTINS
chained : {A : Type 0} (a b c d : Bool) (x y z o : A) → cond a x (cond (cond b true c) y (cond d z o)) ≡ on_builtin (cond a Help (cond b Exit (cond c Exit (cond d Clear None)))) x y z o
chained true b c d x y z o = refl
chained false true c d x y z o = refl
chained false false true d x y z o = refl
chained false false false true x y z o = refl
chained false false false false x y z o = refl

builtin_is : (printable : ℕ → Bool) (tree : Commands) (line : List ℕ)
    → handle_builtin_commands printable tree line
    ≡ on_builtin (builtin_of (trimmed line)) (some (prints (show_available_commands tree))) (some (exits (println (ascii "Goodbye!")))) (some (prints (0x1b ∷ ascii "[2J" ++ 0x1b ∷ ascii "[H")))
    (cond (starts_with (ascii "help ") line) (some (if_some (show_help tree (words_between (drop 5 line))) (helped printable) panics)) none)
unfolding handle_builtin_commands builtin_of
builtin_is printable tree line =
    chained (same_bytes (trimmed line) (ascii "help")) (same_bytes (trimmed line) (ascii "exit")) (same_bytes (trimmed line) (ascii "quit")) (same_bytes (trimmed line) (ascii "clear")) _ _ _ _

none_is_not_help : None ≡ Help → ⊥
none_is_not_help e = let z : ◌≡◌ {A = ℕ} 0 1 = cc in omega arith

starts_is : (line : List ℕ) → starts_with (ascii "help ") line ≡ begins_help line
unfolding starts_with begins_help ascii
starts_is line = refl

goodbye_is : println (ascii "Goodbye!") ≡ goodbye
unfolding println goodbye ascii
goodbye_is = refl

clear_is : 0x1b ∷ ascii "[2J" ++ 0x1b ∷ ascii "[H" ≡ clear_screen
unfolding clear_screen
clear_is = refl

ill_is : println (ascii "Error: Input contains invalid UTF-8 characters") ≡ ill_formed
unfolding println ill_formed ascii
ill_is = refl

empty_is_none : (printable : ℕ → Bool) (tree : Commands) → handle_builtin_commands printable tree [] ≡ none
unfolding handle_builtin_commands trimmed pieces_of pieces_from after_run trim_end bytes_all same_bytes starts_with ascii
empty_is_none printable tree = refl

-- WELL-FORMED LINES
utf_is : (line : List ℕ) (t : Bool) → ltb (well_formed_length line) (length line) ≡ t → is_utf8 line ≡ not t
unfolding is_utf8
utf_is line t e = ap not e

-- `from_utf8` is Ok exactly on Unicode's well-formed text
pub utf_formed : (s : List ℕ) → (is_utf8 s ≡ true → WellFormed s) × (WellFormed s → is_utf8 s ≡ true)
unfolding is_utf8
utf_formed s = (λ e. formed (ltb (well_formed_length s) (length s)) refl e, λ w. let e = whole_is s w in ap not (le-ltb (well_formed_length s) (length s) (omega arith)))
  where
    formed : (t : Bool) → ltb (well_formed_length s) (length s) ≡ t → not t ≡ true → WellFormed s
    formed true q e = absurd (true_is_not_false (sym e))
    formed false q e = is_whole s (let h = ltb-false (well_formed_length s) (length s) q in let k = prefix_fits s in omega arith)

str_whole : (line : List ℕ) → is_utf8 line ≡ true → utf8_or_empty line ≡ line
unfolding utf8_or_empty
str_whole line utf = then_is _ _ _ utf

module _ (image : List ℕ) (f : Forest) (stands : StandsFor image f) (printable : ℕ → Bool) (line : List ℕ) where
  -- a command, or nothing
  run_seen : is_utf8 line ≡ true → seen_of (run_cmd_bytes (commands_of f) line) ≡ seen_for (cond (blank line) silence (execute (frames_of image) (words_of (trimmed line))))
  unfolding run_cmd_bytes execute_command parse
  run_seen utf = rw (utf, blank_is_empty line, tokenize_is (trimmed line), frames_are image f stands) (by (blank line))
    where
      by : (b : Bool) → seen_of (cond b returns (executed (commands_of f) (parse_tokens (commands_of f) (words_of (trimmed line))))) ≡ seen_for (cond b silence (execute (flatten 0 f) (words_of (trimmed line))))
      by true = refl
      by false = same_execute f stands.rising (words_of (trimmed line))

  -- a line that begins `help ` and is no bare `help`
  help_line_lem : Each Whole (help_words line) → all_printed printable (codes_in (word_in (show_help (commands_of f) (help_words line)))) ≡ true → (help_words line ≡ [] → ⊥)
      → seen_of (if_some (show_help (commands_of f) (help_words line)) (helped printable) panics) ≡ seen_for (help_said (help_of (frames_of image) (help_words line)))
  help_line_lem each p some_word =
      let q = rw (same_help image f stands (help_words line)) at p in rw (same_help image f stands (help_words line)) (by (help_words line) each q some_word)
    where
      by : (words : List (List ℕ)) → Each Whole words → all_printed printable (codes_in (word_in (reply_for (help_of (frames_of image) words)))) ≡ true → (words ≡ [] → ⊥)
          → seen_of (if_some (reply_for (help_of (frames_of image) words)) (helped printable) panics) ≡ seen_for (help_said (help_of (frames_of image) words))
      by [] each p k = absurd (k refl)
      by (w ∷ words) each p k = help_seen printable (frames_of image) w words each p

  -- the line is one of the builtins, or help, or a command
  module _ (utf : is_utf8 line ≡ true) (whole : begins_help line ≡ true → Each Whole (help_words line)) (plain : all_printed printable (codes_in (debugged (commands_of f) line)) ≡ true) where
    -- the word in its `Debug` text
    quoted : begins_help line ≡ true → word_in (show_help (commands_of f) (help_words line)) ≡ debugged (commands_of f) line
    unfolding debugged help_words
    quoted b = sym (then_is _ _ _ (starts_is line ∙ b))

    other_seen : builtin_of (trimmed line) ≡ None
        → seen_of (if_some (cond (starts_with (ascii "help ") line) (some (if_some (show_help (commands_of f) (words_between (drop 5 line))) (helped printable) panics)) none) (λ e. e) (run_cmd_bytes (commands_of f) line))
        ≡ seen_for (other_said (frames_of image) line)
    unfolding other_said help_words
    other_seen n = rw (starts_is line) (by (begins_help line) refl)
      where
        by : (b : Bool) → begins_help line ≡ b
            → seen_of (if_some (cond b (some (if_some (show_help (commands_of f) (help_words line)) (helped printable) panics)) none) (λ e. e) (run_cmd_bytes (commands_of f) line))
            ≡ seen_for (cond b (help_said (help_of (frames_of image) (help_words line))) (cond (blank line) silence (execute (frames_of image) (words_of (trimmed line)))))
        by true q = help_line_lem (whole q) (ap (λ (w : List ℕ). all_printed printable (codes_in w)) (quoted q) ∙ plain) (λ e. none_is_not_help (sym n ∙ bare_help line q e))
        by false q = run_seen utf

    line_seen : seen_of (enter printable (commands_of f) line) ≡ seen_for (line_said (frames_of image) line)
    unfolding enter run_line utf8_or_empty line_said
    line_seen = rw (utf, builtin_is printable (commands_of f) line) (by (builtin_of (trimmed line)) refl)
      where
        by : (b : Builtin) → builtin_of (trimmed line) ≡ b
            → seen_of (if_some (on_builtin b (some (prints (show_available_commands (commands_of f)))) (some (exits (println (ascii "Goodbye!")))) (some (prints (0x1b ∷ ascii "[2J" ++ 0x1b ∷ ascii "[H")))
            (cond (starts_with (ascii "help ") line) (some (if_some (show_help (commands_of f) (words_between (drop 5 line))) (helped printable) panics)) none)) (λ e. e) (run_cmd_bytes (commands_of f) line))
            ≡ seen_for (on_builtin b (text 0 (available_text (frames_of image))) farewell (text 0 clear_screen) (other_said (frames_of image) line))
        by Help q = ap (output 0) (same_available image f stands)
        by Exit q = ap exited goodbye_is
        by Clear q = ap (output 0) clear_is
        by None q = other_seen q

  -- a line that is not well-formed is no builtin
  ill_seen : is_utf8 line ≡ false → seen_of (enter printable (commands_of f) line) ≡ output 3 ill_formed
  unfolding enter run_line utf8_or_empty run_cmd_bytes
  ill_seen e = rw (e, empty_is_none printable (commands_of f)) (ap (output 3) ill_is)

  -- ANY LINE under a well-formed image: nothing, the same output with the error's number, the same handler with the same report, or the end with the same output. In the word
  -- that a help line's `Debug` text quotes each character outside ASCII is to be one that the Rust prints as it is.
  pub same_run : QuotedAsIs printable (commands_of f) line → seen_of (enter printable (commands_of f) line) ≡ seen_for (said_of (frames_of image) line)
  unfolding said_of
  same_run printed = by (ltb (well_formed_length line) (length line)) refl
    where
      by : (t : Bool) → ltb (well_formed_length line) (length line) ≡ t
          → seen_of (enter printable (commands_of f) line) ≡ seen_for (cond t (text 3 ill_formed) (line_said (frames_of image) line))
      by true q = ill_seen (utf_is line true q)
      by false q =
          let h = ltb-false (well_formed_length line) (length line) q in
          let k = prefix_fits line in
          let utf = utf_is line false q in
          line_seen utf (λ b. help_whole line (omega arith) b) (ap (λ (s : List ℕ). all_printed printable (codes_in (debugged (commands_of f) s))) (sym (str_whole line utf)) ∙ printed)
