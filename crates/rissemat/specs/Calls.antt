-- What each call gives back: the answer of the call that it wraps, by its number and its value, and what that leaves in each lent buffer.
-- (STANDARD 10.21)
use Rattle.std.specs.Prelude.{ℕ, ◌≡◌, cond, List, eqb, length, Result}
use Rattle.buffer.specs.Write.{over}
use Rattle.words.specs.Answer.{answer_for, leaves_for, number, value}
use Rattle.quote.specs.Answer.{quote_answer, quote_leaves, number as quote_number, value as quote_value}
use Rattle.history.specs.Journal.{no_entries, offered, slots_of as journal_slots, journal_of}
use Rattle.history.specs.Answer.{slots_by, number as add_number, value as add_value}
use Rattle.history.specs.Forgotten.{forgotten, slots_left, number as forget_number, value as forget_value}
use Rattle.editor.specs.declared.drawing.Pressed.{Pressed}
use Rattle.editor.specs.declared.drawing.KeyRefusal.{KeyRefusal}
use Rattle.keys.specs.declared.standing.Profile.TheVariants.{Rust}
use Rattle.keys.specs.Modes.{profile_number}
use Rattle.editor.specs.Answer.{slots_of, refused, number as key_number, value as key_value, kind as key_kind, beside as key_beside}
use Rattle.state.specs.State.{history_in}
use Rattle.state.specs.Calls.{begin_answer, is_ready, fresh_saved, turn_in, press_answer, saved_after, saved_answer, state_by, saved_forget_answer, state_left, number as begin_number, value as begin_value}
use Rattle.tree.specs.Rules.{check_tree}
use Rattle.tree.specs.Answer.{number as tree_number, value as tree_value}
use Rattle.parse.specs.Answer.{parse_answer, parse_leaves, number as parse_number, value as parse_value}
use Rattle.help.specs.Answer.{answer_for as help_answer, leaves_for as help_leaves, number as help_number, value as help_value}
use Rattle.shell.specs.Answer.{run_answer, run_leaves, number as run_number, value as run_value, kind as run_kind, beside}
use Rattle.shell.specs.declared.answer.Ran.{Ran}
use Rattle.shell.specs.declared.answer.RunRefusal.{RunRefusal}
use Rattle.rissemat.specs.Packed.{answered, plain}

pub record WordsCall (line out : List ℕ) (r : ℕ) (left : List ℕ) : Type 0 where
  pub answer : r ≡ plain (number (answer_for line (length out))) (value (answer_for line (length out)))
  pub bytes : left ≡ leaves_for line out

pub record QuoteCall (words out : List ℕ) (r : ℕ) (left : List ℕ) : Type 0 where
  pub answer : r ≡ plain (quote_number (quote_answer words (length out))) (quote_value (quote_answer words (length out)))
  pub bytes : left ≡ quote_leaves words out

-- by a profile's number, and by the original's (10.16, 10.23)
pub record FreshWithCall (profile : ℕ) (state slots : List ℕ) (r : ℕ) (state' slots' : List ℕ) : Type 0 where
  pub answer : r ≡ plain (begin_number (begin_answer profile (length state) (length slots))) (begin_value (begin_answer profile (length state) (length slots)))
  pub kept : state' ≡ cond (is_ready (begin_answer profile (length state) (length slots))) (fresh_saved profile) state
  pub held : slots' ≡ cond (is_ready (begin_answer profile (length state) (length slots))) (journal_slots no_entries) slots

abbrev pub FreshCall : List ℕ → List ℕ → ℕ → List ℕ → List ℕ → Type 0
FreshCall = FreshWithCall (profile_number Rust)

-- a key has three kinds of answer: 1 at Enter, with the length of the line that is submitted as second value; 2 when the byte was dropped; 0 otherwise
-- (10.21)
unfoldable pub key_told : Result Pressed KeyRefusal → ℕ
key_told told = answered (key_number told) (key_value told) (key_kind told) (key_beside told)

-- a refusal keeps the state and every byte
pub record KeyCall (state slots prompt : List ℕ) (byte : ℕ) (line screen : List ℕ) (r : ℕ) (state' slots' line' screen' : List ℕ) : Type 0 where
  pub answer : r ≡ key_told (press_answer state slots prompt byte (length line) (length screen))
  pub kept :
      state'
      ≡ cond (refused (press_answer state slots prompt byte (length line) (length screen))) state (saved_after (turn_in state slots prompt byte).after)
  pub held : slots' ≡ cond (refused (press_answer state slots prompt byte (length line) (length screen))) slots (slots_of (turn_in state slots prompt byte).after)
  pub given : line' ≡ cond (refused (press_answer state slots prompt byte (length line) (length screen))) line (over (turn_in state slots prompt byte).submitted line)
  pub shown : screen' ≡ cond (refused (press_answer state slots prompt byte (length line) (length screen))) screen (over (turn_in state slots prompt byte).screen screen)

pub record AddCall (state slots text : List ℕ) (r : ℕ) (state' slots' : List ℕ) : Type 0 where
  pub answer : r ≡ plain (add_number (saved_answer state slots text)) (add_value (saved_answer state slots text))
  pub kept : state' ≡ state_by (saved_answer state slots text) state (offered text (journal_of (history_in state) slots))
  pub held : slots' ≡ slots_by (saved_answer state slots text) slots (offered text (journal_of (history_in state) slots))

-- (10.24)
pub record ForgetCall (state slots : List ℕ) (k r : ℕ) (state' slots' : List ℕ) : Type 0 where
  pub answer : r ≡ plain (forget_number (saved_forget_answer state slots k)) (forget_value (saved_forget_answer state slots k))
  pub kept : state' ≡ state_left (saved_forget_answer state slots k) state (forgotten k (journal_of (history_in state) slots))
  pub held : slots' ≡ slots_left (saved_forget_answer state slots k) slots (forgotten k (journal_of (history_in state) slots))

pub record TreeCall (image : List ℕ) (r : ℕ) : Type 0 where
  pub answer : r ≡ plain (tree_number (check_tree image)) (tree_value (check_tree image))

-- a fault, 4 to 7, is told by a frame in the buffer, whose length is the value
pub record ParseCall (image line out : List ℕ) (r : ℕ) (left : List ℕ) : Type 0 where
  pub answer : r ≡ plain (parse_number (parse_answer image line (length out))) (parse_value (parse_answer image line (length out)))
  pub bytes : left ≡ parse_leaves image line out

pub record HelpCall (image line out : List ℕ) (r : ℕ) (left : List ℕ) : Type 0 where
  pub answer : r ≡ plain (help_number (help_answer image line (length out))) (help_value (help_answer image line (length out)))
  pub bytes : left ≡ help_leaves image line out

-- running a line has three kinds of answer beside nothing, 0: 1 a text, 2 the end, 3 a handler. The number beside a text stands where a refusal's
-- does, and a handler is the second value (10.21)
unfoldable pub run_told : Result Ran RunRefusal → ℕ
run_told told =
    answered (cond (eqb (run_kind told) 1) (beside told) (run_number told)) (run_value told) (run_kind told) (cond (eqb (run_kind told) 3) (beside told) 0)

pub record RunCall (image line out : List ℕ) (r : ℕ) (left : List ℕ) : Type 0 where
  pub answer : r ≡ run_told (run_answer image line (length out))
  pub bytes : left ≡ run_leaves image line out
