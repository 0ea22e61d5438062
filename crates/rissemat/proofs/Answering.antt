-- A call's answer as 64 bits says what the call that it wraps answered.
use Rattle.std.specs.Prelude.{Result, ⊤, Ok, Err}
use Prim.Native.Nat.{ℕ}
use mathlib.Core.Path.{◌≡◌, refl, ap, ◌∙◌}
use mathlib.Core.Bool.{cond}
use mathlib.Core.List.{List}
use Rattle.words.specs.declared.tokenizer.TokenizeRefusal.{TokenizeRefusal}
use Rattle.words.specs.Answer.{Tokenized, number, value}
use Rattle.quote.specs.declared.quoter.QuoteRefusal.{QuoteRefusal}
use Rattle.quote.specs.Answer.{Quotation, number as quote_number, value as quote_value}
use Rattle.buffer.specs.Write.{over}
use Rattle.history.specs.Journal.{no_entries, offered, slots_of as journal_slots, journal_of}
use Rattle.history.specs.Answer.{slots_by, number as add_number, value as add_value}
use Rattle.history.specs.Forgotten.{forgotten, slots_left, number as forget_number, value as forget_value}
use Rattle.history.specs.declared.adding.AddRefusal.{AddRefusal}
use Rattle.history.specs.declared.forgetting.ForgetRefusal.{ForgetRefusal}
use Rattle.editor.specs.declared.drawing.Pressed.{Pressed}
use Rattle.editor.specs.declared.drawing.KeyRefusal.{KeyRefusal}
use Rattle.editor.specs.Answer.{slots_of, refused, number as key_number, value as key_value, kind as key_kind, beside as key_beside}
use Rattle.state.specs.State.{history_in}
use Rattle.state.specs.Calls.{fresh_saved, Beginning, is_ready, turn_in, saved_after, SavedKey, state_by, SavedAdd, state_left, SavedForget, number as begin_number, value as begin_value}
use Rattle.state.specs.declared.calls.BeginRefusal.{BeginRefusal}
use Rattle.tree.specs.declared.check.BadFrame.{BadFrame}
use Rattle.tree.specs.Rules.{check_tree}
use Rattle.tree.specs.Answer.{number as tree_number, value as tree_value}
use Rattle.parse.specs.declared.answer.ParseRefusal.{ParseRefusal}
use Rattle.parse.specs.Answer.{Parsing, number as parse_number, value as parse_value}
use Rattle.help.specs.declared.call.HelpRefusal.{HelpRefusal}
use Rattle.help.specs.Answer.{Helping, number as help_number, value as help_value}
use Rattle.shell.specs.Answer.{Running, value as run_value, kind as run_kind}
use Rattle.shell.specs.declared.answer.Ran.{Ran}
use Rattle.shell.specs.declared.answer.RunRefusal.{RunRefusal}
use Rattle.shell.specs.declared.answer.Ran.TheVariants.{Nothing, Text, Exit, Handler}
use Rattle.shell.specs.declared.answer.RunRefusal.TheVariants.{BadTree, LineTooLong, NoRoom}
use Rattle.rissemat.specs.declared.pack.Parts.{Parts}
use Rattle.rissemat.specs.Packed.{answered, plain}
use Rattle.rissemat.specs.Inner.{Tells, run_number, run_second}
use Rattle.rissemat.specs.Calls.{WordsCall, QuoteCall, FreshWithCall, KeyCall, key_told, AddCall, ForgetCall, TreeCall, ParseCall, HelpCall, RunCall, run_told}

-- the bits of an answer's parts
sealed : (q : Parts) (p number value kind second : ℕ) → Tells q number value kind second → p ≡ answered q.number q.value q.kind q.second → p ≡ answered number value kind second
sealed q p number value kind second t f = f ∙ cc

pub words_call : {line out left : List ℕ} {r : Result ℕ TokenizeRefusal} (q : Parts) (p : ℕ) → Tokenized line out r left → Tells q (number r) (value r) 0 0 → p ≡ answered q.number q.value q.kind q.second
    → WordsCall line out p left
words_call q p h t f = record { answer = sealed q p _ _ 0 0 t f ∙ ap (λ (x : Result ℕ TokenizeRefusal). plain (number x) (value x)) h.answer; bytes = h.bytes }

pub quote_call : {words out left : List ℕ} {r : Result ℕ QuoteRefusal} (q : Parts) (p : ℕ) → Quotation words out r left → Tells q (quote_number r) (quote_value r) 0 0
    → p ≡ answered q.number q.value q.kind q.second → QuoteCall words out p left
quote_call q p h t f = record { answer = sealed q p _ _ 0 0 t f ∙ ap (λ (x : Result ℕ QuoteRefusal). plain (quote_number x) (quote_value x)) h.answer; bytes = h.bytes }

pub fresh_call : {profile : ℕ} {state slots state' slots' : List ℕ} {r : Result ⊤ BeginRefusal} (q : Parts) (p : ℕ) → Beginning profile state slots r state' slots' → Tells q (begin_number r) (begin_value r) 0 0
    → p ≡ answered q.number q.value q.kind q.second → FreshWithCall profile state slots p state' slots'
fresh_call {profile} {state} {slots} q p h t f =
    record {
      answer = sealed q p _ _ 0 0 t f ∙ ap (λ (x : Result ⊤ BeginRefusal). plain (begin_number x) (begin_value x)) h.answer;
      kept = h.kept ∙ ap (λ (x : Result ⊤ BeginRefusal). cond (is_ready x) (fresh_saved profile) state) h.answer;
      held = h.held ∙ ap (λ (x : Result ⊤ BeginRefusal). cond (is_ready x) (journal_slots no_entries) slots) h.answer;
    }

pub key_call : {state slots prompt line screen state' slots' line' screen' : List ℕ} {byte : ℕ} {r : Result Pressed KeyRefusal} (q : Parts) (p : ℕ)
    → SavedKey state slots prompt byte line screen r state' slots' line' screen' → Tells q (key_number r) (key_value r) (key_kind r) (key_beside r)
    → p ≡ answered q.number q.value q.kind q.second → KeyCall state slots prompt byte line screen p state' slots' line' screen'
unfolding key_told
key_call {state} {slots} {prompt} {line} {screen} {byte = byte} q p h t f =
    record {
      answer = sealed q p _ _ _ _ t f ∙ ap key_told h.answer;
      kept = h.kept ∙ ap (λ (x : Result Pressed KeyRefusal). cond (refused x) state (saved_after (turn_in state slots prompt byte).after)) h.answer;
      held = h.held ∙ ap (λ (x : Result Pressed KeyRefusal). cond (refused x) slots (slots_of (turn_in state slots prompt byte).after)) h.answer;
      given = h.given ∙ ap (λ (x : Result Pressed KeyRefusal). cond (refused x) line (over (turn_in state slots prompt byte).submitted line)) h.answer;
      shown = h.shown ∙ ap (λ (x : Result Pressed KeyRefusal). cond (refused x) screen (over (turn_in state slots prompt byte).screen screen)) h.answer;
    }

pub add_call : {state slots text state' slots' : List ℕ} {r : Result ⊤ AddRefusal} (q : Parts) (p : ℕ) → SavedAdd state slots text r state' slots' → Tells q (add_number r) (add_value r) 0 0
    → p ≡ answered q.number q.value q.kind q.second → AddCall state slots text p state' slots'
add_call {state} {slots} {text} q p h t f =
    record {
      answer = sealed q p _ _ 0 0 t f ∙ ap (λ (x : Result ⊤ AddRefusal). plain (add_number x) (add_value x)) h.answer;
      kept = h.kept ∙ ap (λ (x : Result ⊤ AddRefusal). state_by x state (offered text (journal_of (history_in state) slots))) h.answer;
      held = h.held ∙ ap (λ (x : Result ⊤ AddRefusal). slots_by x slots (offered text (journal_of (history_in state) slots))) h.answer;
    }

pub forget_call : {state slots state' slots' : List ℕ} {k : ℕ} {r : Result ℕ ForgetRefusal} (q : Parts) (p : ℕ) → SavedForget state slots k r state' slots' → Tells q (forget_number r) (forget_value r) 0 0
    → p ≡ answered q.number q.value q.kind q.second → ForgetCall state slots k p state' slots'
forget_call {state} {slots} {k = k} q p h t f =
    record {
      answer = sealed q p _ _ 0 0 t f ∙ ap (λ (x : Result ℕ ForgetRefusal). plain (forget_number x) (forget_value x)) h.answer;
      kept = h.kept ∙ ap (λ (x : Result ℕ ForgetRefusal). state_left x state (forgotten k (journal_of (history_in state) slots))) h.answer;
      held = h.held ∙ ap (λ (x : Result ℕ ForgetRefusal). slots_left x slots (forgotten k (journal_of (history_in state) slots))) h.answer;
    }

pub tree_call : {image : List ℕ} {r : Result ⊤ BadFrame} (q : Parts) (p : ℕ) → r ≡ check_tree image → Tells q (tree_number r) (tree_value r) 0 0 → p ≡ answered q.number q.value q.kind q.second → TreeCall image p
tree_call q p h t f = record { answer = sealed q p _ _ 0 0 t f ∙ ap (λ (x : Result ⊤ BadFrame). plain (tree_number x) (tree_value x)) h }

pub parse_call : {image line out left : List ℕ} {r : Result ℕ ParseRefusal} (q : Parts) (p : ℕ) → Parsing image line out r left → Tells q (parse_number r) (parse_value r) 0 0
    → p ≡ answered q.number q.value q.kind q.second → ParseCall image line out p left
parse_call q p h t f = record { answer = sealed q p _ _ 0 0 t f ∙ ap (λ (x : Result ℕ ParseRefusal). plain (parse_number x) (parse_value x)) h.answer; bytes = h.bytes }

pub help_call : {image line out left : List ℕ} {r : Result ℕ HelpRefusal} (q : Parts) (p : ℕ) → Helping image line out r left → Tells q (help_number r) (help_value r) 0 0
    → p ≡ answered q.number q.value q.kind q.second → HelpCall image line out p left
help_call q p h t f = record { answer = sealed q p _ _ 0 0 t f ∙ ap (λ (x : Result ℕ HelpRefusal). plain (help_number x) (help_value x)) h.answer; bytes = h.bytes }

run_told_lem : (r : Result Ran RunRefusal) → answered (run_number r) (run_value r) (run_kind r) (run_second r) ≡ run_told r
unfolding run_told
run_told_lem (Ok Nothing) = refl
run_told_lem (Ok (Text number n)) = refl
run_told_lem (Ok (Exit n)) = refl
run_told_lem (Ok (Handler handler n)) = refl
run_told_lem (Err (BadTree n)) = refl
run_told_lem (Err (LineTooLong n)) = refl
run_told_lem (Err (NoRoom n)) = refl

pub run_call : {image line out left : List ℕ} {r : Result Ran RunRefusal} (q : Parts) (p : ℕ) → Running image line out r left → Tells q (run_number r) (run_value r) (run_kind r) (run_second r)
    → p ≡ answered q.number q.value q.kind q.second → RunCall image line out p left
run_call {r = r} q p h t f = record { answer = sealed q p _ _ _ _ t f ∙ run_told_lem r ∙ ap run_told h.answer; bytes = h.bytes }
