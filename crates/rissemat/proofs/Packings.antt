-- A packed answer is the packing of an answer of the call that it wraps: what is proved of that call holds of the call for Rust and C.
use Rattle.std.specs.Prelude.{Result, ⊤}
use Prim.Native.Nat.{ℕ}
use mathlib.Core.Path.{◌≡◌, refl}
use mathlib.Core.List.{List}
use lib.ListN.{length}
use Rattle.words.specs.declared.tokenizer.TokenizeRefusal.{TokenizeRefusal}
use Rattle.words.specs.Answer.{answer_for, Tokenized, number, value}
use Rattle.quote.specs.declared.quoter.QuoteRefusal.{QuoteRefusal}
use Rattle.quote.specs.Answer.{quote_answer, Quotation, number as quote_number, value as quote_value}
use Rattle.history.specs.declared.adding.AddRefusal.{AddRefusal}
use Rattle.history.specs.declared.forgetting.ForgetRefusal.{ForgetRefusal}
use Rattle.history.specs.Answer.{number as add_number, value as add_value}
use Rattle.history.specs.Forgotten.{number as forget_number, value as forget_value}
use Rattle.editor.specs.declared.drawing.Pressed.{Pressed}
use Rattle.editor.specs.declared.drawing.KeyRefusal.{KeyRefusal}
use Rattle.state.specs.Calls.{begin_answer, Beginning, press_answer, SavedKey, saved_answer, SavedAdd, saved_forget_answer, SavedForget, number as begin_number, value as begin_value}
use Rattle.state.specs.declared.calls.BeginRefusal.{BeginRefusal}
use Rattle.tree.specs.declared.check.BadFrame.{BadFrame}
use Rattle.tree.specs.Rules.{check_tree}
use Rattle.tree.specs.Answer.{number as tree_number, value as tree_value}
use Rattle.parse.specs.declared.answer.ParseRefusal.{ParseRefusal}
use Rattle.parse.specs.Answer.{parse_answer, Parsing, number as parse_number, value as parse_value}
use Rattle.help.specs.declared.call.HelpRefusal.{HelpRefusal}
use Rattle.help.specs.Answer.{answer_for as help_answer, Helping, number as help_number, value as help_value}
use Rattle.shell.specs.declared.answer.Ran.{Ran}
use Rattle.shell.specs.declared.answer.RunRefusal.{RunRefusal}
use Rattle.shell.specs.Answer.{run_answer, Running}
use Rattle.rissemat.specs.Packed.{plain}
use Rattle.rissemat.specs.Calls.{WordsCall, QuoteCall, FreshWithCall, KeyCall, key_told, AddCall, ForgetCall, TreeCall, ParseCall, HelpCall, RunCall, run_told}

pub words_packs : (line out : List ℕ) (p : ℕ) (left : List ℕ) → WordsCall line out p left → (r : Result ℕ TokenizeRefusal) × Tokenized line out r left × (p ≡ plain (number r) (value r))
words_packs line out p left h = (answer_for line (length out), record { answer = refl; bytes = h.bytes }, h.answer)

pub quote_packs : (words out : List ℕ) (p : ℕ) (left : List ℕ) → QuoteCall words out p left → (r : Result ℕ QuoteRefusal) × Quotation words out r left × (p ≡ plain (quote_number r) (quote_value r))
quote_packs words out p left h = (quote_answer words (length out), record { answer = refl; bytes = h.bytes }, h.answer)

pub fresh_packs : (profile : ℕ) (state slots : List ℕ) (p : ℕ) (state' slots' : List ℕ) → FreshWithCall profile state slots p state' slots'
    → (r : Result ⊤ BeginRefusal) × Beginning profile state slots r state' slots' × (p ≡ plain (begin_number r) (begin_value r))
fresh_packs profile state slots p state' slots' h = (begin_answer profile (length state) (length slots), record { answer = refl; kept = h.kept; held = h.held }, h.answer)

pub key_packs : (state slots prompt : List ℕ) (byte : ℕ) (line screen : List ℕ) (p : ℕ) (state' slots' line' screen' : List ℕ)
    → KeyCall state slots prompt byte line screen p state' slots' line' screen'
    → (r : Result Pressed KeyRefusal) × SavedKey state slots prompt byte line screen r state' slots' line' screen' × (p ≡ key_told r)
key_packs state slots prompt byte line screen p state' slots' line' screen' h = (
  press_answer state slots prompt byte (length line) (length screen),
  record { answer = refl; kept = h.kept; held = h.held; given = h.given; shown = h.shown },
  h.answer,
)

pub add_packs : (state slots text : List ℕ) (p : ℕ) (state' slots' : List ℕ) → AddCall state slots text p state' slots'
    → (r : Result ⊤ AddRefusal) × SavedAdd state slots text r state' slots' × (p ≡ plain (add_number r) (add_value r))
add_packs state slots text p state' slots' h = (saved_answer state slots text, record { answer = refl; kept = h.kept; held = h.held }, h.answer)

pub forget_packs : (state slots : List ℕ) (k p : ℕ) (state' slots' : List ℕ) → ForgetCall state slots k p state' slots'
    → (r : Result ℕ ForgetRefusal) × SavedForget state slots k r state' slots' × (p ≡ plain (forget_number r) (forget_value r))
forget_packs state slots k p state' slots' h = (saved_forget_answer state slots k, record { answer = refl; kept = h.kept; held = h.held }, h.answer)

pub tree_packs : (image : List ℕ) (p : ℕ) → TreeCall image p → (r : Result ⊤ BadFrame) × (r ≡ check_tree image) × (p ≡ plain (tree_number r) (tree_value r))
tree_packs image p h = (check_tree image, refl, h.answer)

pub parse_packs : (image line out : List ℕ) (p : ℕ) (left : List ℕ) → ParseCall image line out p left
    → (r : Result ℕ ParseRefusal) × Parsing image line out r left × (p ≡ plain (parse_number r) (parse_value r))
parse_packs image line out p left h = (parse_answer image line (length out), record { answer = refl; bytes = h.bytes }, h.answer)

pub help_packs : (image line out : List ℕ) (p : ℕ) (left : List ℕ) → HelpCall image line out p left
    → (r : Result ℕ HelpRefusal) × Helping image line out r left × (p ≡ plain (help_number r) (help_value r))
help_packs image line out p left h = (help_answer image line (length out), record { answer = refl; bytes = h.bytes }, h.answer)

pub run_packs : (image line out : List ℕ) (p : ℕ) (left : List ℕ) → RunCall image line out p left → (r : Result Ran RunRefusal) × Running image line out r left × (p ≡ run_told r)
run_packs image line out p left h = (run_answer image line (length out), record { answer = refl; bytes = h.bytes }, h.answer)
