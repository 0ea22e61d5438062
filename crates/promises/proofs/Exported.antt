-- The calls for Rust and C, `rissemat_*`: the tables of demand 1, what lasts, demand 2 and demand 3, each reached through the packing of an answer into 64 bits.
use Rattle.std.specs.Prelude.{Result, Ok, Err, ⊤}
use Prim.Native.Nat.{ℕ, ◌/◌, ◌%◌, ◌<◌, ◌≤◌, min}
use mathlib.Core.Path.{◌≡◌, refl, sym, ap, ◌∙◌, subst}
use mathlib.Core.Bool.{Bool, true, false, cond}
use mathlib.Core.List.{List}
use mathlib.Core.Option.{Option, none, some}
use native.Mathlib.Omega.{arith}
use lib.Dec.{eqb}
use lib.ListN.{length, take}
use Rattle.text.specs.Apart.{trimmed, words_between}
use Rattle.words.specs.Tokens.{words_of, word_frames}
use Rattle.words.specs.declared.tokenizer.TokenizeRefusal.{TokenizeRefusal}
use Rattle.words.specs.Answer.{number as words_number, value as words_value}
use Rattle.history.specs.Entries.{total}
use Rattle.history.specs.Slots.{slot_after, ChangesOnly}
use Rattle.history.specs.Journal.{offered, Longer, journal_of}
use Rattle.history.specs.Answer.{record_by, Addition, number as add_number, value as add_value}
use Rattle.history.specs.Forgotten.{without, Forgets, number as forget_number, value as forget_value}
use Rattle.history.specs.declared.stepping.History.{History}
use Rattle.history.specs.declared.adding.AddRefusal.{AddRefusal}
use Rattle.history.specs.declared.adding.AddRefusal.TheVariants.{BadState as BadHistory, TooLong, IllFormed}
use Rattle.history.specs.declared.forgetting.ForgetRefusal.{ForgetRefusal}
use Rattle.history.specs.declared.forgetting.ForgetRefusal.TheVariants.{BadState as NoHistory, NoEntry}
use Rattle.history.proofs.Shortened.{gone_has}
use Rattle.keys.specs.declared.standing.Profile.TheVariants.{Rust}
use Rattle.keys.specs.declared.standing.Mode.TheVariants.{Typing}
use Rattle.keys.specs.Modes.{profile_number}
use Rattle.editor.specs.declared.drawing.KeyAnswer.{KeyAnswer}
use Rattle.editor.specs.declared.drawing.Pressed.{Pressed}
use Rattle.editor.specs.declared.drawing.KeyRefusal.{KeyRefusal}
use Rattle.editor.specs.declared.drawing.Pressed.TheVariants.{Shown, Entered, Dropped}
use Rattle.editor.specs.declared.drawing.KeyRefusal.TheVariants.{BadState, BadPrompt, NoRoom}
use Rattle.editor.specs.declared.line.Editor.{Editor}
use Rattle.editor.specs.Line.{limit, good_line}
use Rattle.editor.specs.Turns.{SameBut}
use Rattle.editor.specs.Answer.{state_of, good_prompt, refused, number as key_number, value as key_value, kind as key_kind, beside as key_beside}
use Rattle.editor.proofs.Lines.{good_line_lem, length_of_lem}
use Rattle.editor.proofs.States.{good_parts, editor_parts, state_parts}
use Rattle.editor.proofs.Fine.{stays_good}
use Rattle.state.specs.State.{saved_of, editor_in, history_in, good_saved}
use Rattle.state.specs.Calls.{Beginning, turn_in, saved_forget_answer, SavedForget, number as begun_number, value as begun_value}
use Rattle.state.specs.declared.calls.BeginRefusal.{BeginRefusal}
use Rattle.state.specs.declared.calls.BeginRefusal.TheVariants.{NoRoom as NoSpace, BadState as NoState}
use Rattle.state.proofs.Savings.{held_saved, history_saved_lem, good_saved_parts}
use Rattle.state.proofs.Stored.{held_in}
use Rattle.state.proofs.ByValue.{key_for, key_by_value, key_saved, add_by_value, add_saved}
use Rattle.state.proofs.Lasting.{Reached, begun, by_key as key_reached, by_add as add_reached, by_forget as forget_reached}
use Rattle.tree.specs.Rules.{check_tree}
use Rattle.parse.specs.Answer.{number as parse_number, value as parse_value}
use Rattle.parse.specs.declared.answer.ParseRefusal.{ParseRefusal}
use Rattle.help.specs.Answer.{number as help_number, value as help_value}
use Rattle.help.specs.declared.call.HelpRefusal.{HelpRefusal}
use Rattle.shell.specs.Lines.{builtin_of}
use Rattle.shell.specs.Answer.{number as run_number, value as run_value, kind as run_kind, beside as run_beside}
use Rattle.shell.specs.declared.answer.Ran.{Ran}
use Rattle.shell.specs.declared.answer.RunRefusal.{RunRefusal}
use Rattle.shell.specs.declared.answer.RunRefusal.TheVariants.{NoRoom as RunNoRoom}
use Rattle.shell.specs.declared.builtin.Builtin.TheVariants.{Help}
use Rattle.shell.proofs.Answers.{naming}
use Rattle.rissemat.specs.Packed.{answered, plain}
use Rattle.rissemat.specs.Calls.{WordsCall, QuoteCall, FreshWithCall, FreshCall, KeyCall, key_told, AddCall, ForgetCall, TreeCall, ParseCall, HelpCall, RunCall, run_told}
use Rattle.rissemat.proofs.Unpacking.{value_back, number_back, kind_back, second_back}
use Rattle.rissemat.proofs.Packings.{words_packs, quote_packs, fresh_packs, key_packs, add_packs, forget_packs, tree_packs, parse_packs, help_packs, run_packs}
use Rattle.rust.specs.Tree.{Commands}
use Rattle.rust.specs.Parser.{tokenize, Result as RustResult, parse}
use Rattle.rust.specs.Help.{show_help}
use Rattle.rust.specs.Shell.{enter}
use Rattle.rust.specs.History.{CommandHistory, add_command, shortened}
use Rattle.rust.specs.Loop.{Shell, rust_key}
use Rattle.rust.specs.Same.{original, shell_of, Seen, quiet, output, handed, exited, crashed, seen_of, QuotedAsIs}
use Rattle.rust.specs.Calls.{Writes, PressesAs, result_number, parse_bytes, help_bytes, HelpsAs, seen_bytes, Says, Fair, SameAsRust}
use Rattle.promises.proofs.Tables.{Answered, told}
use Rattle.promises.proofs.Answers.{too_long, ill_formed, tokenize_table, tokenize_tells, quote_table, quote_tells, check_table, check_tells, parse_table, parse_tells, help_table, help_tells_lem, Ended, run_table, run_tells}
use Rattle.promises.proofs.KeyAnswers.{Keyed, keyed, press_table, press_tells, saved_add_table, saved_add_tells, saved_forget_table, saved_forget_tells, begin_table, begin_tells}
use Rattle.promises.proofs.Lasting.{never_bad, full_line_saved}
use Rattle.promises.proofs.BytesInUse.{in_use, in_bytes}
use Rattle.promises.proofs.FirstSlot.{first_byte, in_bytes as first_in_bytes, saved_key_changes_one, saved_add_changes_one, same_saved_key, same_saved_add, same_saved_forget}
use Rattle.promises.proofs.Forgetting.{editor_stays, as_by_value, no_trace_saved, GoesOnSaved, no_call as not_on, by_add as on_by_add, by_key as on_by_key, drops_none_saved}
use Rattle.promises.proofs.SameAsRust.{words, key, add_command_lem, forget}
use Rattle.promises.proofs.OtherCommands.{named, Agree, parse_alone, help_alone, run_alone}

-- THE PACKING: value, number, kind and second value are read back from an answer's bits; a value stops at 32 bits, a second value at 16
module _ (number value kind second : ℕ) (n : number < 256) (k : kind < 256) where
  pub read_back : let p : ℕ = answered number value kind second in
      (p % 0x1_0000_0000 ≡ min value 0xFFFF_FFFF) × (p / 0x1_0000_0000 % 256 ≡ number) × (p / 0x100_0000_0000 % 256 ≡ kind) × (p / 0x1_0000_0000_0000 ≡ min second 0xFFFF)
  read_back = (value_back number value kind second n k, number_back number value kind second n k, kind_back number value kind second n k, second_back number value kind second n k)

-- DEMAND 1, the tables: what a table tells, as 64 bits and in the buffers. Most calls have one kind of answer and no second value.
pub record Packs {L : Type 0} (t : Answered L) (p : ℕ) (left : L) : Type 0 where
  pub answer : p ≡ plain t.number t.value
  pub bytes : left ≡ t.left

-- a key has its kind, and the length of the line that it submits as second value
pub record PacksKey {L : Type 0} (t : Answered (Keyed L)) (p : ℕ) (left : L) : Type 0 where
  pub answer : p ≡ answered t.number t.value t.left.kind t.left.submitted
  pub bytes : left ≡ t.left.held

-- running a line has its kind; the number beside a text stands where a refusal's does, and a handler is the second value
pub record PacksRun (t : Answered Ended) (p : ℕ) (left : List ℕ) : Type 0 where
  pub answer : p ≡ answered (cond (eqb t.left.kind 1) t.left.beside t.number) t.value t.left.kind (cond (eqb t.left.kind 3) t.left.beside 0)
  pub bytes : left ≡ t.left.buffer

packs : {L : Type 0} (n v : ℕ) (left : L) (t : Answered L) (p : ℕ) → told n v left ≡ t → p ≡ plain n v → Packs t p left
packs n v left t p e f = record { answer = f ∙ ap (λ (x : Answered _). plain x.number x.value) e; bytes = ap (λ (x : Answered _). x.left) e }

-- each call tells its table
pub record TellTables : Type 0 where
  pub words : (line out : List ℕ) (p : ℕ) (left : List ℕ) → WordsCall line out p left → Packs (tokenize_table line out) p left
  pub quote : (words out : List ℕ) (p : ℕ) (left : List ℕ) → QuoteCall words out p left → Packs (quote_table words out) p left
  pub fresh : (state slots : List ℕ) (p : ℕ) (state' slots' : List ℕ) → FreshCall state slots p state' slots' → Packs (begin_table (profile_number Rust) state slots) p (state', slots')
  pub fresh_with : (profile : ℕ) (state slots : List ℕ) (p : ℕ) (state' slots' : List ℕ) → FreshWithCall profile state slots p state' slots'
      → Packs (begin_table profile state slots) p (state', slots')
  pub key : (state slots prompt : List ℕ) (byte : ℕ) (line screen : List ℕ) (p : ℕ) (state' slots' line' screen' : List ℕ)
      → KeyCall state slots prompt byte line screen p state' slots' line' screen' → PacksKey (press_table state slots prompt byte line screen) p (state', slots', line', screen')
  pub history_add : (state slots text : List ℕ) (p : ℕ) (state' slots' : List ℕ) → AddCall state slots text p state' slots' → Packs (saved_add_table state slots text) p (state', slots')
  pub history_forget : (state slots : List ℕ) (k p : ℕ) (state' slots' : List ℕ) → ForgetCall state slots k p state' slots' → Packs (saved_forget_table state slots k) p (state', slots')
  pub tree : (image : List ℕ) (p : ℕ) → TreeCall image p → Packs (check_table image) p tt
  pub parse : (image line out : List ℕ) (p : ℕ) (left : List ℕ) → ParseCall image line out p left → Packs (parse_table image line out) p left
  pub help : (image line out : List ℕ) (p : ℕ) (left : List ℕ) → HelpCall image line out p left → Packs (help_table image line out) p left
  pub run : (image line out : List ℕ) (p : ℕ) (left : List ℕ) → RunCall image line out p left → PacksRun (run_table image line out) p left

packs_key : {L : Type 0} (r : Result Pressed KeyRefusal) (left : L) (t : Answered (Keyed L)) (p : ℕ) → told (key_number r) (key_value r) (keyed (key_kind r) (key_beside r) left) ≡ t → p ≡ key_told r → PacksKey t p left
unfolding key_told
packs_key r left t p e f =
    record { answer = f ∙ ap (λ (x : Answered (Keyed _)). answered x.number x.value x.left.kind x.left.submitted) e; bytes = ap (λ (x : Answered (Keyed _)). x.left.held) e }

packs_run : (r : Result Ran RunRefusal) (left : List ℕ) (t : Answered Ended) (p : ℕ) → told (run_number r) (run_value r) (record { kind = run_kind r; beside = run_beside r; buffer = left }) ≡ t → p ≡ run_told r → PacksRun t p left
unfolding run_told
packs_run r left t p e f =
    record {
      answer =
          f
          ∙ ap (λ (x : Answered Ended). answered (cond (eqb x.left.kind 1) x.left.beside x.number) x.value x.left.kind (cond (eqb x.left.kind 3) x.left.beside 0)) e;
      bytes = ap (λ (x : Answered Ended). x.left.buffer) e;
    }

pub tell_tables : TellTables
tell_tables =
    record {
      words = λ line out p left c. let b = words_packs line out p left c in packs _ _ left _ p (tokenize_tells line out b.0 left b.1) b.2;
      quote = λ words out p left c. let b = quote_packs words out p left c in packs _ _ left _ p (quote_tells words out b.0 left b.1) b.2;
      fresh = begins (profile_number Rust);
      fresh_with = begins;
      key = λ state slots prompt byte line screen p state' slots' line' screen' c.
          let b = key_packs state slots prompt byte line screen p state' slots' line' screen' c in
          packs_key b.0 (state', slots', line', screen') _ p (press_tells state slots prompt byte line screen b.0 state' slots' line' screen' b.1) b.2;
      history_add = λ state slots text p state' slots' c.
          let b = add_packs state slots text p state' slots' c in
          packs _ _ (state', slots') _ p (saved_add_tells state slots text b.0 state' slots' b.1) b.2;
      history_forget = λ state slots k p state' slots' c.
          let b = forget_packs state slots k p state' slots' c in
          packs _ _ (state', slots') _ p (saved_forget_tells state slots k b.0 state' slots' b.1) b.2;
      tree = λ image p c. let b = tree_packs image p c in packs _ _ tt _ p (check_tells image b.0 b.1) b.2;
      parse = λ image line out p left c. let b = parse_packs image line out p left c in packs _ _ left _ p (parse_tells image line out b.0 left b.1) b.2;
      help = λ image line out p left c. let b = help_packs image line out p left c in packs _ _ left _ p (help_tells_lem image line out b.0 left b.1) b.2;
      run = λ image line out p left c. let b = run_packs image line out p left c in packs_run b.0 left _ p (run_tells image line out b.0 left b.1) b.2;
    }
  where
    begins : (profile : ℕ) (state slots : List ℕ) (p : ℕ) (state' slots' : List ℕ) → FreshWithCall profile state slots p state' slots'
        → Packs (begin_table profile state slots) p (state', slots')
    begins profile state slots p state' slots' c =
        let b = fresh_packs profile state slots p state' slots' c in
        packs _ _ (state', slots') _ p (begin_tells profile state slots b.0 state' slots' b.1) b.2

-- DEMAND 1, what lasts: no sequence of these calls reaches a bad state; a byte typed into a full line is answered kind 2, and nothing changes
pub data ReachedByCalls : List ℕ → List ℕ → Type 0 where
  by_fresh : {state slots state' slots' : List ℕ} → FreshCall state slots 0 state' slots' → ReachedByCalls state' slots'
  by_fresh_with : {profile : ℕ} {state slots state' slots' : List ℕ} → FreshWithCall profile state slots 0 state' slots' → ReachedByCalls state' slots'
  by_key : {state slots prompt line screen state' slots' line' screen' : List ℕ} {byte p : ℕ} → ReachedByCalls state slots
      → KeyCall state slots prompt byte line screen p state' slots' line' screen' → ReachedByCalls state' slots'
  by_history_add : {state slots text state' slots' : List ℕ} {p : ℕ} → ReachedByCalls state slots → AddCall state slots text p state' slots' → ReachedByCalls state' slots'
  by_history_forget : {state slots state' slots' : List ℕ} {k p : ℕ} → ReachedByCalls state slots → ForgetCall state slots k p state' slots' → ReachedByCalls state' slots'

-- bits 32 to 39: the refusal's number
abbrev pub number_in : ℕ → ℕ
number_in p = p / 0x1_0000_0000 % 256

ready_of : (r : Result ⊤ BeginRefusal) → 0 ≡ plain (begun_number r) (begun_value r) → r ≡ Ok tt
unfolding answered
ready_of (Ok u) e = refl
ready_of (Err (NoSpace n)) e = absurd (omega arith)
ready_of (Err NoState) e = absurd (omega arith)

fresh_reached : (profile : ℕ) {state slots state' slots' : List ℕ} → FreshWithCall profile state slots 0 state' slots' → Reached state' slots'
fresh_reached profile {state} {slots} {state'} {slots'} c =
    let b = fresh_packs profile state slots 0 state' slots' c in begun (subst (λ (r : Result ⊤ BeginRefusal). Beginning profile state slots r state' slots') (ready_of b.0 b.2) b.1)

reached : {state slots : List ℕ} → ReachedByCalls state slots → Reached state slots
reached (by_fresh c) = fresh_reached (profile_number Rust) c
reached (by_fresh_with {profile} c) = fresh_reached profile c
reached (by_key {state} {slots} {prompt} {line} {screen} {state'} {slots'} {line'} {screen'} {byte} {p} r c) =
    key_reached (reached r) (key_packs state slots prompt byte line screen p state' slots' line' screen' c).1
reached (by_history_add {state} {slots} {text} {state'} {slots'} {p} r c) = add_reached (reached r) (add_packs state slots text p state' slots' c).1
reached (by_history_forget {state} {slots} {state'} {slots'} {k} {p} r c) = forget_reached (reached r) (forget_packs state slots k p state' slots' c).1

pub never_bad_by_calls : (state slots : List ℕ) → ReachedByCalls state slots → good_saved state slots ≡ true
never_bad_by_calls state slots r = never_bad state slots (reached r)

-- and the two bytes that a status page reads tell the sum of the entries' lengths
pub in_use_by_calls : (state slots : List ℕ) → ReachedByCalls state slots → (in_use state ≡ total (journal_of (history_in state) slots).entries) × (in_use state ≤ 25500)
in_use_by_calls state slots r = in_bytes state slots (reached r)

-- and the last byte the slot of the oldest entry, one of the hundred
pub first_by_calls : (state slots : List ℕ) → ReachedByCalls state slots → (first_byte state ≡ (history_in state).first) × (first_byte state < 100)
first_by_calls state slots r = first_in_bytes state slots (reached r)

-- a key and an add change the bytes of one slot at most, whatever they answer
pub key_changes_by_calls : (state slots prompt : List ℕ) (byte : ℕ) (line screen : List ℕ) (p : ℕ) (state' slots' line' screen' : List ℕ)
    → KeyCall state slots prompt byte line screen p state' slots' line' screen' → ChangesOnly (slot_after (history_in state).first (history_in state).count) slots slots'
key_changes_by_calls state slots prompt byte line screen p state' slots' line' screen' c =
    let b = key_packs state slots prompt byte line screen p state' slots' line' screen' c in
    saved_key_changes_one state slots prompt byte line screen b.0 state' slots' line' screen' b.1

pub add_changes_by_calls : (state slots text : List ℕ) (p : ℕ) (state' slots' : List ℕ) → AddCall state slots text p state' slots'
    → ChangesOnly (slot_after (history_in state).first (history_in state).count) slots slots'
add_changes_by_calls state slots text p state' slots' c =
    let b = add_packs state slots text p state' slots' c in saved_add_changes_one state slots text b.0 state' slots' b.1

-- a key, an add and an entry forgotten answer the same 64 bits in two good states that differ in where their history begins and in nothing else, with the same bytes in line and screen,
-- and leave two such states
module _ (state slots state₂ slots₂ : List ℕ) (g : good_saved state slots ≡ true) (g₂ : good_saved state₂ slots₂ ≡ true) (a : SameBut (held_in state slots) (held_in state₂ slots₂)) where
  pub same_key_by_calls : (prompt : List ℕ) (byte : ℕ) (line screen : List ℕ) (p q : ℕ) (state' slots' line' screen' state₂' slots₂' line₂' screen₂' : List ℕ)
      → KeyCall state slots prompt byte line screen p state' slots' line' screen' → KeyCall state₂ slots₂ prompt byte line screen q state₂' slots₂' line₂' screen₂'
      → (q ≡ p) × (line₂' ≡ line') × (screen₂' ≡ screen') × SameBut (held_in state' slots') (held_in state₂' slots₂')
      × (good_saved state' slots' ≡ true) × (good_saved state₂' slots₂' ≡ true)
  same_key_by_calls prompt byte line screen p q state' slots' line' screen' state₂' slots₂' line₂' screen₂' c d =
      let x = key_packs state slots prompt byte line screen p state' slots' line' screen' c in
      let y = key_packs state₂ slots₂ prompt byte line screen q state₂' slots₂' line₂' screen₂' d in
      let s = same_saved_key state slots state₂ slots₂ g g₂ a prompt byte line screen x.0 y.0 state' slots' line' screen' state₂' slots₂' line₂' screen₂' x.1 y.1 in
      (y.2 ∙ ap key_told s.0 ∙ sym x.2, s.1, s.2, s.3, s.4, s.5)

  pub same_add_by_calls : (text : List ℕ) (p q : ℕ) (state' slots' state₂' slots₂' : List ℕ) → AddCall state slots text p state' slots' → AddCall state₂ slots₂ text q state₂' slots₂'
      → (q ≡ p) × SameBut (held_in state' slots') (held_in state₂' slots₂') × (good_saved state' slots' ≡ true) × (good_saved state₂' slots₂' ≡ true)
  same_add_by_calls text p q state' slots' state₂' slots₂' c d =
      let x = add_packs state slots text p state' slots' c in
      let y = add_packs state₂ slots₂ text q state₂' slots₂' d in
      let s = same_saved_add state slots state₂ slots₂ g g₂ a text x.0 y.0 state' slots' state₂' slots₂' x.1 y.1 in
      (y.2 ∙ ap (λ (r : Result ⊤ AddRefusal). plain (add_number r) (add_value r)) s.0 ∙ sym x.2, s.1, s.2, s.3)

  pub same_forget_by_calls : (k p q : ℕ) (state' slots' state₂' slots₂' : List ℕ) → ForgetCall state slots k p state' slots' → ForgetCall state₂ slots₂ k q state₂' slots₂'
      → (q ≡ p) × SameBut (held_in state' slots') (held_in state₂' slots₂') × (good_saved state' slots' ≡ true) × (good_saved state₂' slots₂' ≡ true)
  same_forget_by_calls k p q state' slots' state₂' slots₂' c d =
      let x = forget_packs state slots k p state' slots' c in
      let y = forget_packs state₂ slots₂ k q state₂' slots₂' d in
      let s = same_saved_forget state slots state₂ slots₂ g g₂ a k x.0 y.0 state' slots' state₂' slots₂' x.1 y.1 in
      (y.2 ∙ ap (λ (r : Result ℕ ForgetRefusal). plain (forget_number r) (forget_value r)) s.0 ∙ sym x.2, s.1, s.2, s.3)

-- an entry that is forgotten: the editor's bytes stay, whatever is answered; and an answer without a refusal's number is how many entries went, as Forgetting says of them by value
pub editor_stays_by_calls : (state slots : List ℕ) (k p : ℕ) (state' slots' : List ℕ) → ForgetCall state slots k p state' slots' → take 261 state' ≡ take 261 state
editor_stays_by_calls state slots k p state' slots' c =
    let b = forget_packs state slots k p state' slots' c in editor_stays state slots k b.0 state' slots' b.1

gone_so : (r : Result ℕ ForgetRefusal) (p : ℕ) → p ≡ plain (forget_number r) (forget_value r) → number_in p ≡ 0 → (n : ℕ) × (r ≡ Ok n)
unfolding answered
gone_so (Ok n) p e z = (n, refl)
gone_so (Err NoHistory) p e z = absurd (omega arith)
gone_so (Err (NoEntry n)) p e z = absurd (omega arith)

pub forgets_by_calls : (state slots : List ℕ) (k p : ℕ) (state' slots' : List ℕ) → ForgetCall state slots k p state' slots' → number_in p ≡ 0
    → (n : ℕ) × (p ≡ plain 0 n) × Forgets (history_in state) slots k (history_in state') (Ok n) slots'
unfolding saved_forget_answer
forgets_by_calls state slots k p state' slots' c zero =
    let b = forget_packs state slots k p state' slots' c in
    let g = gone_so b.0 p b.2 zero in
    let made = subst (λ (r : Result ℕ ForgetRefusal). SavedForget state slots k r state' slots') g.1 b.1 in (
      g.0,
      b.2 ∙ ap (λ (r : Result ℕ ForgetRefusal). plain (forget_number r) (forget_value r)) g.1,
      as_by_value state slots k (Ok g.0) state' slots' made (gone_has (good_saved state slots) k (journal_of (history_in state) slots).entries g.0 made.answer).0,
    )

-- no trace of it is left in the history's bytes and in the slots (the line stays, also where it was recalled from that entry)
pub no_trace_by_calls : (state slots state₂ slots₂ : List ℕ) (k : ℕ) → good_saved state slots ≡ true → good_saved state₂ slots₂ ≡ true → k < (history_in state).count → k < (history_in state₂).count
    → take 261 state₂ ≡ take 261 state → (history_in state₂).first ≡ (history_in state).first
    → without k (journal_of (history_in state₂) slots₂).entries ≡ without k (journal_of (history_in state) slots).entries
    → (p q : ℕ) (state' slots' state₂' slots₂' : List ℕ) → ForgetCall state slots k p state' slots' → ForgetCall state₂ slots₂ k q state₂' slots₂'
    → (q ≡ p) × (state₂' ≡ state') × (slots₂' ≡ slots')
no_trace_by_calls state slots state₂ slots₂ k g g₂ l l₂ e f w p q state' slots' state₂' slots₂' c d =
    let x = forget_packs state slots k p state' slots' c in
    let y = forget_packs state₂ slots₂ k q state₂' slots₂' d in
    let s = no_trace_saved state slots state₂ slots₂ k g g₂ l l₂ e f w x.0 y.0 state' slots' state₂' slots₂' x.1 y.1 in
    (y.2 ∙ ap (λ (r : Result ℕ ForgetRefusal). plain (forget_number r) (forget_value r)) s.0 ∙ sym x.2, s.1, s.2)

-- and its room is given back: keys and adds to a history that has not 100 entries again drop none of those that remained
pub data GoesOnByCalls (state slots : List ℕ) : List ℕ → List ℕ → Type 0 where
  no_call : GoesOnByCalls state slots state slots
  by_add : {mid held text state' slots' : List ℕ} {p : ℕ} → GoesOnByCalls state slots mid held → (history_in mid).count < 100 → AddCall mid held text p state' slots'
      → GoesOnByCalls state slots state' slots'
  by_key : {mid held prompt line screen state' slots' line' screen' : List ℕ} {byte p : ℕ} → GoesOnByCalls state slots mid held → (history_in mid).count < 100
      → KeyCall mid held prompt byte line screen p state' slots' line' screen' → GoesOnByCalls state slots state' slots'

goes_on_lem : {state slots state' slots' : List ℕ} → GoesOnByCalls state slots state' slots' → GoesOnSaved state slots state' slots'
goes_on_lem no_call = not_on
goes_on_lem (by_add {mid} {held} {text} {state'} {slots'} {p} m room c) = on_by_add (goes_on_lem m) room (add_packs mid held text p state' slots' c).1
goes_on_lem (by_key {mid} {held} {prompt} {line} {screen} {state'} {slots'} {line'} {screen'} {byte} {p} m room c) =
    on_by_key (goes_on_lem m) room (key_packs mid held prompt byte line screen p state' slots' line' screen' c).1

pub drops_none_by_calls : (state slots state' slots' : List ℕ) → good_saved state slots ≡ true → GoesOnByCalls state slots state' slots'
    → (good_saved state' slots' ≡ true) × Longer (journal_of (history_in state) slots) (journal_of (history_in state') slots')
drops_none_by_calls state slots state' slots' g m = drops_none_saved state slots state' slots' g (goes_on_lem m)

pub full_line : (state slots prompt : List ℕ) (byte : ℕ) (line screen : List ℕ) (p : ℕ) (state' slots' line' screen' : List ℕ)
    → KeyCall state slots prompt byte line screen p state' slots' line' screen' → good_saved state slots ≡ true → good_prompt prompt ≡ true → limit ≤ length line
    → (editor_in state).mode ≡ Typing → limit ≤ (editor_in state).length → 0x20 ≤ byte → (byte ≡ 0x7F → ⊥)
    → (p ≡ answered 0 0 2 0) × (state' ≡ state) × (slots' ≡ slots) × (line' ≡ line) × (screen' ≡ screen)
unfolding key_told
full_line state slots prompt byte line screen p state' slots' line' screen' c good fair room typing full shown not-del =
    let b = key_packs state slots prompt byte line screen p state' slots' line' screen' c in
    let d = full_line_saved state slots prompt byte line screen b.0 state' slots' line' screen' b.1 good fair room typing full shown not-del in
    (b.2 ∙ ap key_told d.0, d.1, d.2, d.3, d.4)

-- DEMAND 2: each call answers the packing of what the Rust does: bytes where they fit and the number of its error, else 9 with their length
maps : {bytes out left : List ℕ} {A A' B B' : Type 0} → Writes bytes out left A B → (A → A') → (B → B') → Writes bytes out left A' B'
maps w f g = record { fitting = λ l. let a = w.fitting l in (f a.0, a.1); lacking = λ l. let b = w.lacking l in (g b.0, b.1) }

same_plain : {n n' v v' : ℕ} → n ≡ n' → v ≡ v' → plain n v ≡ plain n' v'
same_plain p q = cc

run_short : {n : ℕ} {r : Result Ran RunRefusal} → r ≡ Err (RunNoRoom n) → run_told r ≡ plain 9 n
unfolding run_told
run_short f = ap run_told f

-- bytes that the Rust writes, with a number of the standard
abbrev pub PacksBytes : ℕ → List ℕ → List ℕ → ℕ → List ℕ → Type 0
PacksBytes number bytes out p left = Writes bytes out left (p ≡ plain number (length bytes)) (p ≡ plain 9 (length bytes))

-- help: 14 where the Rust panics
abbrev pub PacksHelp : Option (RustResult (List ℕ)) → List ℕ → ℕ → List ℕ → Type 0
PacksHelp (some result) out p left = PacksBytes (result_number result) (help_bytes result) out p left
PacksHelp none out p left = (p ≡ plain 14 0) × (left ≡ out)

-- run: nothing; what is printed, with its number; a handler with its report; or the end
abbrev pub PacksSeen : Seen → ℕ → Type 0
PacksSeen quiet p = p ≡ answered 0 0 0 0
PacksSeen (output number bytes) p = p ≡ answered number (length bytes) 1 0
PacksSeen (exited bytes) p = p ≡ answered 0 (length bytes) 2 0
PacksSeen (handed handler report) p = p ≡ answered 0 (length report) 3 handler
PacksSeen crashed p = ⊥

-- what the Rust's loop, and its history, would hold where we hold these bytes
abbrev pub shell_in : List ℕ → List ℕ → Shell
shell_in state slots = shell_of (state_of (editor_in state) (history_in state) slots)

abbrev pub commands_in : List ℕ → List ℕ → CommandHistory
commands_in state slots = original (journal_of (history_in state) slots)

-- one turn of the Rust's loop: the state, the bytes in both buffers, and the answer, whose number, value, kind and second value are the 64 bits
pub record PacksTurn (prompt : List ℕ) (shell : Shell) (byte : ℕ) (line screen : List ℕ) (p : ℕ) (after : Shell) (line' screen' : List ℕ) : Type 0 where
  pub told : Result Pressed KeyRefusal
  pub bits : p ≡ key_told told
  pub turn : PressesAs prompt (rust_key prompt shell byte) line screen after told line' screen'

pub record PacksAsRust (image : List ℕ) (tree : Commands) : Type 0 where
  pub splits : (line out : List ℕ) (p : ℕ) (left : List ℕ) → Fair line → WordsCall line out p left → PacksBytes 0 (word_frames (tokenize line)) out p left
  pub parses : (line out : List ℕ) (p : ℕ) (left : List ℕ) → Fair line → ParseCall image line out p left
      → PacksBytes (result_number (parse tree line)) (parse_bytes (parse tree line)) out p left
  pub helps : (line out : List ℕ) (p : ℕ) (left : List ℕ) → Fair line → HelpCall image line out p left → PacksHelp (show_help tree (words_between line)) out p left
  pub runs : (printable : ℕ → Bool) (line out : List ℕ) (p : ℕ) (left : List ℕ) → length line ≤ 1024 → QuotedAsIs printable tree line → RunCall image line out p left
      → let seen : Seen = seen_of (enter printable tree line) in Writes (seen_bytes seen) out left (PacksSeen seen p) (p ≡ plain 9 (length (seen_bytes seen)))
  -- a key in the Rust's profile, and a text added in either, in a good state and not refused: what the Rust's loop, and its add_command, make of what the bytes hold
  pub keys : (state slots prompt : List ℕ) (byte : ℕ) (line screen : List ℕ) (p : ℕ) (state' slots' line' screen' : List ℕ)
      → KeyCall state slots prompt byte line screen p state' slots' line' screen' → good_saved state slots ≡ true → (editor_in state).profile ≡ Rust → number_in p ≡ 0
      → PacksTurn prompt (shell_in state slots) byte line screen p (shell_in state' slots') line' screen'
  pub adds : (state slots text : List ℕ) (p : ℕ) (state' slots' : List ℕ) → AddCall state slots text p state' slots' → good_saved state slots ≡ true → number_in p ≡ 0
      → add_command (commands_in state slots) text ≡ commands_in state' slots'
  -- an entry forgotten and not refused: the Rust's history with the shortened list
  pub forgets : (state slots : List ℕ) (k p : ℕ) (state' slots' : List ℕ) → ForgetCall state slots k p state' slots' → number_in p ≡ 0
      → shortened k (commands_in state slots) ≡ commands_in state' slots'

says_packed : (s : Seen) (r : Result Ran RunRefusal) (p : ℕ) → p ≡ run_told r → Says s r → PacksSeen s p
unfolding run_told
says_packed quiet r p e f = e ∙ ap run_told f
says_packed (output number bytes) r p e f = e ∙ ap run_told f
says_packed (handed handler report) r p e f = e ∙ ap run_told f
says_packed (exited bytes) r p e f = e ∙ ap run_told f
says_packed crashed r p e f = f

helps_packed : (o : Option (RustResult (List ℕ))) (out : List ℕ) (r : Result ℕ HelpRefusal) (p : ℕ) (left : List ℕ) → p ≡ plain (help_number r) (help_value r) → HelpsAs o out r left → PacksHelp o out p left
helps_packed (some result) out r p left e w =
    maps w (λ f. e ∙ same_plain f.0 f.1) (λ f. e ∙ ap (λ (x : Result ℕ HelpRefusal). plain (help_number x) (help_value x)) f)
helps_packed none out r p left e f = (e ∙ ap (λ (x : Result ℕ HelpRefusal). plain (help_number x) (help_value x)) f.0, f.1)

-- a number of 0 is no refusal
taken_key : (r : Result Pressed KeyRefusal) (p : ℕ) → p ≡ key_told r → number_in p ≡ 0 → refused r ≡ false
unfolding key_told answered
taken_key (Ok (Shown n)) p e z = refl
taken_key (Ok (Entered n)) p e z = refl
taken_key (Ok Dropped) p e z = refl
taken_key (Err BadState) p e z = absurd (omega arith)
taken_key (Err (BadPrompt n)) p e z = absurd (omega arith)
taken_key (Err (NoRoom n)) p e z = absurd (omega arith)

done_add : (r : Result ⊤ AddRefusal) (p : ℕ) → p ≡ plain (add_number r) (add_value r) → number_in p ≡ 0 → r ≡ Ok tt
unfolding answered
done_add (Ok u) p e z = refl
done_add (Err BadHistory) p e z = absurd (omega arith)
done_add (Err (TooLong n)) p e z = absurd (omega arith)
done_add (Err (IllFormed n)) p e z = absurd (omega arith)

-- a good editor's line has all its bytes
line_whole : (e : Editor) → good_line e ≡ true → length e.line ≡ 255
line_whole e g = (length_of_lem e (good_line_lem e g)).0

module _ (state slots prompt : List ℕ) (byte : ℕ) (line screen : List ℕ) (p : ℕ) (state' slots' line' screen' : List ℕ) where
  key_as_rust : KeyCall state slots prompt byte line screen p state' slots' line' screen' → good_saved state slots ≡ true → (editor_in state).profile ≡ Rust → number_in p ≡ 0
      → PacksTurn prompt (shell_in state slots) byte line screen p (shell_in state' slots') line' screen'
  key_as_rust c fine own zero =
      let b = key_packs state slots prompt byte line screen p state' slots' line' screen' c in
      let is = good_saved_parts state slots fine in
      let k : KeyAnswer = key_for state (turn_in state slots prompt byte) b.0 in
      let saved : state' ≡ saved_of k.editor k.history = key_saved state slots prompt byte line screen b.0 state' slots' line' screen' b.1 is.0 in
      let by_value = key_by_value state slots prompt byte line screen b.0 state' slots' line' screen' b.1 is.0 in
      let d = key (editor_in state) (history_in state) slots prompt byte line screen k slots' line' screen' by_value (taken_key b.0 p b.2 zero) is.1 own in
      let stays = stays_good (editor_in state) (history_in state) slots prompt byte line screen k slots' line' screen' is.1 by_value in
      let whole = line_whole k.editor (good_parts k.editor k.history slots' stays).0 in
      record {
        told = b.0;
        bits = b.2;
        turn = record { state = ap (λ (x : List ℕ). shell_in x slots') saved ∙ ap shell_of (held_saved k.editor k.history slots' whole) ∙ d.state; answer = d.answer; given = d.given; shown = d.shown };
      }

module _ (state slots text : List ℕ) (p : ℕ) (state' slots' : List ℕ) where
  add_as_rust : AddCall state slots text p state' slots' → good_saved state slots ≡ true → number_in p ≡ 0 → add_command (commands_in state slots) text ≡ commands_in state' slots'
  add_as_rust c fine zero =
      let b = add_packs state slots text p state' slots' c in
      let is = good_saved_parts state slots fine in
      let fair = (state_parts (editor_in state) (history_in state) slots is.1).0 in
      let line = (editor_parts (editor_in state) fair).1 in
      let done = done_add b.0 p b.2 zero in
      let after : Result ⊤ AddRefusal → History = λ x. record_by x (history_in state) (offered text (journal_of (history_in state) slots)) in
      let held : history_in state' ≡ after (Ok tt) =
      ap history_in (add_saved state slots text b.0 state' slots' b.1 is.0 fair) ∙ history_saved_lem (editor_in state) (after b.0) (line_whole (editor_in state) line) ∙ ap after done in
      add_command_lem (history_in state) slots text (after (Ok tt)) slots'
      (subst (λ (x : Result ⊤ AddRefusal). Addition (history_in state) slots text (after x) x slots') done (add_by_value state slots text b.0 state' slots' b.1 is.0 fair))
      ∙ ap (λ (h : History). original (journal_of h slots')) (sym held)

pub packs_as_rust : (image : List ℕ) (tree : Commands) → SameAsRust image tree → PacksAsRust image tree
packs_as_rust image tree same =
    record {
      splits = λ line out p left fair c.
          let b = words_packs line out p left c in
          maps (words line fair out left b.0 b.1) (λ f. b.2 ∙ ap (λ (x : Result ℕ TokenizeRefusal). plain (words_number x) (words_value x)) f) (λ f. b.2 ∙ ap (λ (x : Result ℕ TokenizeRefusal). plain (words_number x) (words_value x)) f);
      parses = λ line out p left fair c.
          let b = parse_packs image line out p left c in
          maps (same.parses line out left b.0 fair b.1) (λ f. b.2 ∙ same_plain f.0 f.1) (λ f. b.2 ∙ ap (λ (x : Result ℕ ParseRefusal). plain (parse_number x) (parse_value x)) f);
      helps = λ line out p left fair c.
          let b = help_packs image line out p left c in
          helps_packed (show_help tree (words_between line)) out b.0 p left b.2 (same.helps line out left b.0 fair b.1);
      runs = λ printable line out p left short plain-help c.
          let b = run_packs image line out p left c in
          maps (same.runs printable line out left b.0 short plain-help b.1) (says_packed (seen_of (enter printable tree line)) b.0 p b.2) (λ f. b.2 ∙ run_short f);
      keys = key_as_rust;
      adds = add_as_rust;
      forgets = λ state slots k p state' slots' c zero.
          let f = forgets_by_calls state slots k p state' slots' c zero in forget (history_in state) slots k (history_in state') f.0 slots' f.2;
    }

-- DEMAND 3: under two well-formed trees that agree on the command that a line names, each call answers the same 64 bits and writes the same bytes
pub record PacksAlone (image other : List ℕ) : Type 0 where
  pub parse : (line out : List ℕ) (p q : ℕ) (left left' : List ℕ) → Agree image other (named words_of line)
      → ParseCall image line out p left → ParseCall other line out q left' → (p ≡ q) × (left ≡ left')
  pub help : (line out : List ℕ) (p q : ℕ) (left left' : List ℕ) → Agree image other (named words_between line)
      → HelpCall image line out p left → HelpCall other line out q left' → (p ≡ q) × (left ≡ left')
  pub run : (line out : List ℕ) (p q : ℕ) (left left' : List ℕ) → (too_long line ≡ false → ill_formed line ≡ false → builtin_of (trimmed line) ≡ Help → ⊥)
      → Agree image other (named naming line) → RunCall image line out p left → RunCall other line out q left' → (p ≡ q) × (left ≡ left')

pub packs_alone : (image other : List ℕ) → check_tree image ≡ Ok tt → check_tree other ≡ Ok tt → PacksAlone image other
packs_alone image other good good' =
    record {
      parse = λ line out p q left left' agree c d.
          let a = parse_packs image line out p left c in
          let b = parse_packs other line out q left' d in
          let s = parse_alone image other line good good' out left left' agree a.0 b.0 a.1 b.1 in
          (a.2 ∙ ap (λ (x : Result ℕ ParseRefusal). plain (parse_number x) (parse_value x)) s.0 ∙ sym b.2, s.1);
      help = λ line out p q left left' agree c d.
          let a = help_packs image line out p left c in
          let b = help_packs other line out q left' d in
          let s = help_alone image other line good good' out left left' agree a.0 b.0 a.1 b.1 in
          (a.2 ∙ ap (λ (x : Result ℕ HelpRefusal). plain (help_number x) (help_value x)) s.0 ∙ sym b.2, s.1);
      run = λ line out p q left left' bare agree c d.
          let a = run_packs image line out p left c in
          let b = run_packs other line out q left' d in
          let s = run_alone image other line good good' out left left' bare agree a.0 b.0 a.1 b.1 in
          (a.2 ∙ ap run_told s.0 ∙ sym b.2, s.1);
    }
