-- Demand 1, no second answer: two outcomes that both satisfy a call's contract are one, in the answer, in each state, and in every byte of every lent buffer.
-- The calls whose contract is the single equation `r ≡ ..` (decode, check_tree, find_node and their like) are the case of `one`. The inner calls that leave something open are
-- listed in docs/CONTRACTS.md.
use Rattle.std.specs.Prelude.{Result, ⊤, Option}
use Prim.Native.Nat.{ℕ}
use mathlib.Core.Path.{◌≡◌, sym, ap, ◌∙◌}
use mathlib.Core.Bool.{cond}
use mathlib.Core.List.{List}
use Rattle.frame.specs.House.{HouseRead, HouseWritten}
use Rattle.frame.specs.declared.house.HouseRefusal.{HouseRefusal}
use Rattle.buffer.specs.declared.show.TooShort.{TooShort}
use Rattle.words.specs.Answer.{Tokenized}
use Rattle.words.specs.declared.tokenizer.TokenizeRefusal.{TokenizeRefusal}
use Rattle.words.proofs.Answers.{one_answer as one_tokenize}
use Rattle.quote.specs.Answer.{Quotation}
use Rattle.quote.specs.declared.quoter.QuoteRefusal.{QuoteRefusal}
use Rattle.quote.proofs.Answers.{one_answer as one_quote}
use Rattle.history.specs.Journal.{Journal, no_entries, offered, journal_of, slots_of as journal_slots}
use Rattle.history.specs.Answer.{slots_by, Addition}
use Rattle.history.specs.Forgotten.{forgotten, slots_left, Forgets}
use Rattle.history.specs.declared.stepping.History.{History}
use Rattle.history.specs.declared.adding.AddRefusal.{AddRefusal}
use Rattle.history.specs.declared.forgetting.ForgetRefusal.{ForgetRefusal}
use Rattle.history.proofs.Answers.{one_answer as one_add}
use Rattle.history.proofs.Shortened.{one_forget}
use Rattle.screen.specs.Redraw.{Redraw}
use Rattle.screen.proofs.Drawing.{one_answer as one_redraw}
use Rattle.editor.specs.declared.line.Editor.{Editor}
use Rattle.editor.specs.declared.drawing.KeyAnswer.{KeyAnswer}
use Rattle.editor.specs.declared.drawing.Pressed.{Pressed}
use Rattle.editor.specs.declared.drawing.KeyRefusal.{KeyRefusal}
use Rattle.editor.specs.Answer.{refused, Pressing}
use Rattle.editor.proofs.Always.{one_answer as one_key}
use Rattle.keys.specs.declared.standing.Profile.TheVariants.{Rust}
use Rattle.keys.specs.Modes.{profile_number}
use Rattle.state.specs.State.{history_in}
use Rattle.state.specs.Calls.{is_ready, fresh_saved, Beginning, SavedKey, state_by, SavedAdd, state_left, SavedForget}
use Rattle.state.specs.declared.calls.BeginRefusal.{BeginRefusal}
use Rattle.parse.specs.Answer.{Parsing}
use Rattle.parse.specs.declared.answer.ParseRefusal.{ParseRefusal}
use Rattle.parse.proofs.Answers.{one_answer as one_parse}
use Rattle.help.specs.Answer.{Helping}
use Rattle.help.specs.declared.call.HelpRefusal.{HelpRefusal}
use Rattle.help.proofs.Answers.{one_answer as one_help}
use Rattle.shell.specs.Answer.{Running}
use Rattle.shell.specs.declared.answer.Ran.{Ran}
use Rattle.shell.specs.declared.answer.RunRefusal.{RunRefusal}
use Rattle.shell.proofs.Answers.{one_answer as one_run}
use Rattle.buffer.specs.Showing.{Showing}
use Rattle.buffer.proofs.Inking.{one_answer as one_show}
use Rattle.rissemat.specs.Calls.{WordsCall, QuoteCall, FreshWithCall, FreshCall, KeyCall, AddCall, ForgetCall, TreeCall, ParseCall, HelpCall, RunCall}
use Rattle.tree.specs.declared.walk.Walk.{Walk}
use Rattle.tree.specs.Growth.{Grows}
use Rattle.tree.proofs.OneFrameMore.{one_answer as one_frame_lem}
use Rattle.session.specs.declared.running.Printing.{Printing}
use Rattle.session.specs.declared.running.PrintRefusal.{PrintRefusal}
use Rattle.session.specs.Calls.{TakingLine, PressingKey, RefusingLine}
use Rattle.session.specs.declared.standing.Session.{Session}
use Rattle.session.specs.declared.taking.Took.{Took}
use Rattle.session.specs.declared.pressing.Pressing.{Pressing as SessionKey}
use Rattle.session.proofs.Followed.{one_line, one_press, one_refusal}

-- a single equation
pub one : {A : Type 0} (r q is : A) → r ≡ is → q ≡ is → r ≡ q
one r q is a b = a ∙ sym b

-- one answer and one lent buffer
module _ (x y out left other : List ℕ) where
  pub tokenize : (r q : Result ℕ TokenizeRefusal) → Tokenized x out r left → Tokenized x out q other → (r ≡ q) × (left ≡ other)
  tokenize = one_tokenize x out left other

  pub quote : (r q : Result ℕ QuoteRefusal) → Quotation x out r left → Quotation x out q other → (r ≡ q) × (left ≡ other)
  quote = one_quote x out left other

  pub parse : (r q : Result ℕ ParseRefusal) → Parsing x y out r left → Parsing x y out q other → (r ≡ q) × (left ≡ other)
  parse = one_parse x y out left other

  pub help : (r q : Result ℕ HelpRefusal) → Helping x y out r left → Helping x y out q other → (r ≡ q) × (left ≡ other)
  help = one_help x y out left other

  pub run : (r q : Result Ran RunRefusal) → Running x y out r left → Running x y out q other → (r ≡ q) × (left ≡ other)
  run = one_run x y out left other

  pub show : (r q : Result ℕ TooShort) → Showing x out r left → Showing x out q other → (r ≡ q) × (left ≡ other)
  show = one_show x out left other

  pub read_line : (r q : Result ℕ HouseRefusal) → HouseRead x out r left → HouseRead x out q other → (r ≡ q) × (left ≡ other)
  read_line r q a b = (one _ _ _ a.answer b.answer, one _ _ _ a.bytes b.bytes)

  pub write_line : (r q : Result ℕ TooShort) → HouseWritten x out r left → HouseWritten x out q other → (r ≡ q) × (left ≡ other)
  write_line r q a b = (one _ _ _ a.answer b.answer, one _ _ _ a.bytes b.bytes)

  pub clear_line_and_redraw_lem : (cursor : ℕ) (r q : Result ℕ TooShort) → Redraw x y cursor out r left → Redraw x y cursor out q other → (r ≡ q) × (left ≡ other)
  clear_line_and_redraw_lem cursor = one_redraw x y cursor out left other

  pub rissemat_words : (r q : ℕ) → WordsCall x out r left → WordsCall x out q other → (r ≡ q) × (left ≡ other)
  rissemat_words r q a b = (one _ _ _ a.answer b.answer, one _ _ _ a.bytes b.bytes)

  pub rissemat_quote : (r q : ℕ) → QuoteCall x out r left → QuoteCall x out q other → (r ≡ q) × (left ≡ other)
  rissemat_quote r q a b = (one _ _ _ a.answer b.answer, one _ _ _ a.bytes b.bytes)

  pub rissemat_parse : (r q : ℕ) → ParseCall x y out r left → ParseCall x y out q other → (r ≡ q) × (left ≡ other)
  rissemat_parse r q a b = (one _ _ _ a.answer b.answer, one _ _ _ a.bytes b.bytes)

  pub rissemat_help : (r q : ℕ) → HelpCall x y out r left → HelpCall x y out q other → (r ≡ q) × (left ≡ other)
  rissemat_help r q a b = (one _ _ _ a.answer b.answer, one _ _ _ a.bytes b.bytes)

  pub rissemat_run : (r q : ℕ) → RunCall x y out r left → RunCall x y out q other → (r ≡ q) × (left ≡ other)
  rissemat_run r q a b = (one _ _ _ a.answer b.answer, one _ _ _ a.bytes b.bytes)

pub rissemat_tree : (image : List ℕ) (r q : ℕ) → TreeCall image r → TreeCall image q → r ≡ q
rissemat_tree image r q a b = one _ _ _ a.answer b.answer

-- history and the editor, by value
pub add_command_lem : (h : History) (slots text : List ℕ) (r r' : History) (told told' : Result ⊤ AddRefusal) (left left' : List ℕ) → Addition h slots text r told left → Addition h slots text r' told' left'
    → (told ≡ told') × (r ≡ r') × (left ≡ left')
add_command_lem = one_add

pub forget : (h : History) (slots : List ℕ) (k : ℕ) (r r' : History) (told told' : Result ℕ ForgetRefusal) (left left' : List ℕ) → Forgets h slots k r told left → Forgets h slots k r' told' left'
    → (told ≡ told') × (r ≡ r') × (left ≡ left')
forget = one_forget

pub key : (e : Editor) (h : History) (slots prompt : List ℕ) (byte : ℕ) (line screen : List ℕ) (k k' : KeyAnswer) (a b c a' b' c' : List ℕ)
    → Pressing e h slots prompt byte line screen k a b c → Pressing e h slots prompt byte line screen k' a' b' c'
    → (k.answer ≡ k'.answer) × (k.editor ≡ k'.editor) × (k.history ≡ k'.history) × (a ≡ a') × (b ≡ b') × (c ≡ c')
key = one_key

-- saved states: what is left is chosen by the answer, and the answers are the same
module _ (state slots : List ℕ) (state₁ slots₁ state₂ slots₂ : List ℕ) where
  pub begin : (profile : ℕ) (r q : Result ⊤ BeginRefusal) → Beginning profile state slots r state₁ slots₁ → Beginning profile state slots q state₂ slots₂ → (r ≡ q) × (state₁ ≡ state₂) × (slots₁ ≡ slots₂)
  begin profile r q a b =
      let e = one r q _ a.answer b.answer in (
        e,
        a.kept ∙ ap (λ (x : Result ⊤ BeginRefusal). cond (is_ready x) (fresh_saved profile) state) e ∙ sym b.kept,
        a.held ∙ ap (λ (x : Result ⊤ BeginRefusal). cond (is_ready x) (journal_slots no_entries) slots) e ∙ sym b.held,
      )

  pub add : (text : List ℕ) (r q : Result ⊤ AddRefusal) → SavedAdd state slots text r state₁ slots₁ → SavedAdd state slots text q state₂ slots₂ → (r ≡ q) × (state₁ ≡ state₂) × (slots₁ ≡ slots₂)
  add text r q a b =
      let e = one r q _ a.answer b.answer in (
        e,
        a.kept ∙ ap (λ (x : Result ⊤ AddRefusal). state_by x state (offered text (journal_of (history_in state) slots))) e ∙ sym b.kept,
        a.held ∙ ap (λ (x : Result ⊤ AddRefusal). slots_by x slots (offered text (journal_of (history_in state) slots))) e ∙ sym b.held,
      )

  pub forget_saved : (k : ℕ) (r q : Result ℕ ForgetRefusal) → SavedForget state slots k r state₁ slots₁ → SavedForget state slots k q state₂ slots₂ → (r ≡ q) × (state₁ ≡ state₂) × (slots₁ ≡ slots₂)
  forget_saved k r q a b =
      let j : Journal = forgotten k (journal_of (history_in state) slots) in
      let e = one r q _ a.answer b.answer in (
        e,
        a.kept ∙ ap (λ (x : Result ℕ ForgetRefusal). state_left x state j) e ∙ sym b.kept,
        a.held ∙ ap (λ (x : Result ℕ ForgetRefusal). slots_left x slots j) e ∙ sym b.held,
      )

  -- (`rissemat_fresh` is this with the number of the original's profile)
  pub rissemat_fresh_with : (profile : ℕ) (r q : ℕ) → FreshWithCall profile state slots r state₁ slots₁ → FreshWithCall profile state slots q state₂ slots₂
      → (r ≡ q) × (state₁ ≡ state₂) × (slots₁ ≡ slots₂)
  rissemat_fresh_with profile r q a b = (one _ _ _ a.answer b.answer, one _ _ _ a.kept b.kept, one _ _ _ a.held b.held)

  pub rissemat_fresh : (r q : ℕ) → FreshCall state slots r state₁ slots₁ → FreshCall state slots q state₂ slots₂ → (r ≡ q) × (state₁ ≡ state₂) × (slots₁ ≡ slots₂)
  rissemat_fresh = rissemat_fresh_with (profile_number Rust)

  pub rissemat_history_add : (text : List ℕ) (r q : ℕ) → AddCall state slots text r state₁ slots₁ → AddCall state slots text q state₂ slots₂ → (r ≡ q) × (state₁ ≡ state₂) × (slots₁ ≡ slots₂)
  rissemat_history_add text r q a b = (one _ _ _ a.answer b.answer, one _ _ _ a.kept b.kept, one _ _ _ a.held b.held)

  pub rissemat_history_forget : (k r q : ℕ) → ForgetCall state slots k r state₁ slots₁ → ForgetCall state slots k q state₂ slots₂ → (r ≡ q) × (state₁ ≡ state₂) × (slots₁ ≡ slots₂)
  rissemat_history_forget k r q a b = (one _ _ _ a.answer b.answer, one _ _ _ a.kept b.kept, one _ _ _ a.held b.held)

  module _ (prompt : List ℕ) (byte : ℕ) (line screen line₁ screen₁ line₂ screen₂ : List ℕ) where
    pub press : (r q : Result Pressed KeyRefusal) → SavedKey state slots prompt byte line screen r state₁ slots₁ line₁ screen₁ → SavedKey state slots prompt byte line screen q state₂ slots₂ line₂ screen₂
        → (r ≡ q) × (state₁ ≡ state₂) × (slots₁ ≡ slots₂) × (line₁ ≡ line₂) × (screen₁ ≡ screen₂)
    press r q a b =
        let e = one r q _ a.answer b.answer in (
          e,
          a.kept ∙ chosen e _ _ ∙ sym b.kept,
          a.held ∙ chosen e _ _ ∙ sym b.held,
          a.given ∙ chosen e _ _ ∙ sym b.given,
          a.shown ∙ chosen e _ _ ∙ sym b.shown,
        )
      where
        chosen : {r q : Result Pressed KeyRefusal} → r ≡ q → (x y : List ℕ) → cond (refused r) x y ≡ cond (refused q) x y
        chosen e x y = ap (λ (u : Result Pressed KeyRefusal). cond (refused u) x y) e

    pub rissemat_key : (r q : ℕ) → KeyCall state slots prompt byte line screen r state₁ slots₁ line₁ screen₁ → KeyCall state slots prompt byte line screen q state₂ slots₂ line₂ screen₂
        → (r ≡ q) × (state₁ ≡ state₂) × (slots₁ ≡ slots₂) × (line₁ ≡ line₂) × (screen₁ ≡ screen₂)
    rissemat_key r q a b = (
      one _ _ _ a.answer b.answer,
      one _ _ _ a.kept b.kept,
      one _ _ _ a.held b.held,
      one _ _ _ a.given b.given,
      one _ _ _ a.shown b.shown,
    )

-- an image that grows by a frame
pub add_frame : (walk : Walk) (frame buffer left other : List ℕ) (r q : Option Walk) → Grows walk frame buffer r left → Grows walk frame buffer q other → (r ≡ q) × (left ≡ other)
add_frame = one_frame_lem

-- a session: its lines, its keys, and the line that ends it
pub take_line_lem : (h : Session) (line image frame : List ℕ) (r q : Took) (i f i' f' : List ℕ) → TakingLine h line image frame r i f → TakingLine h line image frame q i' f'
    → (r ≡ q) × (i ≡ i') × (f ≡ f')
take_line_lem = one_line

pub press_key_lem : (h : Session) (image slots : List ℕ) (byte : ℕ) (out : List ℕ) (r q : SessionKey) (l o l' o' : List ℕ)
    → PressingKey h image slots byte out r l o → PressingKey h image slots byte out q l' o' → (r.answer ≡ q.answer) × (r.session ≡ q.session) × (l ≡ l') × (o ≡ o')
press_key_lem = one_press

pub refuse : (number : ℕ) (out : List ℕ) (r q : Result Printing PrintRefusal) (o o' : List ℕ) → RefusingLine number out r o → RefusingLine number out q o' → (r ≡ q) × (o ≡ o')
refuse = one_refusal
