-- The laws of the call: no second answer; no other command matters; and the report of a handler is parse's report of the trimmed line.
use Rattle.std.specs.Prelude.{Ok, Result, ⊤, Err}
use Prim.Native.Nat.{ℕ}
use mathlib.Core.Path.{◌≡◌, refl, sym, ap, ◌∙◌}
use mathlib.Core.Bool.{Bool, true, false, cond}
use mathlib.Core.List.{List, [], ◌∷◌}
use lib.Dec.{ltb, eqb}
use lib.ListN.{length}
use Rattle.text.specs.Decoding.{well_formed_length}
use Rattle.text.specs.Apart.{trimmed, blank}
use Rattle.image.specs.Frames.{Frame}
use Rattle.tree.specs.Images.{frames_of}
use Rattle.tree.specs.Rules.{check_tree}
use Rattle.tree.specs.declared.check.BadFrame.{BadFrame}
use Rattle.words.specs.Tokens.{words_of}
use Rattle.parse.specs.Commands.{Outcome, parsed, fault, parse_words, parse_line}
use Rattle.parse.specs.Answer.{told_in, on_checked}
use Rattle.parse.proofs.Answers.{AgreeOn, else_alike}
use Rattle.message.specs.Messages.{ill_formed, clear_screen, message}
use Rattle.message.specs.declared.error.ParseError.TheVariants.{NoHandler}
use Rattle.help.specs.Texts.{available_text}
use Rattle.help.specs.Answer.{Reply, said, unknown, wordless, help_in, help_of}
use Rattle.shell.specs.Lines.{Said, silence, text, farewell, handed, builtin_of, on_builtin, begins_help, help_words, help_said, joined, carried, execute_in, execute, other_said, line_said, said_of}
use Rattle.shell.specs.Answer.{said_answer, said_leaves, run_answer, run_leaves, Running}
use Rattle.shell.specs.declared.answer.Ran.{Ran}
use Rattle.shell.specs.declared.answer.RunRefusal.{RunRefusal}
use Rattle.shell.specs.declared.answer.RunRefusal.TheVariants.{BadTree}
use Rattle.shell.specs.declared.builtin.Builtin.{Builtin}
use Rattle.shell.specs.declared.builtin.Builtin.TheVariants.{Help, Exit, Clear, None}

-- NO SECOND ANSWER
pub one_answer : (image line out left other : List ℕ) (r q : Result Ran RunRefusal) → Running image line out r left → Running image line out q other → (r ≡ q) × (left ≡ other)
one_answer image line out left other r q a b = (a.answer ∙ sym b.answer, a.bytes ∙ sym b.bytes)

-- the words whose first names the command: after an untrimmed `help `, else of the trimmed line
unfoldable pub naming : List ℕ → List (List ℕ)
naming line = cond (begins_help line) (help_words line) (words_of (trimmed line))

-- NO OTHER COMMAND MATTERS, to any line but a bare `help`
module _ (frames others : List Frame) where
  help_alike : (words : List (List ℕ)) → AgreeOn frames others words → help_of frames words ≡ help_of others words
  unfolding help_of
  help_alike [] e = refl
  help_alike (w ∷ words) e = ap (λ (fs : List Frame). help_in fs w words) e

  execute_alike : (words : List (List ℕ)) → AgreeOn frames others words → execute frames words ≡ execute others words
  unfolding execute
  execute_alike [] e = refl
  execute_alike (w ∷ words) e = ap (λ (fs : List Frame). execute_in fs w words) e

  choice_alike : (t u : Bool) (a b : List (List ℕ)) → AgreeOn frames others (cond t a b)
      → cond t (help_said (help_of frames a)) (cond u silence (execute frames b)) ≡ cond t (help_said (help_of others a)) (cond u silence (execute others b))
  choice_alike true u a b e = ap help_said (help_alike a e)
  choice_alike false true a b e = refl
  choice_alike false false a b e = execute_alike b e

  builtin_alike : (x : Builtin) → (x ≡ Help → ⊥) → (s t : Said) → s ≡ t
      → on_builtin x (text 0 (available_text frames)) farewell (text 0 clear_screen) s ≡ on_builtin x (text 0 (available_text others)) farewell (text 0 clear_screen) t
  builtin_alike Help k s t e = absurd (k refl)
  builtin_alike Exit k s t e = refl
  builtin_alike Clear k s t e = refl
  builtin_alike None k s t e = e

  -- what is asked of the trees for a line: nothing of one that is over-long or ill-formed, which names no command
  abbrev pub Agreeing : List ℕ → Type 0
  Agreeing line =
      ltb 1024 (length line) ≡ false → ltb (well_formed_length line) (length line) ≡ false → (builtin_of (trimmed line) ≡ Help → ⊥) × AgreeOn frames others (naming line)

  said_alike : (line : List ℕ) → Agreeing line → ltb 1024 (length line) ≡ false → said_of frames line ≡ said_of others line
  unfolding said_of line_said other_said naming
  said_alike line e l =
      else_alike (ltb (well_formed_length line) (length line)) _ _ _
      (λ w. builtin_alike (builtin_of (trimmed line)) (e l w).0 _ _ (choice_alike (begins_help line) (blank line) (help_words line) (words_of (trimmed line)) (e l w).1))

-- as the call has it, under two well-formed trees
module _ (image other line : List ℕ) (g : check_tree image ≡ Ok tt) (h : check_tree other ≡ Ok tt) (out left right : List ℕ) (r q : Result Ran RunRefusal) (a : Running image line out r left) (b : Running other line out q right) where
  both_good : {A : Type 0} (bad : ℕ → A) (x y : A) → x ≡ y → on_checked (check_tree image) bad x ≡ on_checked (check_tree other) bad y
  both_good bad x y e = ap (λ (z : Result ⊤ BadFrame). on_checked z bad x) g ∙ e ∙ sym (ap (λ (z : Result ⊤ BadFrame). on_checked z bad y) h)

  pub other_commands : Agreeing (frames_of image) (frames_of other) line → (r ≡ q) × (left ≡ right)
  unfolding run_answer run_leaves
  other_commands e =
      let same = said_alike (frames_of image) (frames_of other) line e in (
        a.answer ∙ both_good (λ n. Err (BadTree n)) _ _ (else_alike (ltb 1024 (length line)) _ _ _ (λ l. ap (λ (s : Said). said_answer s (length out)) (same l))) ∙ sym b.answer,
        a.bytes ∙ both_good (λ n. out) _ _ (else_alike (ltb 1024 (length line)) _ _ _ (λ l. ap (λ (s : Said). said_leaves s out) (same l))) ∙ sym b.bytes,
      )

-- THE REPORT of a handler is parse's report of the trimmed line
module _ (handler : ℕ) (report : List ℕ) where
  carried_report : (k : ℕ) (o : Outcome) → carried k o ≡ handed handler report → report ≡ told_in o
  unfolding carried
  carried_report k (fault number told) e = cc
  carried_report k (parsed path found) e = by (eqb k 0) e
    where
      by : (t : Bool) → cond t (text 8 (message NoHandler (joined path))) (handed k (told_in (parsed path found))) ≡ handed handler report → report ≡ told_in (parsed path found)
      by true q = cc
      by false q = cc

  execute_report : (frames : List Frame) (words : List (List ℕ)) → execute frames words ≡ handed handler report → report ≡ told_in (parse_words frames words)
  unfolding execute execute_in parse_words
  execute_report frames [] e = carried_report _ _ e
  execute_report frames (w ∷ words) e = carried_report _ _ e

  help_hands_none : (x : Reply) (s : Said) → help_said x ≡ handed handler report → s ≡ handed handler report
  help_hands_none (said bytes) s e = cc
  help_hands_none (unknown word) s e = cc
  help_hands_none wordless s e = cc

  other_report : (t u : Bool) (x : Reply) (s : Said) → cond t (help_said x) (cond u silence s) ≡ handed handler report → s ≡ handed handler report
  other_report true u x s e = help_hands_none x s e
  other_report false true x s e = cc
  other_report false false x s e = e

  line_report : (ill : Bool) (x : Builtin) (list s : Said) → (list ≡ handed handler report → s ≡ handed handler report)
      → cond ill (text 3 ill_formed) (on_builtin x list farewell (text 0 clear_screen) s) ≡ handed handler report → s ≡ handed handler report
  line_report true x list s k e = cc
  line_report false Help list s k e = k e
  line_report false Exit list s k e = cc
  line_report false Clear list s k e = cc
  line_report false None list s k e = e

  pub report_parsed : (image line : List ℕ) → said_of (frames_of image) line ≡ handed handler report → report ≡ told_in (parse_line image (trimmed line))
  unfolding said_of line_said other_said parse_line
  report_parsed image line e =
      execute_report (frames_of image) (words_of (trimmed line))
      (other_report (begins_help line) (blank line) (help_of (frames_of image) (help_words line)) (execute (frames_of image) (words_of (trimmed line)))
      (line_report (ltb (well_formed_length line) (length line)) (builtin_of (trimmed line)) (text 0 (available_text (frames_of image))) (other_said (frames_of image) line) (λ q. cc) e))
