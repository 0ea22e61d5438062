-- What is carried out of what was judged: a fault by its parts, and a command with its handler or without.
use Prim.Native.Nat.{ℕ, ◌≤◌}
use mathlib.Core.Path.{◌≡◌, refl, sym, ap, ◌∙◌}
use mathlib.Core.Bool.{Bool, true, false, cond}
use mathlib.Core.List.{List}
use native.Mathlib.Omega.{arith}
use lib.Dec.{eqb}
use lib.ListN.{length, take, length-take, length-drop}
use Rattle.frame.specs.Series.{texts_in}
use Rattle.report.specs.Report.{report_of}
use Rattle.report.specs.Inner.{dashed}
use Rattle.tree.specs.Images.{frames_of}
use Rattle.tree.specs.Commands.{reached_by}
use Rattle.tree.specs.Trails.{image_part}
use Rattle.message.specs.Messages.{message}
use Rattle.message.specs.declared.error.ParseError.{ParseError}
use Rattle.message.specs.declared.error.ParseError.TheVariants.{NoHandler}
use Rattle.arguments.specs.Arguments.{Found}
use Rattle.arguments.specs.Inner.{found_of}
use Rattle.parse.specs.Commands.{parsed, parse_words}
use Rattle.parse.specs.Answer.{told_in}
use Rattle.parse.specs.Inner.{outcome_in, fault_number, fault_dashes, fault_text}
use Rattle.parse.specs.declared.judging.Fault.{Fault}
use Rattle.parse.specs.declared.judging.Fault.TheVariants.{NoWords, UnknownCommand, UnknownOption, MissingValue, MissingRequired}
use Rattle.parse.specs.declared.judging.Judged.{Judged}
use Rattle.parse.proofs.OutcomesTold.{fault_in, report_in}
use Rattle.shell.specs.Lines.{text, handed, fault_message, joined, handler_of, carried, execute}
use Rattle.shell.specs.Inner.{handler_by, error_of}
use Rattle.std.specs.Prelude.{Some, None, Ok, Err}
use Rattle.shell.proofs.Handlers.{execute_top}

-- the message of a fault is that of its number
error_told : (f : Fault) → error_of f ≡ fault_message (fault_number f)
unfolding fault_message
error_told NoWords = refl
error_told (UnknownCommand word) = refl
error_told (UnknownOption told) = refl
error_told (MissingValue told) = refl
error_told (MissingRequired name) = refl

-- after dashes stands a part of the words
pub dashed_short : (words part : List ℕ) (f : Fault) → (fault_dashes f ≡ 0 → ⊥) → length (fault_text words part f) ≤ length words
dashed_short words part NoWords k = absurd (k refl)
dashed_short words part (UnknownCommand word) k = absurd (k refl)
dashed_short words part (UnknownOption told) k = rw (length-take, length-drop) (omega arith)
dashed_short words part (MissingValue told) k = rw (length-take, length-drop) (omega arith)
dashed_short words part (MissingRequired name) k = absurd (k refl)

module _ (words image rest : List ℕ) (j : Judged) (handler : ℕ) where
  abbrev part : List ℕ
  part = image_part image j.place

  abbrev path : List (List ℕ)
  path = texts_in (take j.place.at words)

  abbrev found : Found
  found = found_of words part rest j.scan

  -- A FAULT
  module _ (f : Fault) (v : j.verdict ≡ Err f) (number dashes : ℕ) (told : ParseError) (t : List ℕ)
      (n : number ≡ fault_number f) (d : dashes ≡ fault_dashes f) (e : t ≡ fault_text words part f) (m : told ≡ error_of f) where
    pub fault_carried : text number (message told (dashed dashes t)) ≡ carried handler (outcome_in words image rest j)
    unfolding carried
    fault_carried =
        ap (λ (x : ParseError). text number (message x (dashed dashes t))) (m ∙ error_told f)
        ∙ ap (λ (x : ℕ). text x (message (fault_message (fault_number f)) (dashed dashes t))) n
        ∙ ap (carried handler) (fault_in words image rest j f dashes t v d e)

    -- without dashes
    pub plain_carried : dashes ≡ 0 → text number (message told t) ≡ carried handler (outcome_in words image rest j)
    unfolding dashed
    plain_carried z = ap (λ (x : ℕ). text number (message told (dashed x t))) (sym z) ∙ fault_carried

  -- A COMMAND
  module _ (fine : j.verdict ≡ Ok tt) where
    pub lacking_carried : None ≡ handler_by handler → text 8 (message NoHandler (joined path)) ≡ carried handler (outcome_in words image rest j)
    unfolding carried
    lacking_carried e = sym (ap (carried handler) (sym (report_in words image rest j fine)) ∙ by (eqb handler 0) e)
      where
        by : (t : Bool) → None ≡ cond t None (Some handler) → cond t (text 8 (message NoHandler (joined path))) (handed handler (told_in (parsed path found))) ≡ text 8 (message NoHandler (joined path))
        by true q = refl
        by false q = cc

    pub handed_carried : (number : ℕ) → Some number ≡ handler_by handler → handed number (report_of path found.options found.flags found.positionals) ≡ carried handler (outcome_in words image rest j)
    unfolding carried told_in
    handed_carried number e = sym (ap (carried handler) (sym (report_in words image rest j fine)) ∙ by (eqb handler 0) e)
      where
        by : (t : Bool) → Some number ≡ cond t None (Some handler)
            → cond t (text 8 (message NoHandler (joined path))) (handed handler (told_in (parsed path found))) ≡ handed number (report_of path found.options found.flags found.positionals)
        by true q = cc
        by false q = let k : handler ≡ number = cc in ap (λ (n : ℕ). handed n (report_of path found.options found.flags found.positionals)) k

  -- THE WORDS of a line
  pub words_carried : outcome_in words image rest j ≡ parse_words (frames_of image) (texts_in words) → handler ≡ handler_of (reached_by image words).frames
      → carried handler (outcome_in words image rest j) ≡ execute (frames_of image) (texts_in words)
  unfolding reached_by
  words_carried o h = ap (carried handler) o ∙ ap (λ (k : ℕ). carried k (parse_words (frames_of image) (texts_in words))) h ∙ execute_top (frames_of image) (texts_in words)
