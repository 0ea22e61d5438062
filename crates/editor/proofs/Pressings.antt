-- The contract of `key`, from its refusals and from what a turn comes to; that it has one answer only.
use Rattle.std.specs.Prelude.{Err, Result}
use Prim.Native.Nat.{ℕ, ◌<◌, ◌≤◌}
use mathlib.Core.Path.{◌≡◌, refl, sym, ap, ◌∙◌}
use mathlib.Core.Bool.{Bool, true, false, cond}
use mathlib.Core.List.{List}
use lib.Dec.{leb, ltb}
use lib.ListN.{length}
use borrow.Author.Tests.{lt-ltb, le-ltb, ltb-true, ltb-false, leb-true}
use Rattle.buffer.proofs.Choices.{then_is, else_is}
use Rattle.history.proofs.States.{holds}
use Rattle.history.specs.declared.stepping.History.{History}
use Rattle.editor.specs.declared.line.Editor.{Editor}
use Rattle.editor.specs.declared.drawing.KeyAnswer.{KeyAnswer}
use Rattle.editor.specs.declared.drawing.Pressed.{Pressed}
use Rattle.editor.specs.declared.drawing.KeyRefusal.{KeyRefusal}
use Rattle.editor.specs.declared.drawing.KeyRefusal.TheVariants.{BadState, BadPrompt, NoRoom}
use Rattle.editor.specs.Line.{limit}
use Rattle.editor.specs.Turns.{Turn, turn_of}
use Rattle.editor.specs.Answer.{state_of, editor_of, history_of, good_state, good_prompt, taken, turn_answer, key_answer, refused, Pressing}
use Rattle.editor.specs.Inner.{key_of, made_by, Does}
use Rattle.editor.proofs.Showings.{attempt_fits, attempt_short}
use Rattle.editor.proofs.Enters.{taken_not_refused}

pub prompt_short : (prompt : List ℕ) → good_prompt prompt ≡ true → length prompt ≤ 128
unfolding good_prompt
prompt_short prompt g = leb-true _ _ (holds (leb (length prompt) 128) _ g).0

module _ (e : Editor) (h : History) (slots prompt : List ℕ) (byte : ℕ) (line screen : List ℕ) where
  t : Turn
  t = turn_of prompt (state_of e h slots) byte

  -- a refusal
  stays : (told : Result Pressed KeyRefusal) → key_answer (good_state e h slots) prompt (turn_of prompt (state_of e h slots) byte) (length line) (length screen) ≡ told → refused told ≡ true
      → Pressing e h slots prompt byte line screen (key_of e h told) slots line screen
  stays told q r =
      record {
        answer = sym q;
        editor = sym (then_is _ _ _ r);
        history = sym (then_is _ _ _ r);
        held = sym (then_is _ _ _ r);
        given = sym (then_is _ _ _ r);
        shown = sym (then_is _ _ _ r);
      }

  pub bad_state_lem : good_state e h slots ≡ false → Pressing e h slots prompt byte line screen (key_of e h (Err BadState)) slots line screen
  unfolding key_answer
  bad_state_lem g = stays (Err BadState) (else_is _ _ _ g) refl

  module _ (g : good_state e h slots ≡ true) where
    pub bad_prompt : good_prompt prompt ≡ false → Pressing e h slots prompt byte line screen (key_of e h (Err (BadPrompt (length prompt)))) slots line screen
    unfolding key_answer
    bad_prompt p = stays (Err (BadPrompt (length prompt))) (then_is _ _ _ g ∙ else_is _ _ _ p) refl

    module _ (p : good_prompt prompt ≡ true) where
      pub short_line : length line < limit → Pressing e h slots prompt byte line screen (key_of e h (Err (NoRoom limit))) slots line screen
      unfolding key_answer turn_answer
      short_line l = stays (Err (NoRoom limit)) (then_is _ _ _ g ∙ then_is _ _ _ p ∙ then_is _ _ _ (lt-ltb (length line) limit l)) refl

      answers : limit ≤ length line → (u : Result Pressed KeyRefusal) → cond (ltb (length screen) (length t.screen)) (Err (NoRoom (length t.screen))) (taken t t.kind) ≡ u
          → key_answer (good_state e h slots) prompt (turn_of prompt (state_of e h slots) byte) (length line) (length screen) ≡ u
      unfolding key_answer turn_answer t
      answers l u q = then_is _ _ _ g ∙ then_is _ _ _ p ∙ else_is _ _ _ (le-ltb (length line) limit l) ∙ q

      -- a key that was taken, or for which the screen had no room
      pub pressed : limit ≤ length line → (k : KeyAnswer) (slots' line' screen' : List ℕ)
          → Does e h (turn_of prompt (state_of e h slots) byte) slots line screen k slots' line' screen'
          → Pressing e h slots prompt byte line screen k slots' line' screen'
      unfolding t made_by
      pressed l k slots' line' screen' d = by (ltb (length screen) (length t.screen)) refl
        where
          by : (b : Bool) → ltb (length screen) (length t.screen) ≡ b → Pressing e h slots prompt byte line screen k slots' line' screen'
          by true q =
              let room = ltb-true _ _ q in
              let m : k ≡ key_of e h (Err (NoRoom (length t.screen))) = d.acts.made ∙ attempt_short t.screen (length screen) _ _ room in
              let r : refused k.answer ≡ true = ap (λ (x : KeyAnswer). refused x.answer) m in
              record {
                answer = ap (λ (x : KeyAnswer). x.answer) m ∙ sym (answers l (Err (NoRoom (length t.screen))) (then_is _ _ _ q));
                editor = ap (λ (x : KeyAnswer). x.editor) m ∙ sym (then_is _ _ _ r);
                history = ap (λ (x : KeyAnswer). x.history) m ∙ sym (then_is _ _ _ r);
                held = d.held ∙ attempt_short t.screen (length screen) _ _ room ∙ sym (then_is _ _ _ r);
                given = d.given ∙ attempt_short t.screen (length screen) _ _ room ∙ sym (then_is _ _ _ r);
                shown = d.acts.shown ∙ attempt_short t.screen (length screen) _ _ room ∙ sym (then_is _ _ _ r);
              }
          by false q =
              let room = ltb-false _ _ q in
              let m : k ≡ key_of (editor_of t.after) (history_of t.after) (taken t t.kind) = d.acts.made ∙ attempt_fits t.screen (length screen) _ _ room in
              let r : refused k.answer ≡ false = ap (λ (x : KeyAnswer). refused x.answer) m ∙ taken_not_refused t t.kind in
              record {
                answer = ap (λ (x : KeyAnswer). x.answer) m ∙ sym (answers l (taken t t.kind) (else_is _ _ _ q));
                editor = ap (λ (x : KeyAnswer). x.editor) m ∙ sym (else_is _ _ _ r);
                history = ap (λ (x : KeyAnswer). x.history) m ∙ sym (else_is _ _ _ r);
                held = d.held ∙ attempt_fits t.screen (length screen) _ _ room ∙ sym (else_is _ _ _ r);
                given = d.given ∙ attempt_fits t.screen (length screen) _ _ room ∙ sym (else_is _ _ _ r);
                shown = d.acts.shown ∙ attempt_fits t.screen (length screen) _ _ room ∙ sym (else_is _ _ _ r);
              }
