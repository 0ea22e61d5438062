-- Laws of Enter, and of any turn with the slots and the line buffer beside it.
use Rattle.std.specs.Prelude.{Ok, Err}
use Prim.Native.Nat.{ℕ, ◌<◌, ◌≤◌}
use mathlib.Core.Path.{◌≡◌, refl, sym, ap, ◌∙◌}
use mathlib.Core.Bool.{Bool, true, false, cond}
use mathlib.Core.List.{List, []}
use native.Mathlib.Omega.{arith}
use lib.Dec.{eqb, ltb}
use lib.ListN.{length}
use borrow.Author.Tests.{eq-eqb, ne_eqb}
use Rattle.buffer.proofs.Choices.{then_is, else_is, true_is_not_false}
use Rattle.buffer.specs.Write.{over}
use Rattle.history.specs.Answer.{Offered}
use Rattle.history.specs.declared.stepping.History.{History}
use Rattle.editor.specs.declared.line.Editor.{Editor}
use Rattle.editor.specs.declared.drawing.KeyAnswer.{KeyAnswer}
use Rattle.editor.specs.declared.drawing.Pressed.TheVariants.{Entered}
use Rattle.editor.specs.declared.drawing.KeyRefusal.TheVariants.{NoRoom}
use Rattle.editor.specs.Line.{limit, holding, line_of, good_line, content}
use Rattle.editor.specs.Turns.{State, Kind, shows, enters, drops, Turn, entering, after_enter, line_feed, enter}
use Rattle.editor.specs.Answer.{state_of, editor_of, history_of, slots_of, good_state, taken, refused}
use Rattle.editor.specs.Inner.{attempt, key_of, made_by, Acts, Does}
use Rattle.editor.proofs.Lines.{good_line_lem, length_of_lem}
use Rattle.editor.proofs.Showings.{attempt_fits, attempt_short}
use Rattle.editor.proofs.States.{good_parts, holds_history, holds_editor, holds_slots, over_nothing}

module _ (e : Editor) (h : History) (t : Turn) (slots line screen : List ℕ) where
  -- a turn that fits, and one that does not
  pub does_fits : (k : KeyAnswer) (slots' line' screen' : List ℕ) → length t.screen ≤ length screen
      → k ≡ key_of (editor_of t.after) (history_of t.after) (taken t t.kind)
      → slots' ≡ slots_of t.after → line' ≡ over t.submitted line → screen' ≡ over t.screen screen → Does e h t slots line screen k slots' line' screen'
  unfolding made_by
  does_fits k slots' line' screen' l m a b d =
      record {
        acts =
            record {
              made = m ∙ sym (attempt_fits t.screen (length screen) _ _ l);
              shown = d ∙ sym (attempt_fits t.screen (length screen) _ _ l);
            };
        held = a ∙ sym (attempt_fits t.screen (length screen) _ _ l);
        given = b ∙ sym (attempt_fits t.screen (length screen) _ _ l);
      }

  pub does_short : (k : KeyAnswer) → length screen < length t.screen → k ≡ key_of e h (Err (NoRoom (length t.screen))) → Does e h t slots line screen k slots line screen
  unfolding made_by
  does_short k l m =
      record {
        acts =
            record {
              made = m ∙ sym (attempt_short t.screen (length screen) _ _ l);
              shown = sym (attempt_short t.screen (length screen) _ _ l);
            };
        held = sym (attempt_short t.screen (length screen) _ _ l);
        given = sym (attempt_short t.screen (length screen) _ _ l);
      }

  -- a turn that leaves slots and line buffer alone
  either : {A : Type 0} (bytes : List ℕ) (room : ℕ) (x : A) → x ≡ attempt bytes room x x
  unfolding attempt
  either {A} bytes room x = by (ltb room (length bytes))
    where
      by : (u : Bool) → x ≡ cond u x x
      by true = refl
      by false = refl

  pub does_acts : (k : KeyAnswer) (screen' : List ℕ) → slots_of t.after ≡ slots → t.submitted ≡ [] → Acts e h t screen k screen'
      → Does e h t slots line screen k slots line screen'
  does_acts k screen' p q a =
      record {
        acts = a;
        held = either t.screen (length screen) slots ∙ ap (attempt t.screen (length screen) slots) (sym p);
        given =
            either t.screen (length screen) line
            ∙ ap (attempt t.screen (length screen) line) (sym (ap (λ (x : List ℕ). over x line) q ∙ over_nothing line));
      }

  pub does_as : (u : Turn) (k : KeyAnswer) (slots' line' screen' : List ℕ) → t ≡ u → Does e h t slots line screen k slots' line' screen' → Does e h u slots line screen k slots' line' screen'
  does_as u k slots' line' screen' q d = rw q at d

pub limit_above : (n : ℕ) → limit ≤ n → 255 ≤ n
unfolding limit
limit_above n h = h

-- Enter
feeds : (s : State) → (enter s).screen ≡ line_feed
unfolding enter
feeds s = by (eqb (length s.line) 0)
  where
    by : (t : Bool) → (cond t (entering s []) (entering (after_enter s) s.line)).screen ≡ line_feed
    by true = refl
    by false = refl

module _ (e : Editor) (h : History) (slots line screen : List ℕ) (g : good_state e h slots ≡ true) where
  s : State
  s = state_of e h slots

  line_good : good_line e ≡ true
  line_good = (good_parts e h slots g).0

  pub enter_refused : length screen ≡ 0 → Does e h (enter (state_of e h slots)) slots line screen (key_of e h (Err (NoRoom 1))) slots line screen
  enter_refused z =
      let f = ap length (feeds (state_of e h slots)) in
      does_short e h (enter (state_of e h slots)) slots line screen _ (omega arith) (ap (λ (n : ℕ). key_of e h (Err (NoRoom n))) (sym f))

  pub enter_empty : (screen' : List ℕ) → 0 < length screen → e.length ≡ 0 → screen' ≡ over line_feed screen
      → Does e h (enter (state_of e h slots)) slots line screen (key_of e h (Ok (Entered 0))) slots line screen'
  unfolding enter s state_of
  enter_empty screen' l z d =
      let size = (length_of_lem e (good_line_lem e line_good)).1 in
      let t : Turn = entering s [] in
      does_as e h t slots line screen (enter s) _ _ _ _ (sym (then_is _ _ _ (eq-eqb (length (line_of e)) 0 (size ∙ z))))
      (does_fits e h t slots line screen _ _ _ _ l
      (ap (λ (x : Editor). key_of x h (Ok (Entered 0))) (sym (holds_editor e h slots line_good)) ∙ ap (λ (x : History). key_of (editor_of s) x (Ok (Entered 0))) (sym (holds_history e h slots (good_parts e h slots g).1)))
      (sym (holds_slots e h slots (good_parts e h slots g).1)) (sym (over_nothing line)) d)

  pub enter_line : (h' : History) (e' : Editor) (slots' line' screen' : List ℕ) → 0 < length screen → (e.length ≡ 0 → ⊥)
      → e' ≡ holding [] 0 e.mode e.profile → Offered h slots (content (line_of e)) h' slots' → line' ≡ over (line_of e) line → screen' ≡ over line_feed screen
      → Does e h (enter (state_of e h slots)) slots line screen (key_of e' h' (Ok (Entered e.length))) slots' line' screen'
  unfolding enter s state_of editor_of holding
  enter_line h' e' slots' line' screen' l n p o b d =
      let size = (length_of_lem e (good_line_lem e line_good)).1 in
      let t : Turn = entering (after_enter s) (line_of e) in
      does_as e h t slots line screen (enter s) _ _ _ _ (sym (else_is _ _ _ (ne_eqb (length (line_of e)) 0 (λ z. n (sym size ∙ z)))))
      (does_fits e h t slots line screen _ _ _ _ l
      (ap (λ (x : Editor). key_of x h' (Ok (Entered e.length))) p
      ∙ ap (λ (x : History). key_of (holding [] 0 e.mode e.profile) x (Ok (Entered e.length))) o.state
      ∙ ap (λ (n : ℕ). key_of (holding [] 0 e.mode e.profile) (history_of (after_enter s)) (Ok (Entered n))) (sym size))
      o.bytes b d)

-- a refusal that hands back another editor than the one that the turn began with
pub taken_not_refused : (t : Turn) (k : Kind) → refused (taken t k) ≡ false
taken_not_refused t shows = refl
taken_not_refused t enters = refl
taken_not_refused t drops = refl

module _ (e e₁ : Editor) (h : History) (t : Turn) (slots line screen : List ℕ) (k : KeyAnswer) (slots' line' screen' : List ℕ)
    (d : Does e₁ h t slots line screen k slots' line' screen') where
  made : Bool → KeyAnswer
  made b = cond b (key_of e₁ h (Err (NoRoom (length t.screen)))) (key_of (editor_of t.after) (history_of t.after) (taken t t.kind))

  by_room : (b : Bool) → ltb (length screen) (length t.screen) ≡ b → k ≡ made b
  unfolding made made_by attempt
  by_room b q = d.acts.made ∙ ap made q

  same : (k' : KeyAnswer) → k' ≡ made_by e h t (history_of t.after) (length screen) → Does e h t slots line screen k' slots' line' screen'
  same k' m = record { acts = record { made = m; shown = d.acts.shown }; held = d.held; given = d.given }

  pub does_refused : refused k.answer ≡ true → Does e h t slots line screen (key_of e h k.answer) slots' line' screen'
  unfolding made made_by attempt
  does_refused r = same (key_of e h k.answer) (by (ltb (length screen) (length t.screen)) refl)
    where
      by : (b : Bool) → ltb (length screen) (length t.screen) ≡ b
          → key_of e h k.answer ≡ cond b (key_of e h (Err (NoRoom (length t.screen)))) (key_of (editor_of t.after) (history_of t.after) (taken t t.kind))
      by true q = ap (λ (x : KeyAnswer). key_of e h x.answer) (by_room true q)
      by false q = absurd (true_is_not_false (sym r ∙ ap (λ (x : KeyAnswer). refused x.answer) (by_room false q) ∙ taken_not_refused t t.kind))

  pub does_taken : refused k.answer ≡ false → Does e h t slots line screen k slots' line' screen'
  unfolding made made_by attempt
  does_taken r = same k (by (ltb (length screen) (length t.screen)) refl)
    where
      by : (b : Bool) → ltb (length screen) (length t.screen) ≡ b
          → k ≡ cond b (key_of e h (Err (NoRoom (length t.screen)))) (key_of (editor_of t.after) (history_of t.after) (taken t t.kind))
      by true q = absurd (true_is_not_false (sym (ap (λ (x : KeyAnswer). refused x.answer) (by_room true q)) ∙ r))
      by false q = by_room false q
