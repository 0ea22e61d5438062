-- Laws of states: who holds a good state holds just what the state says, and what a turn comes to.
use Rattle.std.specs.Prelude.{Ok, Err}
use Prim.Native.Nat.{ℕ, ◌<◌, ◌≤◌}
use mathlib.Core.Path.{◌≡◌, refl, sym, ap, ◌∙◌}
use mathlib.Core.Bool.{true}
use mathlib.Core.List.{List, []}
use native.Mathlib.Omega.{arith}
use lib.ListN.{length}
use borrow.Author.Tests.{le-leb}
use Rattle.buffer.specs.Write.{over}
use Rattle.buffer.proofs.Ordering.{is_same}
use Rattle.buffer.proofs.Choices.{then_is}
use Rattle.history.specs.Journal.{good}
use Rattle.history.specs.declared.stepping.History.{History}
use Rattle.history.proofs.States.{holds}
use Rattle.history.proofs.Journals.{record_held, slots_held}
use Rattle.screen.specs.Redraw.{redraw}
use Rattle.keys.specs.declared.standing.Profile.{Profile}
use Rattle.keys.specs.declared.standing.Mode.{Mode}
use Rattle.keys.specs.Modes.{good_mode}
use Rattle.editor.specs.declared.line.Editor.{Editor}
use Rattle.editor.specs.declared.drawing.KeyAnswer.{KeyAnswer}
use Rattle.editor.specs.declared.drawing.Pressed.TheVariants.{Shown, Dropped}
use Rattle.editor.specs.declared.drawing.KeyRefusal.TheVariants.{NoRoom}
use Rattle.editor.specs.Line.{limit, padded, holding, line_of, good_line, good_editor, content}
use Rattle.editor.specs.Turns.{State, Turn, dropping, showing, redrawn, redrawing}
use Rattle.editor.specs.Answer.{state_of, editor_of, history_of, slots_of, good_state}
use Rattle.editor.specs.Inner.{attempt, key_of, Shows, made_by, ActsTo, Acts}
use Rattle.editor.proofs.Lines.{editor, good_line_lem, length_of_lem, held_line, line_held, length_padded}
use Rattle.editor.proofs.Showings.{attempt_fits}

-- a good editor has a good mode and a good line, a good state a good editor and a good history
pub editor_parts : (e : Editor) → good_editor e ≡ true → (good_mode e.profile e.mode ≡ true) × (good_line e ≡ true)
unfolding good_editor
editor_parts e g = holds (good_mode e.profile e.mode) _ g

pub good_editor_lem : (e : Editor) → good_mode e.profile e.mode ≡ true → good_line e ≡ true → good_editor e ≡ true
unfolding good_editor
good_editor_lem e m g = then_is _ _ _ m ∙ g

pub state_parts : (e : Editor) (h : History) (slots : List ℕ) → good_state e h slots ≡ true → (good_editor e ≡ true) × (good h slots ≡ true)
unfolding good_state
state_parts e h slots g = holds (good_editor e) _ g

pub good_state_lem : (e : Editor) (h : History) (slots : List ℕ) → good_editor e ≡ true → good h slots ≡ true → good_state e h slots ≡ true
unfolding good_state
good_state_lem e h slots p q = then_is _ _ _ p ∙ q

pub good_mode_lem : (e : Editor) (h : History) (slots : List ℕ) → good_state e h slots ≡ true → good_mode e.profile e.mode ≡ true
good_mode_lem e h slots g = (editor_parts e (state_parts e h slots g).0).0

pub good_parts : (e : Editor) (h : History) (slots : List ℕ) → good_state e h slots ≡ true → (good_line e ≡ true) × (good h slots ≡ true)
good_parts e h slots g = let p = state_parts e h slots g in ((editor_parts e p.0).1, p.1)

-- another good mode changes nothing of it
line_in : (e : Editor) (mode : Mode) → good_line e ≡ true → good_line (editor e.line e.length e.cursor mode e.profile) ≡ true
unfolding good_line line_of
line_in e mode g = g

pub moded_good : (e : Editor) (h : History) (slots : List ℕ) (e₁ : Editor) (mode : Mode) → e₁ ≡ editor e.line e.length e.cursor mode e.profile
    → good_mode e.profile mode ≡ true → good_state e h slots ≡ true → good_state e₁ h slots ≡ true
moded_good e h slots e₁ mode q m g =
    let p = good_parts e h slots g in
    ap (λ (x : Editor). good_state x h slots) q
    ∙ good_state_lem (editor e.line e.length e.cursor mode e.profile) h slots (good_editor_lem _ m (line_in e mode p.0)) p.1

-- what holds a state
pub holds_history : (e : Editor) (h : History) (slots : List ℕ) → good h slots ≡ true → history_of (state_of e h slots) ≡ h
unfolding state_of
holds_history e h slots g = record_held h slots g

pub holds_editor : (e : Editor) (h : History) (slots : List ℕ) → good_line e ≡ true → editor_of (state_of e h slots) ≡ e
unfolding editor_of state_of
holds_editor e h slots g = held_line e (good_line_lem e g)

pub holds_slots : (e : Editor) (h : History) (slots : List ℕ) → good h slots ≡ true → slots_of (state_of e h slots) ≡ slots
unfolding state_of
holds_slots e h slots g = slots_held h slots g

-- an editor that holds a line within the limit, with a cursor in it, has a good line
held_size : (line : List ℕ) (cursor : ℕ) (mode : Mode) (profile : Profile) → length line ≤ 255 → (holding line cursor mode profile).length ≤ 255
unfolding holding
held_size line cursor mode profile h = h

held_within : (line : List ℕ) (cursor : ℕ) (mode : Mode) (profile : Profile) → cursor ≤ length line → (holding line cursor mode profile).cursor ≤ (holding line cursor mode profile).length
unfolding holding
held_within line cursor mode profile k = k

held_bytes : (line : List ℕ) (cursor : ℕ) (mode : Mode) (profile : Profile) → padded line ≡ (holding line cursor mode profile).line
unfolding holding
held_bytes line cursor mode profile = refl

pub held_good : (line : List ℕ) (cursor : ℕ) (mode : Mode) (profile : Profile) → length line ≤ 255 → cursor ≤ length line → good_line (holding line cursor mode profile) ≡ true
unfolding good_line limit
held_good line cursor mode profile h k =
    then_is _ _ _ (le-leb _ _ (held_size line cursor mode profile h))
    ∙ then_is _ _ _ (le-leb _ _ (held_within line cursor mode profile k))
    ∙ is_same _ _ (ap padded (line_held line cursor mode profile) ∙ held_bytes line cursor mode profile)

-- an editor that holds a short line has room for it
pub held_fits : (g : Editor) (l : List ℕ) (cursor : ℕ) (mode : Mode) (profile : Profile) → g ≡ holding l cursor mode profile → length l ≤ 255
    → (g.length ≤ limit) × (length g.line ≡ limit)
unfolding holding limit
held_fits g l cursor mode profile e h = (rw e h, ap (λ (x : Editor). length x.line) e ∙ length_padded l h)

pub moved_fits : (e g : Editor) (cursor : ℕ) → good_line e ≡ true → g ≡ editor e.line e.length cursor e.mode e.profile
    → (g.length ≤ limit) × (length g.line ≡ limit)
unfolding limit
moved_fits e g cursor k q = let l = good_line_lem e k in (rw q l.short, rw q (length_of_lem e l).0)

-- the limit as the code has it
pub in_limit : (n : ℕ) → n < 255 → n < limit
unfolding limit
in_limit n h = h

pub past_limit : (n : ℕ) → 255 ≤ n → limit ≤ n
unfolding limit
past_limit n h = h

pub short_enough : (n : ℕ) → n ≤ 255 → n ≤ limit
unfolding limit
short_enough n h = h

-- nothing shown
pub over_nothing : (d : List ℕ) → over [] d ≡ d
unfolding over
over_nothing d = refl

module _ (e : Editor) (h : History) (screen : List ℕ) where
  pub acts_quiet : (s : State) (e' : Editor) (h' : History) → e' ≡ editor_of s → ActsTo e h (showing s []) h' screen (key_of e' h' (Ok (Shown 0))) screen
  unfolding made_by
  acts_quiet s e' h' p =
      record {
        made = ap (λ (x : Editor). key_of x h' (Ok (Shown 0))) p ∙ sym (attempt_fits [] (length screen) _ _ (omega arith));
        shown = sym (attempt_fits [] (length screen) screen (over [] screen) (omega arith) ∙ over_nothing screen);
      }

  pub acts_dropped : (s : State) (e' : Editor) (h' : History) → e' ≡ editor_of s → ActsTo e h (dropping s) h' screen (key_of e' h' (Ok Dropped)) screen
  unfolding made_by
  acts_dropped s e' h' p =
      record {
        made = ap (λ (x : Editor). key_of x h' (Ok Dropped)) p ∙ sym (attempt_fits [] (length screen) _ _ (omega arith));
        shown = sym (attempt_fits [] (length screen) screen (over [] screen) (omega arith) ∙ over_nothing screen);
      }

  -- bytes shown, with the editor that holds
  pub acts_shown : (s : State) (bytes : List ℕ) (goes : Editor) (h' : History) (k : KeyAnswer) (left : List ℕ) → goes ≡ editor_of s
      → Shows bytes e h goes h' screen k left → ActsTo e h (showing s bytes) h' screen k left
  unfolding made_by
  acts_shown s bytes goes h' k left p a =
      record {
        made = a.made ∙ ap (λ (x : Editor). attempt bytes (length screen) (key_of e h (Err (NoRoom (length bytes)))) (key_of x h' (Ok (Shown (length bytes))))) p;
        shown = a.shown;
      }

  redrawn_by : (prompt : List ℕ) (s : State) (goes : Editor) → goes ≡ editor_of s → redraw prompt (content (line_of goes)) goes.cursor ≡ redrawn prompt s
  unfolding redrawn editor_of holding
  redrawn_by prompt s goes p =
      ap (λ (x : Editor). redraw prompt (content (line_of x)) x.cursor) p
      ∙ ap (λ (l : List ℕ). redraw prompt (content l) s.cursor) (line_held s.line s.cursor s.mode s.profile)

  pub acts_redrawn : (prompt : List ℕ) (s : State) (goes : Editor) (h' : History) (k : KeyAnswer) (left : List ℕ) → goes ≡ editor_of s
      → Shows (redraw prompt (content (line_of goes)) goes.cursor) e h goes h' screen k left → ActsTo e h (redrawing prompt s) h' screen k left
  acts_redrawn prompt s goes h' k left p a = acts_shown s (redrawn prompt s) goes h' k left p (rw (redrawn_by prompt s goes p) at a)

  -- the turn by another name, and the record after it
  pub acts_as : {h' : History} (t u : Turn) (k : KeyAnswer) (left : List ℕ) → t ≡ u → ActsTo e h t h' screen k left → ActsTo e h u h' screen k left
  acts_as t u k left q a = rw q at a

  pub turn_as : (t u : Turn) (k : KeyAnswer) (left : List ℕ) → t ≡ u → Acts e h t screen k left → Acts e h u screen k left
  turn_as t u k left q a = rw q at a

  pub acts_to : (t : Turn) (h' : History) (k : KeyAnswer) (left : List ℕ) → h' ≡ history_of t.after → ActsTo e h t h' screen k left → Acts e h t screen k left
  acts_to t h' k left q a = rw q at a
