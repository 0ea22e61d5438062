-- Laws of a key's turn: which one it takes, where its meaning is known.
use Prim.Native.Nat.{ℕ}
use mathlib.Core.Path.{◌≡◌, sym, ap, ◌∙◌}
use mathlib.Core.Bool.{true}
use mathlib.Core.List.{List}
use Rattle.history.specs.declared.stepping.History.{History}
use Rattle.keys.specs.declared.standing.Profile.{Profile}
use Rattle.keys.specs.declared.standing.Mode.{Mode}
use Rattle.editor.specs.declared.line.Editor.{Editor}
use Rattle.keys.specs.declared.meaning.Meaning.{Meaning}
use Rattle.keys.specs.Modes.{good_mode}
use Rattle.keys.specs.Keys.{meaning}
use Rattle.keys.proofs.Awaiting.{mode_kept}
use Rattle.editor.specs.Turns.{State, in_mode, turn_by, turn_of}
use Rattle.editor.specs.Line.{line_of}
use Rattle.editor.specs.Answer.{state_of}
use Rattle.editor.proofs.Lines.{editor}

-- a state in its own mode
pub own_mode : (s : State) (m : Mode) → s.mode ≡ m → in_mode s m ≡ s
own_mode s m e = ap (in_mode s) (sym e)

-- a byte leads from a good mode to a good one
pub meant_good : (p : Profile) (m : Mode) (b : ℕ) (x : Meaning) → x ≡ meaning p m b → good_mode p m ≡ true → good_mode p x.mode ≡ true
meant_good p m b x q g = ap (λ (y : Meaning). good_mode p y.mode) q ∙ mode_kept p m b g

-- a key's turn, where its meaning is known
pub turn_by_lem : (prompt : List ℕ) (s : State) (b : ℕ) (m : Meaning) → meaning s.profile s.mode b ≡ m → turn_of prompt s b ≡ turn_by prompt (in_mode s m.mode) m.action
unfolding turn_of
turn_by_lem prompt s b m e = ap (λ (x : Meaning). turn_by prompt (in_mode s x.mode) x.action) e

-- the same over the editor that is in the mode after it
pub turn_in_lem : (prompt : List ℕ) (e e₁ : Editor) (h : History) (slots : List ℕ) (b : ℕ) (m : Meaning) → m ≡ meaning e.profile e.mode b
    → e₁ ≡ editor e.line e.length e.cursor m.mode e.profile → turn_by prompt (state_of e₁ h slots) m.action ≡ turn_of prompt (state_of e h slots) b
unfolding state_of turn_of line_of
turn_in_lem prompt e e₁ h slots b m p q =
    ap (λ (x : Editor). turn_by prompt (state_of x h slots) m.action) q
    ∙ ap (λ (x : Meaning). turn_by prompt (in_mode (state_of e h slots) x.mode) x.action) p
