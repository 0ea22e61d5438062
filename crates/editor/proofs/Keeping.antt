-- Every action but Enter keeps the slots of history and submits nothing; all but Up and Down leave the history itself alone.
use Prim.Native.Nat.{ℕ}
use mathlib.Core.Path.{◌≡◌, refl, sym, ap, ◌∙◌}
use mathlib.Core.Bool.{Bool, true, false, cond}
use mathlib.Core.List.{List, []}
use lib.Dec.{eqb, ltb}
use lib.ListN.{length}
use Rattle.history.specs.Journal.{count, record_of, slots_of as journal_slots, good}
use Rattle.history.specs.declared.stepping.History.{History}
use Rattle.history.proofs.Journals.{slots_placed}
use Rattle.editor.specs.declared.line.Editor.{Editor}
use Rattle.editor.specs.declared.drawing.KeyAnswer.{KeyAnswer}
use Rattle.keys.specs.declared.standing.Action.{Action}
use Rattle.editor.specs.Line.{limit}
use Rattle.editor.specs.Turns.{State, Turn, showing, erase, insert, up, on_place, down, right, left, go_to, delete, turn_by}
use Rattle.editor.specs.Answer.{state_of, slots_of}
use Rattle.editor.specs.Inner.{ActsTo, Acts, Does}
use Rattle.editor.proofs.States.{holds_slots, holds_history, acts_to}
use Rattle.editor.proofs.Enters.{does_acts, does_as}

pub record Keeps (s : State) (t : Turn) : Type 0 where
  pub held : slots_of t.after ≡ slots_of s
  pub submitted : t.submitted ≡ []

same : (s : State) (t : Turn) → slots_of t.after ≡ slots_of s → t.submitted ≡ [] → Keeps s t
same s t p q = record { held = p; submitted = q }

pub record Leaves (s : State) (t : Turn) : Type 0 where
  pub history : t.after.history ≡ s.history
  pub submitted : t.submitted ≡ []

left_alone : (s : State) (t : Turn) → t.after.history ≡ s.history → t.submitted ≡ [] → Leaves s t
left_alone s t p q = record { history = p; submitted = q }

keeps : (s : State) (t : Turn) → Leaves s t → Keeps s t
keeps s t l = same s t (ap journal_slots l.history) l.submitted

either : (K : Turn → Type 0) (b : Bool) (t u : Turn) → K t → K u → K (cond b t u)
either K true t u k l = k
either K false t u k l = l

module _ (prompt : List ℕ) (s : State) where
  pub quiet_leaves : Leaves s (showing s [])
  quiet_leaves = left_alone s _ refl refl

  pub erase_leaves : Leaves s (erase prompt s)
  unfolding erase
  erase_leaves = either (Leaves s) (eqb s.cursor 0) _ _ (left_alone s _ refl refl) (left_alone s _ refl refl)

  pub insert_leaves : (byte : ℕ) → Leaves s (insert prompt s byte)
  unfolding insert
  insert_leaves byte = either (Leaves s) (ltb (length s.line) limit) _ _ (left_alone s _ refl refl) (left_alone s _ refl refl)

  pub up_keeps : Keeps s (up prompt s)
  unfolding up
  up_keeps = either (Keeps s) (eqb s.history.place 0) _ _ (same s _ refl refl) (same s _ (slots_placed s.history _) refl)

  pub down_keeps : Keeps s (down prompt s)
  unfolding down
  down_keeps =
      either (Keeps s) (ltb (on_place s.history) (count s.history)) _ _ (same s _ (slots_placed s.history _) refl) (same s _ (slots_placed s.history _) refl)

  pub right_leaves : Leaves s (right s)
  unfolding right
  right_leaves = either (Leaves s) (ltb s.cursor (length s.line)) _ _ (left_alone s _ refl refl) (left_alone s _ refl refl)

  pub left_leaves : Leaves s (left s)
  unfolding left
  left_leaves = either (Leaves s) (eqb s.cursor 0) _ _ (left_alone s _ refl refl) (left_alone s _ refl refl)

  pub go_leaves : (place : ℕ) → Leaves s (go_to prompt s place)
  unfolding go_to
  go_leaves place = either (Leaves s) (eqb s.cursor place) _ _ (left_alone s _ refl refl) (left_alone s _ refl refl)

  pub delete_leaves : Leaves s (delete prompt s)
  unfolding delete
  delete_leaves = either (Leaves s) (ltb s.cursor (length s.line)) _ _ (left_alone s _ refl refl) (left_alone s _ refl refl)

-- so the slots and the line buffer stay
pub does_kept : (e : Editor) (h : History) (slots line screen : List ℕ) (t : Turn) (k : KeyAnswer) (screen' : List ℕ) → good h slots ≡ true
    → Keeps (state_of e h slots) t → Acts e h t screen k screen' → Does e h t slots line screen k slots line screen'
does_kept e h slots line screen t k screen' g p a = does_acts e h t slots line screen k screen' (p.held ∙ holds_slots e h slots g) p.submitted a

-- and of one that leaves the history alone, the record that came is that of the history after it
leaves_acts : (e : Editor) (h : History) (slots screen : List ℕ) (t : Turn) (k : KeyAnswer) (screen' : List ℕ) → good h slots ≡ true
    → Leaves (state_of e h slots) t → ActsTo e h t h screen k screen' → Acts e h t screen k screen'
leaves_acts e h slots screen t k screen' g l a = acts_to e h screen t h k screen' (sym (ap record_of l.history ∙ holds_history e h slots g)) a

-- an action that is known
module _ (e : Editor) (h : History) (slots prompt line screen : List ℕ) (a b : Action) (is : a ≡ b) where
  pub acted : (k : KeyAnswer) (screen' : List ℕ) → good h slots ≡ true → Keeps (state_of e h slots) (turn_by prompt (state_of e h slots) b)
      → Acts e h (turn_by prompt (state_of e h slots) b) screen k screen'
      → Does e h (turn_by prompt (state_of e h slots) a) slots line screen k slots line screen'
  acted k screen' g p q =
      does_as e h (turn_by prompt (state_of e h slots) b) slots line screen (turn_by prompt (state_of e h slots) a) k slots line screen'
      (ap (turn_by prompt (state_of e h slots)) (sym is)) (does_kept e h slots line screen (turn_by prompt (state_of e h slots) b) k screen' g p q)

  pub acted_alone : (k : KeyAnswer) (screen' : List ℕ) → good h slots ≡ true → Leaves (state_of e h slots) (turn_by prompt (state_of e h slots) b)
      → ActsTo e h (turn_by prompt (state_of e h slots) b) h screen k screen'
      → Does e h (turn_by prompt (state_of e h slots) a) slots line screen k slots line screen'
  acted_alone k screen' g l q =
      let t : Turn = turn_by prompt (state_of e h slots) b in acted k screen' g (keeps (state_of e h slots) t l) (leaves_acts e h slots screen t k screen' g l q)

  pub entered : (k : KeyAnswer) (slots' line' screen' : List ℕ) → Does e h (turn_by prompt (state_of e h slots) b) slots line screen k slots' line' screen'
      → Does e h (turn_by prompt (state_of e h slots) a) slots line screen k slots' line' screen'
  entered k slots' line' screen' d =
      does_as e h (turn_by prompt (state_of e h slots) b) slots line screen (turn_by prompt (state_of e h slots) a) k slots' line' screen'
      (ap (turn_by prompt (state_of e h slots)) (sym is)) d
