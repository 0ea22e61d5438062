-- What holds of every key: it has one answer only, it keeps the profile and leads to the mode that its byte means, an empty line touches nothing, a full line
-- drops a byte.
use Rattle.std.specs.Prelude.{Result}
use Prim.Native.Nat.{ℕ, ◌≤◌}
use mathlib.Core.Path.{◌≡◌, refl, sym, ap, ◌∙◌}
use mathlib.Core.Bool.{Bool, true, false, cond}
use mathlib.Core.List.{List, [], ◌∷◌}
use native.Mathlib.Omega.{arith}
use lib.Dec.{eqb, ltb}
use lib.ListN.{length}
use borrow.Author.Tests.{eq-eqb, le-ltb}
use Rattle.buffer.proofs.Choices.{then_is, else_is}
use Rattle.history.specs.Journal.{count}
use Rattle.history.specs.declared.stepping.History.{History}
use Rattle.keys.specs.declared.standing.Profile.{Profile}
use Rattle.keys.specs.declared.standing.Mode.{Mode}
use Rattle.keys.specs.declared.standing.Mode.TheVariants.{Typing}
use Rattle.editor.specs.declared.line.Editor.{Editor}
use Rattle.editor.specs.declared.drawing.KeyAnswer.{KeyAnswer}
use Rattle.editor.specs.declared.drawing.Pressed.{Pressed}
use Rattle.editor.specs.declared.drawing.KeyRefusal.{KeyRefusal}
use Rattle.editor.specs.Line.{limit}
use Rattle.keys.specs.declared.standing.Action.{Action}
use Rattle.keys.specs.declared.standing.Action.TheVariants.{Nothing, Enter, Erase, Insert, Up, Down, Right, Left, Home, End, Delete}
use Rattle.keys.specs.declared.meaning.Meaning.{Meaning}
use Rattle.keys.specs.Keys.{doing, meaning, mode_after}
use Rattle.editor.specs.Turns.{State, Turn, dropping, entering, in_mode, enter, erase, insert, up, on_place, down, right, left, go_to, delete, turn_by, turn_of, after_keys}
use Rattle.editor.specs.Answer.{refused, Pressing}
use Rattle.keys.proofs.Ranges.{at_rest}
use Rattle.editor.proofs.KeyTurns.{own_mode, turn_by_lem}

-- no second answer, state or buffer satisfies the contract
module _ (e : Editor) (h : History) (slots prompt : List ℕ) (byte : ℕ) (line screen : List ℕ) (k k' : KeyAnswer) (a b c a' b' c' : List ℕ)
    (p : Pressing e h slots prompt byte line screen k a b c) (q : Pressing e h slots prompt byte line screen k' a' b' c') where
  same_answer : k.answer ≡ k'.answer
  same_answer = p.answer ∙ sym q.answer

  -- what stands either for the state before or for the one after
  chosen : {A : Type 0} (x y : A) → cond (refused k.answer) x y ≡ cond (refused k'.answer) x y
  chosen x y = ap (λ (u : Result Pressed KeyRefusal). cond (refused u) x y) same_answer

  pub one_answer : (k.answer ≡ k'.answer) × (k.editor ≡ k'.editor) × (k.history ≡ k'.history) × (a ≡ a') × (b ≡ b') × (c ≡ c')
  one_answer = (
    same_answer,
    p.editor ∙ chosen _ _ ∙ sym q.editor,
    p.history ∙ chosen _ _ ∙ sym q.history,
    p.held ∙ chosen _ _ ∙ sym q.held,
    p.given ∙ chosen _ _ ∙ sym q.given,
    p.shown ∙ chosen _ _ ∙ sym q.shown,
  )

-- an action leaves the mode and the profile as they are
record Stays (s : State) (t : Turn) : Type 0 where
  mode : t.after.mode ≡ s.mode
  profile : t.after.profile ≡ s.profile

picks : (s : State) (b : Bool) (t u : Turn) → Stays s t → Stays s u → Stays s (cond b t u)
picks s true t u p q = p
picks s false t u p q = q

module _ (prompt : List ℕ) where
  action_stays : (s : State) (a : Action) → Stays s (turn_by prompt s a)
  unfolding enter erase insert up down right left go_to delete
  action_stays s a = by a
    where
      is : (t : Turn) → t.after.mode ≡ s.mode → t.after.profile ≡ s.profile → Stays s t
      is t p q = record { mode = p; profile = q }

      by : (a : Action) → Stays s (turn_by prompt s a)
      by Nothing = is _ refl refl
      by Enter = picks s (eqb (length s.line) 0) _ _ (is _ refl refl) (is _ refl refl)
      by Erase = picks s (eqb s.cursor 0) _ _ (is _ refl refl) (is _ refl refl)
      by (Insert b) = picks s (ltb (length s.line) limit) _ _ (is _ refl refl) (is _ refl refl)
      by Up = picks s (eqb s.history.place 0) _ _ (is _ refl refl) (is _ refl refl)
      by Down = picks s (ltb (on_place s.history) (count s.history)) _ _ (is _ refl refl) (is _ refl refl)
      by Right = picks s (ltb s.cursor (length s.line)) _ _ (is _ refl refl) (is _ refl refl)
      by Left = picks s (eqb s.cursor 0) _ _ (is _ refl refl) (is _ refl refl)
      by Home = picks s (eqb s.cursor 0) _ _ (is _ refl refl) (is _ refl refl)
      by End = picks s (eqb s.cursor (length s.line)) _ _ (is _ refl refl) (is _ refl refl)
      by Delete = picks s (ltb s.cursor (length s.line)) _ _ (is _ refl refl) (is _ refl refl)

  -- a key leads to the mode that its meaning has, and keeps the profile
  pub mode_after_lem : (s : State) (b : ℕ) → (turn_of prompt s b).after.mode ≡ (meaning s.profile s.mode b).mode
  unfolding turn_of
  mode_after_lem s b = let m : Meaning = meaning s.profile s.mode b in (action_stays (in_mode s m.mode) m.action).mode

  pub profile_after : (s : State) (b : ℕ) → (turn_of prompt s b).after.profile ≡ s.profile
  unfolding turn_of
  profile_after s b = let m : Meaning = meaning s.profile s.mode b in (action_stays (in_mode s m.mode) m.action).profile

  -- after keys: what their bytes wait for, whatever else they did
  pub keys_after : (s : State) (keys : List ℕ)
      → ((after_keys prompt s keys).mode ≡ mode_after s.profile s.mode keys) × ((after_keys prompt s keys).profile ≡ s.profile)
  unfolding after_keys mode_after
  keys_after s [] = (refl, refl)
  keys_after s (b ∷ keys) =
      let t : State = (turn_of prompt s b).after in
      let k = keys_after t keys in
      let p = profile_after s b in (
        k.0 ∙ ap (λ (x : Profile). mode_after x t.mode keys) p ∙ ap (λ (x : Mode). mode_after s.profile x keys) (mode_after_lem s b),
        k.1 ∙ p,
      )

  -- Enter on an empty line leaves history and its place, and all else
  pub empty_enter : (s : State) → length s.line ≡ 0 → enter s ≡ entering s []
  unfolding enter
  empty_enter s z = then_is _ _ _ (eq-eqb (length s.line) 0 z)

  -- a byte typed into a full line is dropped: nothing changes, nothing is shown
  pub full_drops : (s : State) (b : ℕ) → s.mode ≡ Typing → limit ≤ length s.line → 0x20 ≤ b → (b ≡ 0x7F → ⊥) → turn_of prompt s b ≡ dropping s
  unfolding insert
  full_drops s b m l h n =
      turn_by_lem prompt s b (doing (Insert b))
      (ap (λ (x : Mode). meaning s.profile x b) m ∙ at_rest b (λ e. omega arith) (λ e. omega arith) (λ e. omega arith) n (λ e. omega arith) h)
      ∙ ap (λ (x : State). insert prompt x b) (own_mode s Typing m)
      ∙ else_is _ _ _ (le-ltb (length s.line) limit l)
