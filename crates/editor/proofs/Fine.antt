-- No key leads from a good state to a bad one, so no sequence of keys from the fresh state reaches one.
use Prim.Native.Nat.{ℕ, ◌+◌, ◌-◌, ◌<◌, ◌≤◌}
use mathlib.Core.Path.{◌≡◌, refl, ◌∙◌}
use mathlib.Core.Bool.{Bool, true, false, cond}
use mathlib.Core.List.{List, [], ◌∷◌, ◌++◌}
use native.Mathlib.Omega.{arith}
use lib.Dec.{eqb, ltb}
use lib.ListN.{length}
use borrow.Author.Tests.{eq-eqb, ltb-true, eqb-false}
use Rattle.text.proofs.Prefix.{prefix_none, codes_none}
use Rattle.text.specs.Decoding.{well_formed}
use Rattle.history.specs.Journal.{Journal, count, offered, at_place}
use Rattle.history.specs.declared.stepping.History.{History}
use Rattle.history.proofs.Journals.{Fair, good_fair, fair_good, fair_none, fair_offered, fair_placed, fair_short}
use Rattle.keys.specs.declared.standing.Profile.{Profile}
use Rattle.keys.specs.declared.standing.Mode.{Mode}
use Rattle.keys.specs.declared.standing.Mode.TheVariants.{Typing}
use Rattle.editor.specs.declared.line.Editor.{Editor}
use Rattle.editor.specs.declared.drawing.KeyAnswer.{KeyAnswer}
use Rattle.editor.specs.Line.{limit, holding, fresh_editor, good_line, good_editor, inserted, erased, content}
use Rattle.keys.specs.declared.standing.Action.{Action}
use Rattle.keys.specs.declared.standing.Action.TheVariants.{Nothing, Enter, Erase, Insert, Up, Down, Right, Left, Home, End, Delete}
use Rattle.keys.specs.declared.meaning.Meaning.{Meaning}
use Rattle.keys.specs.Modes.{good_mode}
use Rattle.keys.specs.Keys.{meaning}
use Rattle.keys.proofs.Awaiting.{mode_kept}
use Rattle.editor.specs.Turns.{State, Turn, changed, in_mode, cleared, recalled, enter, after_enter, erase, insert, up, on_place, down, right, left, go_to, delete, turn_by, turn_of, fresh_state, after_keys}
use Rattle.editor.specs.Answer.{state_of, editor_of, history_of, slots_of, good_state, refused, Pressing}
use Rattle.editor.proofs.Lines.{good_line_lem, length_of_lem, length_inserted, length_erased, content_short, below_limit}
use Rattle.editor.proofs.States.{good_parts, good_mode_lem, good_editor_lem, good_state_lem, held_good}

-- a state within the rules of the standard
pub record Fine (s : State) : Type 0 where
  pub short : length s.line ≤ 255
  pub within : s.cursor ≤ length s.line
  pub led : good_mode s.profile s.mode ≡ true
  pub fair : Fair s.history

-- a good state is one, and what holds one is good
pub fine_of : (e : Editor) (h : History) (slots : List ℕ) → good_state e h slots ≡ true → Fine (state_of e h slots)
unfolding state_of
fine_of e h slots g =
    let l = good_line_lem e (good_parts e h slots g).0 in
    let n = (length_of_lem e l).1 in
    let a = l.short in
    let b = l.within in
    record { short = omega arith; within = omega arith; led = good_mode_lem e h slots g; fair = good_fair h slots (good_parts e h slots g).1 }

pub fresh_good : (profile : Profile) → good_editor (fresh_editor profile) ≡ true
unfolding holding
fresh_good profile = good_editor_lem (fresh_editor profile) refl (held_good [] 0 Typing profile (omega arith) (omega arith))

held_led : (s : State) → good_mode s.profile s.mode ≡ true → good_mode (editor_of s).profile (editor_of s).mode ≡ true
unfolding editor_of holding
held_led s m = m

held_line : (s : State) → Fine s → good_line (editor_of s) ≡ true
unfolding editor_of
held_line s f = held_good s.line s.cursor s.mode s.profile f.short f.within

pub fine_good : (s : State) → Fine s → good_state (editor_of s) (history_of s) (slots_of s) ≡ true
fine_good s f = good_state_lem (editor_of s) (history_of s) (slots_of s) (good_editor_lem (editor_of s) (held_led s f.led) (held_line s f)) (fair_good s.history f.fair)

-- each action keeps to the rules
Leads : Turn → Type 0
Leads t = Fine t.after

picks : (b : Bool) (t u : Turn) → (b ≡ true → Leads t) → (b ≡ false → Leads u) → Leads (cond b t u)
picks true t u p q = p refl
picks false t u p q = q refl

pub formed_nothing : well_formed [] ≡ true
unfolding well_formed
formed_nothing = eq-eqb _ 0 (prefix_none [] codes_none)

pub content_formed : (l : List ℕ) → well_formed (content l) ≡ true
unfolding content
content_formed l = by (well_formed l) refl
  where
    by : (t : Bool) → well_formed l ≡ t → well_formed (cond t l []) ≡ true
    by true q = q
    by false q = formed_nothing

module _ (prompt : List ℕ) (s : State) (f : Fine s) where
  -- a state in another mode
  other_mode : (m : Mode) → good_mode s.profile m ≡ true → Fine (in_mode s m)
  other_mode m g = record { short = f.short; within = f.within; led = g; fair = f.fair }

  -- another line, and another place
  line_fine : (line : List ℕ) (cursor : ℕ) (j : Journal) → length line ≤ 255 → cursor ≤ length line → Fair j → Fine (changed s line cursor j)
  line_fine line cursor j a b c = record { short = a; within = b; led = f.led; fair = c }

  entered : Fine (after_enter s)
  entered =
      line_fine [] 0 (offered (content s.line) s.history) (omega arith) (omega arith)
      (fair_offered (content s.line) s.history f.fair (let a = content_short s.line in let b = f.short in omega arith) (content_formed s.line))

  -- an entry recalled, and the line cleared
  recall_fine : (place : ℕ) → place ≤ count s.history → Fine (recalled s place)
  recall_fine place h = line_fine _ _ (at_place s.history place) (fair_short s.history place f.fair) (omega arith) (fair_placed s.history place f.fair h)

  clear_fine : (place : ℕ) → place ≤ count s.history → Fine (cleared s (at_place s.history place))
  clear_fine place h = line_fine [] 0 (at_place s.history place) (omega arith) (omega arith) (fair_placed s.history place f.fair h)

  on_place_lem : on_place s.history ≤ count s.history
  unfolding on_place
  on_place_lem = by (ltb s.history.place (count s.history)) refl
    where
      by : (t : Bool) → ltb s.history.place (count s.history) ≡ t → cond t (s.history.place + 1) s.history.place ≤ count s.history
      by true q = let h = ltb-true s.history.place (count s.history) q in omega arith
      by false q = f.fair.placed

  action_fine : (a : Action) → Leads (turn_by prompt s a)
  unfolding enter erase insert up down right left go_to delete Leads
  action_fine Nothing = f
  action_fine Enter = picks (eqb (length s.line) 0) _ _ (λ q. f) (λ q. entered)
  action_fine Erase =
      picks (eqb s.cursor 0) _ _ (λ q. f)
      (λ q.
      let z = eqb-false s.cursor 0 q in
      let w = f.within in
      let a = f.short in
      let some : 0 < s.cursor = omega arith in
      let n = length_erased s.line s.cursor some w in
      line_fine (erased s.line s.cursor) (s.cursor - 1) s.history (omega arith) (omega arith) f.fair)
  action_fine (Insert b) =
      picks (ltb (length s.line) limit) _ _
      (λ q.
      let l = below_limit (length s.line) (ltb-true (length s.line) limit q) in
      let w = f.within in
      let n = length_inserted s.line s.cursor b w in
      line_fine (inserted s.line s.cursor b) (s.cursor + 1) s.history (omega arith) (omega arith) f.fair)
      (λ q. f)
  action_fine Up = picks (eqb s.history.place 0) _ _ (λ q. f) (λ q. recall_fine (s.history.place - 1) (let p = f.fair.placed in omega arith))
  action_fine Down =
      picks (ltb (on_place s.history) (count s.history)) _ _ (λ q. recall_fine (on_place s.history) on_place_lem) (λ q. clear_fine (on_place s.history) on_place_lem)
  action_fine Right =
      picks (ltb s.cursor (length s.line)) _ _
      (λ q. let h = ltb-true s.cursor (length s.line) q in line_fine s.line (s.cursor + 1) s.history f.short (omega arith) f.fair) (λ q. f)
  action_fine Left =
      picks (eqb s.cursor 0) _ _ (λ q. f)
      (λ q. let w = f.within in line_fine s.line (s.cursor - 1) s.history f.short (omega arith) f.fair)
  action_fine Home = picks (eqb s.cursor 0) _ _ (λ q. f) (λ q. line_fine s.line 0 s.history f.short (omega arith) f.fair)
  action_fine End =
      picks (eqb s.cursor (length s.line)) _ _ (λ q. f) (λ q. line_fine s.line (length s.line) s.history f.short (omega arith) f.fair)
  action_fine Delete =
      picks (ltb s.cursor (length s.line)) _ _
      (λ q.
      let h = ltb-true s.cursor (length s.line) q in
      let a = f.short in
      let n = length_erased s.line (s.cursor + 1) (omega arith) (omega arith) in
      line_fine (erased s.line (s.cursor + 1)) s.cursor s.history (omega arith) (omega arith) f.fair)
      (λ q. f)

pub turn_fine : (prompt : List ℕ) (s : State) (b : ℕ) → Fine s → Fine (turn_of prompt s b).after
unfolding turn_of Leads
turn_fine prompt s b f =
    let m : Meaning = meaning s.profile s.mode b in
    action_fine prompt (in_mode s m.mode) (other_mode prompt s f m.mode (mode_kept s.profile s.mode b f.led)) m.action

same_good : {e e' : Editor} {h h' : History} {slots slots' : List ℕ} → e ≡ e' → h ≡ h' → slots ≡ slots' → good_state e h slots ≡ good_state e' h' slots'
same_good p q r = cc

-- a key that is pressed in a good state leaves a good state
pub stays_good : (e : Editor) (h : History) (slots prompt : List ℕ) (byte : ℕ) (line screen : List ℕ) (k : KeyAnswer) (slots' line' screen' : List ℕ)
    → good_state e h slots ≡ true → Pressing e h slots prompt byte line screen k slots' line' screen' → good_state k.editor k.history slots' ≡ true
stays_good e h slots prompt byte line screen k slots' line' screen' g p =
    same_good p.editor p.history p.held
    ∙ by (refused k.answer)
  where
    t : Turn
    t = turn_of prompt (state_of e h slots) byte

    by : (r : Bool) → good_state (cond r e (editor_of t.after)) (cond r h (history_of t.after)) (cond r slots (slots_of t.after)) ≡ true
    by true = g
    by false = fine_good t.after (turn_fine prompt (state_of e h slots) byte (fine_of e h slots g))

-- from the fresh state on
pub fresh_fine : (profile : Profile) → Fine (fresh_state profile)
fresh_fine profile = record { short = omega arith; within = omega arith; led = refl; fair = fair_none }

keys_fine : (prompt : List ℕ) (s : State) (keys : List ℕ) → Fine s → Fine (after_keys prompt s keys)
unfolding after_keys
keys_fine prompt s [] f = f
keys_fine prompt s (b ∷ keys) f = keys_fine prompt (turn_of prompt s b).after keys (turn_fine prompt s b f)

-- no sequence of keys reaches a bad state
pub never_bad : (profile : Profile) (prompt keys : List ℕ)
    → let s : State = after_keys prompt (fresh_state profile) keys in good_state (editor_of s) (history_of s) (slots_of s) ≡ true
never_bad profile prompt keys = fine_good (after_keys prompt (fresh_state profile) keys) (keys_fine prompt (fresh_state profile) keys (fresh_fine profile))

-- a key after keys is pressed in the state that they left: a session is the fold of its keys
pub keys_then : (prompt : List ℕ) (s : State) (keys : List ℕ) (b : ℕ) → after_keys prompt s (keys ++ (b ∷ [])) ≡ (turn_of prompt (after_keys prompt s keys) b).after
unfolding after_keys
keys_then prompt s [] b = refl
keys_then prompt s (k ∷ keys) b = keys_then prompt (turn_of prompt s k).after keys b
