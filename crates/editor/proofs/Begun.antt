-- Where a history begins: a key changes the bytes of one slot at most and drops no entry where there is room; and in two good states that differ in nothing else it answers, shows and submits the same, and leaves two such states.
use Rattle.std.specs.Prelude.{Ok, Err, Result}
use Prim.Native.Nat.{ℕ, ◌<◌}
use mathlib.Core.Path.{◌≡◌, refl, sym, ap, ◌∙◌}
use mathlib.Core.Bool.{Bool, true, false, cond}
use mathlib.Core.List.{List, [], ◌∷◌, ◌++◌}
use native.Mathlib.Omega.{arith}
use lib.Dec.{ltb, eqb}
use lib.ListN.{length}
use Rattle.buffer.specs.Write.{over}
use Rattle.buffer.proofs.Choices.{then_is, else_is}
use Rattle.history.specs.Slots.{slot_after, ChangesOnly}
use Rattle.history.specs.Journal.{Journal, count, offered, Longer, journal_of, slots_of as journal_slots}
use Rattle.history.specs.declared.stepping.History.{History}
use Rattle.history.proofs.Journals.{count_held, same_held, slots_held}
use Rattle.history.proofs.Called.{longer_same, offered_longer}
use Rattle.history.proofs.Begun.{changes_none, offered_changes}
use Rattle.keys.specs.declared.standing.Profile.{Profile}
use Rattle.keys.specs.declared.standing.Mode.{Mode}
use Rattle.keys.specs.declared.standing.Action.{Action}
use Rattle.keys.specs.declared.standing.Action.TheVariants.{Nothing, Enter, Erase, Insert, Up, Down, Right, Left, Home, End, Delete}
use Rattle.keys.specs.declared.meaning.Meaning.{Meaning}
use Rattle.keys.specs.Keys.{meaning}
use Rattle.editor.specs.declared.line.Editor.{Editor}
use Rattle.editor.specs.declared.drawing.KeyAnswer.{KeyAnswer}
use Rattle.editor.specs.declared.drawing.Pressed.{Pressed}
use Rattle.editor.specs.declared.drawing.KeyRefusal.{KeyRefusal}
use Rattle.editor.specs.declared.drawing.Pressed.TheVariants.{Shown, Entered}
use Rattle.editor.specs.declared.drawing.KeyRefusal.TheVariants.{BadPrompt, NoRoom}
use Rattle.editor.specs.Line.{limit, content}
use Rattle.editor.specs.Turns.{State, SameBut, Kind, shows, enters, drops, Turn, in_mode, redrawn, after_enter, entering, enter, erase, insert, up, on_place, down, right, left, go_to, delete, turn_by, turn_of, after_keys, shown_by}
use Rattle.editor.specs.Answer.{state_of, slots_of, good_state, good_prompt, taken, turn_answer, key_answer, refused, Pressing}
use Rattle.editor.proofs.Lines.{content_short}
use Rattle.editor.proofs.States.{good_parts}
use Rattle.editor.proofs.Fine.{Fine, fine_of}
use Rattle.editor.proofs.Called.{same_state, key_good, state_after}

-- two turns that show and submit the same, and lead to two such states
record AlikeTurns (t u : Turn) : Type 0 where
  kind : u.kind ≡ t.kind
  screen : u.screen ≡ t.screen
  submitted : u.submitted ≡ t.submitted
  after : SameBut t.after u.after

picks : (b : Bool) (t t' u u' : Turn) → AlikeTurns t u → AlikeTurns t' u' → AlikeTurns (cond b t t') (cond b u u')
picks true t t' u u' p q = p
picks false t t' u u' p q = q

-- a state whose history begins at another slot
abbrev begun : ℕ → State → State
begun f s =
    record {
      line = s.line;
      cursor = s.cursor;
      mode = s.mode;
      profile = s.profile;
      history = record { entries = s.history.entries; place = s.history.place; first = f };
    }

same : (s t : State) → t.line ≡ s.line → t.cursor ≡ s.cursor → t.mode ≡ s.mode → t.profile ≡ s.profile → t.history.entries ≡ s.history.entries
    → t.history.place ≡ s.history.place → SameBut s t
same s t a b c d e f = record { line = a; cursor = b; mode = c; profile = d; history = record { entries = e; place = f } }

begun_is : (s t : State) → SameBut s t → begun t.history.first s ≡ t
begun_is s t a = parts (sym a.line) (sym a.cursor) (sym a.mode) (sym a.profile) (sym a.history.entries) (sym a.history.place)
  where
    parts : {l l' : List ℕ} {c c' : ℕ} {m m' : Mode} {p p' : Profile} {es es' : List (List ℕ)} {n n' : ℕ} → l ≡ l' → c ≡ c' → m ≡ m' → p ≡ p' → es ≡ es' → n ≡ n'
        → ◌≡◌ {A = State}
        (record { line = l; cursor = c; mode = m; profile = p; history = record { entries = es; place = n; first = t.history.first } })
        (record { line = l'; cursor = c'; mode = m'; profile = p'; history = record { entries = es'; place = n'; first = t.history.first } })
    parts u v w x y z = cc

module _ (prompt : List ℕ) (s : State) (f : ℕ) where
  is : (t u : Turn) → u.kind ≡ t.kind → u.screen ≡ t.screen → u.submitted ≡ t.submitted → SameBut t.after u.after → AlikeTurns t u
  is t u p q r a = record { kind = p; screen = q; submitted = r; after = a }

  action_alike : (a : Action) → AlikeTurns (turn_by prompt s a) (turn_by prompt (begun f s) a)
  unfolding enter erase insert up down right left go_to delete redrawn on_place
  action_alike Nothing = is _ _ refl refl refl (same _ _ refl refl refl refl refl refl)
  action_alike Enter =
      picks (eqb (length s.line) 0) _ _ _ _ (is _ _ refl refl refl (same _ _ refl refl refl refl refl refl)) (is _ _ refl refl refl (same _ _ refl refl refl refl refl refl))
  action_alike Erase =
      picks (eqb s.cursor 0) _ _ _ _ (is _ _ refl refl refl (same _ _ refl refl refl refl refl refl)) (is _ _ refl refl refl (same _ _ refl refl refl refl refl refl))
  action_alike (Insert b) =
      picks (ltb (length s.line) limit) _ _ _ _ (is _ _ refl refl refl (same _ _ refl refl refl refl refl refl)) (is _ _ refl refl refl (same _ _ refl refl refl refl refl refl))
  action_alike Up =
      picks (eqb s.history.place 0) _ _ _ _ (is _ _ refl refl refl (same _ _ refl refl refl refl refl refl)) (is _ _ refl refl refl (same _ _ refl refl refl refl refl refl))
  action_alike Down =
      picks (ltb (on_place s.history) (count s.history)) _ _ _ _
      (is _ _ refl refl refl (same _ _ refl refl refl refl refl refl)) (is _ _ refl refl refl (same _ _ refl refl refl refl refl refl))
  action_alike Right =
      picks (ltb s.cursor (length s.line)) _ _ _ _ (is _ _ refl refl refl (same _ _ refl refl refl refl refl refl)) (is _ _ refl refl refl (same _ _ refl refl refl refl refl refl))
  action_alike Left =
      picks (eqb s.cursor 0) _ _ _ _ (is _ _ refl refl refl (same _ _ refl refl refl refl refl refl)) (is _ _ refl refl refl (same _ _ refl refl refl refl refl refl))
  action_alike Home =
      picks (eqb s.cursor 0) _ _ _ _ (is _ _ refl refl refl (same _ _ refl refl refl refl refl refl)) (is _ _ refl refl refl (same _ _ refl refl refl refl refl refl))
  action_alike End =
      picks (eqb s.cursor (length s.line)) _ _ _ _ (is _ _ refl refl refl (same _ _ refl refl refl refl refl refl)) (is _ _ refl refl refl (same _ _ refl refl refl refl refl refl))
  action_alike Delete =
      picks (ltb s.cursor (length s.line)) _ _ _ _ (is _ _ refl refl refl (same _ _ refl refl refl refl refl refl)) (is _ _ refl refl refl (same _ _ refl refl refl refl refl refl))

turn_begun : (prompt : List ℕ) (s : State) (f byte : ℕ) → AlikeTurns (turn_of prompt s byte) (turn_of prompt (begun f s) byte)
unfolding turn_of
turn_begun prompt s f byte = let m : Meaning = meaning s.profile s.mode byte in action_alike prompt (in_mode s m.mode) f m.action

-- one key in two such states
turn_alike : (prompt : List ℕ) (s t : State) (byte : ℕ) → SameBut s t → AlikeTurns (turn_of prompt s byte) (turn_of prompt t byte)
turn_alike prompt s t byte a = let k = turn_begun prompt s t.history.first byte in rw (begun_is s t a) at k

-- and keys
pub keys_alike : (prompt : List ℕ) (s t : State) (keys : List ℕ) → SameBut s t
    → (shown_by prompt t keys ≡ shown_by prompt s keys) × SameBut (after_keys prompt s keys) (after_keys prompt t keys)
unfolding shown_by after_keys
keys_alike prompt s t [] a = (refl, a)
keys_alike prompt s t (byte ∷ keys) a =
    let k = turn_alike prompt s t byte a in
    let l = keys_alike prompt (turn_of prompt s byte).after (turn_of prompt t byte).after keys k.after in
    (joined k.screen l.0, l.1)
  where
    joined : {x y u v : List ℕ} → x ≡ y → u ≡ v → x ++ u ≡ y ++ v
    joined p q = cc

-- what an action makes of the history: the same entries in the same slots, or those after the line's content was offered
data Became (line : List ℕ) (j k : Journal) : Type 0 where
  the_same : k.entries ≡ j.entries → k.first ≡ j.first → Became line j k
  with_line_lem : k ≡ offered (content line) j → Became line j k

Makes : State → Turn → Type 0
Makes s t = Became s.line s.history t.after.history

chosen : (s : State) (b : Bool) (t u : Turn) → Makes s t → Makes s u → Makes s (cond b t u)
chosen s true t u p q = p
chosen s false t u p q = q

module _ (prompt : List ℕ) (s : State) where
  stays : (t : Turn) → t.after.history.entries ≡ s.history.entries → t.after.history.first ≡ s.history.first → Makes s t
  unfolding Makes
  stays t e f = the_same e f

  entered : Makes s (entering (after_enter s) s.line)
  unfolding Makes
  entered = with_line_lem refl

  action_makes : (a : Action) → Makes s (turn_by prompt s a)
  unfolding enter erase insert up down right left go_to delete
  action_makes Nothing = stays _ refl refl
  action_makes Enter = chosen s (eqb (length s.line) 0) _ _ (stays _ refl refl) entered
  action_makes Erase = chosen s (eqb s.cursor 0) _ _ (stays _ refl refl) (stays _ refl refl)
  action_makes (Insert b) = chosen s (ltb (length s.line) limit) _ _ (stays _ refl refl) (stays _ refl refl)
  action_makes Up = chosen s (eqb s.history.place 0) _ _ (stays _ refl refl) (stays _ refl refl)
  action_makes Down = chosen s (ltb (on_place s.history) (count s.history)) _ _ (stays _ refl refl) (stays _ refl refl)
  action_makes Right = chosen s (ltb s.cursor (length s.line)) _ _ (stays _ refl refl) (stays _ refl refl)
  action_makes Left = chosen s (eqb s.cursor 0) _ _ (stays _ refl refl) (stays _ refl refl)
  action_makes Home = chosen s (eqb s.cursor 0) _ _ (stays _ refl refl) (stays _ refl refl)
  action_makes End = chosen s (eqb s.cursor (length s.line)) _ _ (stays _ refl refl) (stays _ refl refl)
  action_makes Delete = chosen s (ltb s.cursor (length s.line)) _ _ (stays _ refl refl) (stays _ refl refl)

turn_makes : (prompt : List ℕ) (s : State) (byte : ℕ) → Became s.line s.history (turn_of prompt s byte).after.history
unfolding turn_of Makes
turn_makes prompt s byte =
    let m : Meaning = meaning s.profile s.mode byte in action_makes prompt (in_mode s m.mode) m.action

-- so a turn writes one slot at most, and where there is room it drops no entry
turn_writes : (prompt : List ℕ) (s : State) (byte : ℕ) → Fine s
    → ChangesOnly (slot_after s.history.first (count s.history)) (slots_of s) (slots_of (turn_of prompt s byte).after)
unfolding journal_slots
turn_writes prompt s byte f = by (turn_of prompt s byte).after.history (turn_makes prompt s byte)
  where
    same_slots : (j k : Journal) → k.entries ≡ j.entries → k.first ≡ j.first → journal_slots k ≡ journal_slots j
    same_slots j k e d = cc

    by : (k : Journal) → Became s.line s.history k → ChangesOnly (slot_after s.history.first (count s.history)) (journal_slots s.history) (journal_slots k)
    by k (the_same e d) = changes_none _ _ _ (same_slots s.history k e d)
    by k (with_line_lem e) =
        rw e (offered_changes (content s.line) s.history f.fair (let a = content_short s.line in let b = f.short in omega arith))

turn_longer : (prompt : List ℕ) (s : State) (byte : ℕ) → count s.history < 100 → Longer s.history (turn_of prompt s byte).after.history
turn_longer prompt s byte room = by (turn_of prompt s byte).after.history (turn_makes prompt s byte)
  where
    by : (k : Journal) → Became s.line s.history k → Longer s.history k
    by k (the_same e f) = longer_same s.history k e f
    by k (with_line_lem e) = rw e (offered_longer (content s.line) s.history room)

-- one key, as it is called, whatever the answer: no byte but those of the slot after the newest entry changes, and where there is room no entry is dropped
module _ (e : Editor) (h : History) (slots prompt : List ℕ) (byte : ℕ) (line screen : List ℕ) (k : KeyAnswer) (slots' line' screen' : List ℕ)
    (p : Pressing e h slots prompt byte line screen k slots' line' screen') where
  pub key_changes : ChangesOnly (slot_after h.first h.count) slots slots'
  unfolding state_of journal_of
  key_changes = by (refused k.answer) refl
    where
      s : State
      s = state_of e h slots

      by : (r : Bool) → refused k.answer ≡ r → ChangesOnly (slot_after h.first h.count) slots slots'
      by true t = changes_none _ slots slots' (p.held ∙ then_is _ _ _ t)
      by false t =
          let g = key_good e h slots prompt byte line screen k slots' line' screen' p t in
          let c = turn_writes prompt s byte (fine_of e h slots g) in
          let same : slot_after h.first (count s.history) ≡ slot_after h.first h.count = ap (slot_after h.first) (count_held h slots) in
          let left : slots_of (turn_of prompt s byte).after ≡ slots' = sym (p.held ∙ else_is _ _ _ t) in
          rw (same, slots_held h slots (good_parts e h slots g).1, left) at c

  pub key_longer : h.count < 100 → Longer (journal_of h slots) (journal_of k.history slots')
  unfolding state_of
  key_longer room = by (refused k.answer) refl
    where
      by : (r : Bool) → refused k.answer ≡ r → Longer (journal_of h slots) (journal_of k.history slots')
      by true t =
          let e = same_held (p.history ∙ then_is _ _ _ t) (p.held ∙ then_is _ _ _ t) in
          rw e (longer_same (journal_of h slots) (journal_of h slots) refl refl)
      by false t =
          let g = key_good e h slots prompt byte line screen k slots' line' screen' p t in
          let after = ap (λ (s : State). s.history) (state_after e h slots prompt byte line screen k slots' line' screen' p t g) in
          rw after (turn_longer prompt (state_of e h slots) byte (let n = count_held h slots in omega arith))

-- and in two good states that differ in where their history begins and in nothing else
taken_alike : (t u : Turn) (c : Kind) → u.screen ≡ t.screen → u.submitted ≡ t.submitted → taken u c ≡ taken t c
taken_alike t u shows q r = ap (λ (x : List ℕ). Ok (Shown (length x))) q
taken_alike t u enters q r = ap (λ (x : List ℕ). Ok (Entered (length x))) r
taken_alike t u drops q r = refl

answer_alike : (prompt : List ℕ) (t u : Turn) (line screen : ℕ) → u.kind ≡ t.kind → u.screen ≡ t.screen → u.submitted ≡ t.submitted
    → key_answer true prompt u line screen ≡ key_answer true prompt t line screen
unfolding key_answer turn_answer
answer_alike prompt t u line screen p q r = by q (ap (taken u) p ∙ taken_alike t u t.kind q r)
  where
    by : {a b : List ℕ} {x y : Result Pressed KeyRefusal} → a ≡ b → x ≡ y
        → cond (good_prompt prompt) (cond (ltb line limit) (Err (NoRoom limit)) (cond (ltb screen (length a)) (Err (NoRoom (length a))) x)) (Err (BadPrompt (length prompt)))
        ≡ cond (good_prompt prompt) (cond (ltb line limit) (Err (NoRoom limit)) (cond (ltb screen (length b)) (Err (NoRoom (length b))) y)) (Err (BadPrompt (length prompt)))
    by v w = cc

module _ (e : Editor) (h : History) (slots : List ℕ) (e₂ : Editor) (h₂ : History) (slots₂ : List ℕ)
    (g : good_state e h slots ≡ true) (g₂ : good_state e₂ h₂ slots₂ ≡ true) (a : SameBut (state_of e h slots) (state_of e₂ h₂ slots₂))
    (prompt : List ℕ) (byte : ℕ) (line screen : List ℕ) (k k₂ : KeyAnswer) (slots' slots₂' line' line₂' screen' screen₂' : List ℕ)
    (p : Pressing e h slots prompt byte line screen k slots' line' screen') (q : Pressing e₂ h₂ slots₂ prompt byte line screen k₂ slots₂' line₂' screen₂') where
  t : Turn
  t = turn_of prompt (state_of e h slots) byte

  u : Turn
  u = turn_of prompt (state_of e₂ h₂ slots₂) byte

  alike : AlikeTurns t u
  unfolding t u
  alike = turn_alike prompt (state_of e h slots) (state_of e₂ h₂ slots₂) byte a

  pub same_answer : k₂.answer ≡ k.answer
  unfolding t u
  same_answer =
      q.answer
      ∙ ap (λ (b : Bool). key_answer b prompt u (length line) (length screen)) g₂
      ∙ answer_alike prompt t u (length line) (length screen) alike.kind alike.screen alike.submitted
      ∙ sym (p.answer ∙ ap (λ (b : Bool). key_answer b prompt t (length line) (length screen)) g)

  -- the bytes of a buffer that is kept or written over
  kept : (x y buffer : List ℕ) → x ≡ y → cond (refused k₂.answer) buffer (over x buffer) ≡ cond (refused k.answer) buffer (over y buffer)
  kept x y buffer z = both same_answer z
    where
      both : {c d : Result Pressed KeyRefusal} → c ≡ d → x ≡ y → cond (refused c) buffer (over x buffer) ≡ cond (refused d) buffer (over y buffer)
      both v w = cc

  pub same_given : line₂' ≡ line'
  unfolding t u
  same_given = q.given ∙ kept u.submitted t.submitted line alike.submitted ∙ sym p.given

  pub same_shown : screen₂' ≡ screen'
  unfolding t u
  same_shown = q.shown ∙ kept u.screen t.screen screen alike.screen ∙ sym p.shown

  pub alike_after : SameBut (state_of k.editor k.history slots') (state_of k₂.editor k₂.history slots₂')
  unfolding t u
  alike_after = by (refused k.answer) refl
    where
      by : (r : Bool) → refused k.answer ≡ r → SameBut (state_of k.editor k.history slots') (state_of k₂.editor k₂.history slots₂')
      by true z =
          let z₂ = ap refused same_answer ∙ z in
          let one = same_state (p.editor ∙ then_is _ _ _ z) (p.history ∙ then_is _ _ _ z) (p.held ∙ then_is _ _ _ z) in
          let two = same_state (q.editor ∙ then_is _ _ _ z₂) (q.history ∙ then_is _ _ _ z₂) (q.held ∙ then_is _ _ _ z₂) in
          rw (one, two) a
      by false z =
          let one = state_after e h slots prompt byte line screen k slots' line' screen' p z g in
          let two = state_after e₂ h₂ slots₂ prompt byte line screen k₂ slots₂' line₂' screen₂' q (ap refused same_answer ∙ z) g₂ in
          rw (one, two) alike.after
