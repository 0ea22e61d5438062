-- What holds of keys as they are called: so many of a profile bring typing back, a full line drops a byte, the values count the bytes shown and submitted, and what is held after a key is the turn's state.
use Rattle.std.specs.Prelude.{Ok, Err, Result}
use Prim.Native.Nat.{ℕ, zero, suc, ◌-◌, ◌≤◌}
use mathlib.Core.Path.{◌≡◌, refl, sym, ap, ◌∙◌}
use mathlib.Core.Bool.{Bool, true, false, cond}
use mathlib.Core.List.{List}
use native.Mathlib.Omega.{arith}
use lib.Dec.{eqb, ltb}
use lib.ListN.{length}
use borrow.Author.Tests.{le-ltb}
use Rattle.buffer.specs.Write.{over}
use Rattle.buffer.proofs.Choices.{then_is, else_is, true_is_not_false}
use Rattle.history.specs.Journal.{Journal, count}
use Rattle.history.specs.declared.stepping.History.{History}
use Rattle.history.proofs.Journals.{fair_held}
use Rattle.keys.specs.declared.standing.Profile.{Profile}
use Rattle.keys.specs.declared.standing.Profile.TheVariants.{Rust, Ecma48}
use Rattle.keys.specs.declared.standing.Mode.{Mode}
use Rattle.keys.specs.declared.standing.Mode.TheVariants.{Typing}
use Rattle.editor.specs.declared.line.Editor.{Editor}
use Rattle.editor.specs.declared.drawing.KeyAnswer.{KeyAnswer}
use Rattle.editor.specs.declared.drawing.Pressed.{Pressed}
use Rattle.editor.specs.declared.drawing.KeyRefusal.{KeyRefusal}
use Rattle.editor.specs.declared.drawing.Pressed.TheVariants.{Dropped}
use Rattle.editor.specs.declared.drawing.KeyRefusal.TheVariants.{BadState, BadPrompt, NoRoom}
use Rattle.editor.specs.Line.{limit, holding}
use Rattle.keys.specs.declared.standing.Action.{Action}
use Rattle.keys.specs.declared.standing.Action.TheVariants.{Nothing, Enter, Erase, Insert, Up, Down, Right, Left, Home, End, Delete}
use Rattle.keys.specs.declared.meaning.Meaning.{Meaning}
use Rattle.keys.specs.Modes.{patience}
use Rattle.keys.specs.Keys.{meaning}
use Rattle.keys.proofs.Awaiting.{remaining, nearer, left_most, none_left}
use Rattle.editor.specs.Turns.{State, Turn, dropping, in_mode, enter, erase, insert, up, on_place, down, right, left, go_to, delete, turn_by, turn_of}
use Rattle.editor.specs.Answer.{state_of, editor_of, history_of, slots_of, good_state, good_prompt, taken, turn_answer, key_answer, refused, Pressing, value, beside}
use Rattle.editor.proofs.Lines.{line_held, good_line_lem, length_of_lem}
use Rattle.editor.proofs.States.{good_parts, good_mode_lem, holds_history, holds_editor, holds_slots, over_nothing}
use Rattle.editor.proofs.Always.{mode_after_lem, profile_after, full_drops}
use Rattle.editor.proofs.Fine.{Fine, fine_of, turn_fine}

-- the state that the parts of a state within the rules hold is that state
pub held_state : (s : State) → Fine s → state_of (editor_of s) (history_of s) (slots_of s) ≡ s
unfolding state_of editor_of holding
held_state s f = parts (line_held s.line s.cursor s.mode s.profile) (fair_held s.history f.fair)
  where
    parts : {l m : List ℕ} {j k : Journal} → l ≡ m → j ≡ k
        → ◌≡◌ {A = State} (record { line = l; cursor = s.cursor; mode = s.mode; profile = s.profile; history = j }) (record { line = m; cursor = s.cursor; mode = s.mode; profile = s.profile; history = k })
    parts p q = cc

same_good : {e e' : Editor} {h h' : History} {slots slots' : List ℕ} → e ≡ e' → h ≡ h' → slots ≡ slots' → good_state e h slots ≡ good_state e' h' slots'
same_good p q r = cc

pub same_state : {e e' : Editor} {h h' : History} {slots slots' : List ℕ} → e ≡ e' → h ≡ h' → slots ≡ slots' → state_of e h slots ≡ state_of e' h' slots'
same_state p q r = cc

-- what is not refused is taken
taken_if : (is : Bool) (prompt : List ℕ) (t : Turn) (line screen : ℕ) → refused (key_answer is prompt t line screen) ≡ false → key_answer is prompt t line screen ≡ taken t t.kind
unfolding key_answer turn_answer
taken_if is prompt t line screen = by is (good_prompt prompt) (ltb line limit) (ltb screen (length t.screen))
  where
    answer : Bool → Bool → Bool → Bool → Result Pressed KeyRefusal
    answer a b c d = cond a (cond b (cond c (Err (NoRoom limit)) (cond d (Err (NoRoom (length t.screen))) (taken t t.kind))) (Err (BadPrompt (length prompt)))) (Err BadState)

    by : (a b c d : Bool) → refused (answer a b c d) ≡ false → answer a b c d ≡ taken t t.kind
    by true true false false q = refl
    by true true false true q = absurd (true_is_not_false q)
    by true true true d q = absurd (true_is_not_false q)
    by true false c d q = absurd (true_is_not_false q)
    by false b c d q = absurd (true_is_not_false q)

-- one key, as it is called
module _ (e : Editor) (h : History) (slots prompt : List ℕ) (byte : ℕ) (line screen : List ℕ) (k : KeyAnswer) (slots' line' screen' : List ℕ)
    (p : Pressing e h slots prompt byte line screen k slots' line' screen') where
  turn : Turn
  turn = turn_of prompt (state_of e h slots) byte

  module _ (is : refused k.answer ≡ false) where
    after_is : k.editor ≡ editor_of turn.after
    unfolding turn
    after_is = p.editor ∙ else_is _ _ _ is

    pub key_mode : k.editor.mode ≡ (meaning e.profile e.mode byte).mode
    unfolding turn state_of editor_of holding
    key_mode = ap (λ (x : Editor). x.mode) after_is ∙ mode_after_lem prompt (state_of e h slots) byte

    pub key_profile : k.editor.profile ≡ e.profile
    unfolding turn state_of editor_of holding
    key_profile = ap (λ (x : Editor). x.profile) after_is ∙ profile_after prompt (state_of e h slots) byte

    -- only a good state takes a key
    pub key_good : good_state e h slots ≡ true
    unfolding key_answer
    key_good = by (good_state e h slots) (sym (ap refused p.answer) ∙ is)
      where
        by : (g : Bool) → refused (key_answer g prompt (turn_of prompt (state_of e h slots) byte) (length line) (length screen)) ≡ false → g ≡ true
        by true q = refl
        by false q = absurd (true_is_not_false q)

    pub key_taken : k.answer ≡ taken (turn_of prompt (state_of e h slots) byte) (turn_of prompt (state_of e h slots) byte).kind
    key_taken = p.answer ∙ taken_if _ prompt _ (length line) (length screen) (sym (ap refused p.answer) ∙ is)

    pub state_after : good_state e h slots ≡ true → state_of k.editor k.history slots' ≡ (turn_of prompt (state_of e h slots) byte).after
    state_after g =
        same_state (p.editor ∙ else_is _ _ _ is) (p.history ∙ else_is _ _ _ is) (p.held ∙ else_is _ _ _ is)
        ∙ held_state (turn_of prompt (state_of e h slots) byte).after (turn_fine prompt (state_of e h slots) byte (fine_of e h slots g))

  -- no key changes the profile, taken or refused
  pub profile_kept : k.editor.profile ≡ e.profile
  profile_kept = by (refused k.answer) refl
    where
      by : (r : Bool) → refused k.answer ≡ r → k.editor.profile ≡ e.profile
      by true t = ap (λ (x : Editor). x.profile) (p.editor ∙ then_is _ _ _ t)
      by false t = key_profile t

  -- a byte typed into a full line is answered dropped, and nothing changes: not the state, not a byte of any buffer
  module _ (g : good_state e h slots ≡ true) (fair : good_prompt prompt ≡ true) (room : limit ≤ length line)
      (typing : e.mode ≡ Typing) (full : limit ≤ e.length) (shown : 0x20 ≤ byte) (not-del : byte ≡ 0x7F → ⊥) where
    nothing_done : turn ≡ dropping (state_of e h slots)
    unfolding turn state_of
    nothing_done =
        let n = (length_of_lem e (good_line_lem e (good_parts e h slots g).0)).1 in
        full_drops prompt (state_of e h slots) byte typing (rw n full) shown not-del

    pub dropped : (k.answer ≡ Ok Dropped) × (k.editor ≡ e) × (k.history ≡ h) × (slots' ≡ slots) × (line' ≡ line) × (screen' ≡ screen)
    unfolding turn key_answer turn_answer
    dropped =
        let good = good_parts e h slots g in (
          p.answer
              ∙ ap (λ (t : Turn). key_answer (good_state e h slots) prompt t (length line) (length screen)) nothing_done
              ∙ then_is _ _ _ g ∙ then_is _ _ _ fair ∙ else_is _ _ _ (le-ltb (length line) limit room) ∙ else_is _ _ _ (le-ltb (length screen) 0 (omega arith)),
          p.editor ∙ stays (refused k.answer) e _ (ap (λ (t : Turn). editor_of t.after) nothing_done ∙ holds_editor e h slots good.0),
          p.history ∙ stays (refused k.answer) h _ (ap (λ (t : Turn). history_of t.after) nothing_done ∙ holds_history e h slots good.1),
          p.held ∙ stays (refused k.answer) slots _ (ap (λ (t : Turn). slots_of t.after) nothing_done ∙ holds_slots e h slots good.1),
          p.given ∙ stays (refused k.answer) line _ (ap (λ (t : Turn). over t.submitted line) nothing_done ∙ over_nothing line),
          p.shown ∙ stays (refused k.answer) screen _ (ap (λ (t : Turn). over t.screen screen) nothing_done ∙ over_nothing screen),
        )
      where
        stays : {A : Type 0} (r : Bool) (x y : A) → y ≡ x → cond r x y ≡ x
        stays true x y q = refl
        stays false x y q = q

-- the value of a key that is taken is the number of bytes that it shows, and the second value the length of the line that it submits
Counts : Turn → Type 0
Counts t = (value (taken t t.kind) ≡ length t.screen) × (beside (taken t t.kind) ≡ length t.submitted)

either : (b : Bool) (t u : Turn) → Counts t → Counts u → Counts (cond b t u)
either true t u p q = p
either false t u p q = q

module _ (prompt : List ℕ) where
  action_counts : (s : State) (a : Action) → Counts (turn_by prompt s a)
  unfolding enter erase insert up down right left go_to delete Counts
  action_counts s Nothing = (refl, refl)
  action_counts s Enter = either (eqb (length s.line) 0) _ _ (refl, refl) (refl, refl)
  action_counts s Erase = either (eqb s.cursor 0) _ _ (refl, refl) (refl, refl)
  action_counts s (Insert b) = either (ltb (length s.line) limit) _ _ (refl, refl) (refl, refl)
  action_counts s Up = either (eqb s.history.place 0) _ _ (refl, refl) (refl, refl)
  action_counts s Down = either (ltb (on_place s.history) (count s.history)) _ _ (refl, refl) (refl, refl)
  action_counts s Right = either (ltb s.cursor (length s.line)) _ _ (refl, refl) (refl, refl)
  action_counts s Left = either (eqb s.cursor 0) _ _ (refl, refl) (refl, refl)
  action_counts s Home = either (eqb s.cursor 0) _ _ (refl, refl) (refl, refl)
  action_counts s End = either (eqb s.cursor (length s.line)) _ _ (refl, refl) (refl, refl)
  action_counts s Delete = either (ltb s.cursor (length s.line)) _ _ (refl, refl) (refl, refl)

  pub counted : (s : State) (b : ℕ) → let t : Turn = turn_of prompt s b in (value (taken t t.kind) ≡ length t.screen) × (beside (taken t t.kind) ≡ length t.submitted)
  unfolding turn_of Counts
  counted s b = let m : Meaning = meaning s.profile s.mode b in action_counts (in_mode s m.mode) m.action

-- keys one after the other, each with buffers of its own: so many of them taken and none of those ESC, and any that are refused between them
pub data Presses (e₀ : Editor) (h₀ : History) (slots₀ : List ℕ) : ℕ → Editor → History → List ℕ → Type 0 where
  no_key : Presses e₀ h₀ slots₀ 0 e₀ h₀ slots₀
  taken_key : {n : ℕ} {e : Editor} {h : History} {slots prompt line screen slots' line' screen' : List ℕ} {byte : ℕ} {k : KeyAnswer} → Presses e₀ h₀ slots₀ n e h slots
      → Pressing e h slots prompt byte line screen k slots' line' screen' → refused k.answer ≡ false → (byte ≡ 0x1B → ⊥)
      → Presses e₀ h₀ slots₀ (suc n) k.editor k.history slots'
  refused_key : {n : ℕ} {e : Editor} {h : History} {slots prompt line screen slots' line' screen' : List ℕ} {byte : ℕ} {k : KeyAnswer} → Presses e₀ h₀ slots₀ n e h slots
      → Pressing e h slots prompt byte line screen k slots' line' screen' → refused k.answer ≡ true → Presses e₀ h₀ slots₀ n k.editor k.history slots'

-- the profile is kept, and what is waited for lasts no longer than so many bytes
record Nears (e₀ e : Editor) (n : ℕ) : Type 0 where
  profile : e.profile ≡ e₀.profile
  near : remaining e₀.profile e.mode ≤ remaining e₀.profile e₀.mode - n

next_left : (p q : Profile) (m : Mode) (b : ℕ) → p ≡ q → (b ≡ 0x1B → ⊥) → remaining q (meaning p m b).mode ≤ remaining q m - 1
next_left p q m b e n = rw (sym e) (nearer p m b n)

nears : (e₀ : Editor) (h₀ : History) (slots₀ : List ℕ) (n : ℕ) (e : Editor) (h : History) (slots : List ℕ) → Presses e₀ h₀ slots₀ n e h slots → Nears e₀ e n
nears e₀ h₀ slots₀ _ _ _ _ no_key = record { profile = refl; near = omega arith }
nears e₀ h₀ slots₀ _ _ _ _ (taken_key {n} {e} {h} {slots} {prompt} {line} {screen} {slots'} {line'} {screen'} {byte} {k} r p t x) =
    let b = nears e₀ h₀ slots₀ n e h slots r in
    let m = key_mode e h slots prompt byte line screen k slots' line' screen' p t in
    let a = next_left e.profile e₀.profile e.mode byte b.profile x in
    let d = b.near in
    record { profile = key_profile e h slots prompt byte line screen k slots' line' screen' p t ∙ b.profile; near = rw m (omega arith) }
nears e₀ h₀ slots₀ _ _ _ _ (refused_key {n} {e} {h} {slots} {k = k} r p t) =
    let b = nears e₀ h₀ slots₀ n e h slots r in
    let same : k.editor ≡ e = p.editor ∙ then_is _ _ _ t in
    rw same b

-- keys that are refused leave all as it was, so the first that is taken is taken in the state at the start, which is good then
refused_stay : (e₀ : Editor) (h₀ : History) (slots₀ : List ℕ) (n : ℕ) (e : Editor) (h : History) (slots : List ℕ) → Presses e₀ h₀ slots₀ n e h slots → n ≡ 0
    → good_state e h slots ≡ good_state e₀ h₀ slots₀
refused_stay e₀ h₀ slots₀ _ _ _ _ no_key z = refl
refused_stay e₀ h₀ slots₀ _ _ _ _ (taken_key r p t x) z = absurd (omega arith)
refused_stay e₀ h₀ slots₀ _ _ _ _ (refused_key {n} {e} {h} {slots} r p t) z =
    same_good (p.editor ∙ then_is _ _ _ t) (p.history ∙ then_is _ _ _ t) (p.held ∙ then_is _ _ _ t) ∙ refused_stay e₀ h₀ slots₀ n e h slots r z

taken_good : (e₀ : Editor) (h₀ : History) (slots₀ : List ℕ) (n : ℕ) (e : Editor) (h : History) (slots : List ℕ) → Presses e₀ h₀ slots₀ n e h slots → (n ≡ 0 → ⊥)
    → good_state e₀ h₀ slots₀ ≡ true
taken_good e₀ h₀ slots₀ _ _ _ _ no_key z = absurd (z refl)
taken_good e₀ h₀ slots₀ _ _ _ _ (refused_key {n} {e} {h} {slots} r p t) z = taken_good e₀ h₀ slots₀ n e h slots r z
taken_good e₀ h₀ slots₀ _ _ _ _ (taken_key {n = zero} {e = e} {h = h} {slots = slots} {prompt = prompt} {line = line} {screen = screen} {slots' = slots'} {line' = line'} {screen' = screen'} {byte = byte} {k = k} r p t x) z =
    sym (refused_stay e₀ h₀ slots₀ 0 e h slots r refl) ∙ key_good e h slots prompt byte line screen k slots' line' screen' p t
taken_good e₀ h₀ slots₀ _ _ _ _ (taken_key {n = suc n} {e = e} {h = h} {slots = slots} r p t x) z = taken_good e₀ h₀ slots₀ (suc n) e h slots r (λ q. omega arith)

patient : (p : Profile) → patience p ≡ 0 → ⊥
patient Rust e = omega arith
patient Ecma48 e = omega arith

-- so many keys of a profile bring typing back
pub typing_back : (e₀ : Editor) (h₀ : History) (slots₀ : List ℕ) (n : ℕ) (e : Editor) (h : History) (slots : List ℕ)
    → patience e₀.profile ≤ n → Presses e₀ h₀ slots₀ n e h slots → (e.mode ≡ Typing) × (e.profile ≡ e₀.profile)
typing_back e₀ h₀ slots₀ n e h slots l r =
    let b = nears e₀ h₀ slots₀ n e h slots r in
    let g = taken_good e₀ h₀ slots₀ n e h slots r (λ z. patient e₀.profile (omega arith)) in
    let m = left_most e₀.profile e₀.mode (good_mode_lem e₀ h₀ slots₀ g) in
    let d = b.near in
    (none_left e₀.profile e.mode (omega arith), b.profile)
