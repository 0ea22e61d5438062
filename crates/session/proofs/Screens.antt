-- What a key shows is short: the session's own buffer always has room for it. And which keys run a line.
use Rattle.std.specs.Prelude.{Ok, Result, ⊤}
use Prim.Native.Nat.{ℕ, zero, suc, ◌+◌, ◌-◌, ◌/◌, ◌%◌, ◌≤◌}
use mathlib.Core.Path.{◌≡◌, refl, sym, ap, ◌∙◌}
use mathlib.Core.Bool.{Bool, true, false, cond}
use mathlib.Core.List.{List, [], ◌∷◌, ◌++◌}
use mathlib.Core.Logic.{◌⊎◌, inl, inr}
use native.Mathlib.Omega.{arith}
use borrow.Author.Tests.{eq-eqb, ne_eqb}
use lib.Dec.{eqb, ltb, leb}
use lib.ListN.{length, length-append}
use Rattle.buffer.proofs.Choices.{then_is, else_is, true_is_not_false}
use Rattle.tree.specs.Rules.{check_tree}
use Rattle.tree.specs.declared.check.BadFrame.{BadFrame}
use Rattle.text.specs.Decoding.{well_formed}
use Rattle.history.specs.Journal.{count}
use Rattle.screen.specs.Decimal.{digits_in, decimal}
use Rattle.screen.specs.Redraw.{clear_line, move_back, redraw}
use Rattle.keys.specs.declared.standing.Profile.{Profile}
use Rattle.keys.specs.declared.standing.Progress.{Progress}
use Rattle.keys.specs.declared.standing.Mode.{Mode}
use Rattle.keys.specs.declared.standing.Mode.TheVariants.{Typing, Escape, Sequence, Control}
use Rattle.keys.specs.declared.standing.Action.{Action}
use Rattle.keys.specs.declared.standing.Action.TheVariants.{Nothing, Enter, Erase, Insert, Up, Down, Right, Left, Home, End, Delete}
use Rattle.keys.specs.declared.meaning.Meaning.{Meaning}
use Rattle.editor.specs.Line.{limit, content}
use Rattle.keys.specs.Modes.{longest}
use Rattle.keys.specs.Control.{goes_on, is_final, arrow_of, letter, tilde, ended, further}
use Rattle.keys.specs.Keys.{awaiting, typed, begun, escaped, sequenced, awaiting_more, controlled, meaning}
use Rattle.editor.specs.Turns.{State, Kind, shows, enters, drops, Turn, showing, in_mode, redrawn, redrawing, line_feed, enter, erase, insert, up, on_place, down, arrow, right, left, go_to, delete, turn_by, turn_of}
use Rattle.editor.proofs.Fine.{Fine, turn_fine}
use Rattle.session.specs.Calls.{is_enter, tree_before}

-- a redraw of a line of at most 255 bytes
longer : (most n : ℕ) (more : List ℕ) → length more ≤ most + 1 → (t : Bool) → length (cond t ((0x30 + n) ∷ []) (more ++ ((0x30 + n % 10) ∷ []))) ≤ suc most + 1
longer most n more h true = omega arith
longer most n more h false = let l = length-append more ((0x30 + n % 10) ∷ []) in omega arith

digits_size : (most n : ℕ) → length (digits_in most n) ≤ most + 1
unfolding digits_in
digits_size zero n = omega arith
digits_size (suc most) n = longer most n (digits_in most (n / 10)) (digits_size most (n / 10)) (ltb n 10)

move_size : (n : ℕ) → length (move_back n) ≤ n + 4
unfolding move_back decimal
move_size zero = omega arith
move_size (suc n) = let d = digits_size (suc n) (suc n) in let l = length-append (digits_in (suc n) (suc n)) (0x44 ∷ []) in omega arith

content_size : (l : List ℕ) → length (content l) ≤ length l
unfolding content
content_size l = by (well_formed l)
  where
    by : (t : Bool) → length (cond t l []) ≤ length l
    by true = omega arith
    by false = omega arith

redrawn_size : (prompt : List ℕ) (s : State) → length prompt ≤ 128 → length s.line ≤ 255 → length (redrawn prompt s) ≤ 1023
unfolding redrawn redraw
redrawn_size prompt s h k =
    let c : List ℕ = content s.line in
    let m : List ℕ = move_back (length c - s.cursor) in
    let a = length-append clear_line (prompt ++ (c ++ m)) in
    let b = length-append prompt (c ++ m) in
    let d = length-append c m in
    let e = move_size (length c - s.cursor) in
    let f = content_size s.line in
    omega arith

-- the bytes of Enter: the tree is tested before these, and before no other
module _ (byte : ℕ) where
  cr_enters : eqb byte 0x0D ≡ true → is_enter byte ≡ true
  unfolding is_enter
  cr_enters e = then_is _ _ _ e

  lf_enters : eqb byte 0x0A ≡ true → is_enter byte ≡ true
  unfolding is_enter
  lf_enters e = by (eqb byte 0x0D)
    where
      by : (b : Bool) → cond b true (eqb byte 0x0A) ≡ true
      by true = refl
      by false = e

  pub tested_before : (image : List ℕ) (told : Result ⊤ BadFrame) → (byte ≡ 0x0A) ⊎ (byte ≡ 0x0D) → told ≡ check_tree image → told ≡ tree_before byte image
  unfolding tree_before
  tested_before image told (inl e) k = k ∙ sym (then_is _ _ _ (lf_enters (eq-eqb byte 0x0A e)))
  tested_before image told (inr e) k = k ∙ sym (then_is _ _ _ (cr_enters (eq-eqb byte 0x0D e)))

  pub untested : (image : List ℕ) → ((byte ≡ 0x0A) ⊎ (byte ≡ 0x0D) → ⊥) → Ok tt ≡ tree_before byte image
  unfolding tree_before is_enter
  untested image n = sym (else_is _ _ _ (else_is _ _ _ (ne_eqb byte 0x0D (λ e. n (inr e))) ∙ ne_eqb byte 0x0A (λ e. n (inl e))))

-- what is shown at Enter is the line feed; a byte that is dropped shows nothing
abbrev pub Plain : Kind → List ℕ → Type 0
Plain shows bytes = Unit {0}
Plain enters bytes = bytes ≡ line_feed
Plain drops bytes = bytes ≡ []

-- a turn shows few bytes, or draws the line of its state anew; and it submits at most a line
data Brief (prompt : List ℕ) (t : Turn) : Type 0 where
  few : length t.screen ≤ 3 → length t.submitted ≤ 255 → Plain t.kind t.screen → Brief prompt t
  drawn : t.screen ≡ redrawn prompt t.after → length t.submitted ≤ 255 → Plain t.kind t.screen → Brief prompt t

module _ (prompt : List ℕ) (s : State) where
  either : (b : Bool) (t u : Turn) → Brief prompt t → Brief prompt u → Brief prompt (cond b t u)
  either true t u p q = p
  either false t u p q = q

  -- a turn that shows these few bytes, or the line drawn anew, and submits nothing
  brief : (s : State) (bytes : List ℕ) → length bytes ≤ 3 → Brief prompt (showing s bytes)
  brief s bytes h = few h (omega arith) tt

  quiet : (s : State) → Brief prompt (showing s [])
  quiet s = brief s [] (omega arith)

  anew : (s : State) → Brief prompt (redrawing prompt s)
  anew s = drawn refl (omega arith) tt

  go_brief : (place : ℕ) → Brief prompt (go_to prompt s place)
  unfolding go_to
  go_brief place = either (eqb s.cursor place) _ _ (quiet s) (anew _)

  action_brief : length s.line ≤ 255 → (a : Action) → Brief prompt (turn_by prompt s a)
  unfolding enter erase insert up down right left delete
  action_brief h Nothing = quiet s
  action_brief h Enter = either (eqb (length s.line) 0) _ _ (few (omega arith) (omega arith) refl) (few (omega arith) h refl)
  action_brief h Erase = either (eqb s.cursor 0) _ _ (quiet s) (anew _)
  action_brief h (Insert b) = either (ltb (length s.line) limit) _ _ (anew _) (few (omega arith) (omega arith) refl)
  action_brief h Up = either (eqb s.history.place 0) _ _ (quiet s) (anew _)
  action_brief h Down = either (ltb (on_place s.history) (count s.history)) _ _ (anew _) (anew _)
  action_brief h Right = either (ltb s.cursor (length s.line)) _ _ (brief _ (arrow 0x43) (omega arith)) (quiet s)
  action_brief h Left = either (eqb s.cursor 0) _ _ (quiet s) (brief _ (arrow 0x44) (omega arith))
  action_brief h Home = go_brief 0
  action_brief h End = go_brief (length s.line)
  action_brief h Delete = either (ltb s.cursor (length s.line)) _ _ (anew _) (quiet s)

  -- only the action Enter enters
  Other : Action → Turn → Type 0
  Other a t = t.kind ≡ enters → a ≡ Enter

  shows_other : (a : Action) (t : Turn) → t.kind ≡ shows → Other a t
  unfolding Other
  shows_other a t e q = absurd (let z : ◌≡◌ {A = ℕ} 0 1 = cc in omega arith)

  drops_other : (a : Action) (t : Turn) → t.kind ≡ drops → Other a t
  unfolding Other
  drops_other a t e q = absurd (let z : ◌≡◌ {A = ℕ} 0 1 = cc in omega arith)

  itself : (t : Turn) → Other Enter t
  unfolding Other
  itself t e = refl

  each : (a : Action) (b : Bool) (t u : Turn) → Other a t → Other a u → Other a (cond b t u)
  each a true t u p q = p
  each a false t u p q = q

  go_other : (a : Action) (place : ℕ) → Other a (go_to prompt s place)
  unfolding go_to
  go_other a place = each a (eqb s.cursor place) _ _ (shows_other a _ refl) (shows_other a _ refl)

  only_enter : (a : Action) → Other a (turn_by prompt s a)
  unfolding erase insert up down right left delete
  only_enter Nothing = shows_other Nothing _ refl
  only_enter Enter = itself (enter s)
  only_enter Erase = each Erase (eqb s.cursor 0) _ _ (shows_other Erase _ refl) (shows_other Erase _ refl)
  only_enter (Insert b) = each (Insert b) (ltb (length s.line) limit) _ _ (shows_other (Insert b) _ refl) (drops_other (Insert b) _ refl)
  only_enter Up = each Up (eqb s.history.place 0) _ _ (shows_other Up _ refl) (shows_other Up _ refl)
  only_enter Down = each Down (ltb (on_place s.history) (count s.history)) _ _ (shows_other Down _ refl) (shows_other Down _ refl)
  only_enter Right = each Right (ltb s.cursor (length s.line)) _ _ (shows_other Right _ refl) (shows_other Right _ refl)
  only_enter Left = each Left (eqb s.cursor 0) _ _ (shows_other Left _ refl) (shows_other Left _ refl)
  only_enter Home = go_other Home 0
  only_enter End = go_other End (length s.line)
  only_enter Delete = each Delete (ltb s.cursor (length s.line)) _ _ (shows_other Delete _ refl) (shows_other Delete _ refl)

-- and only a 0D or a 0A means it
abbrev is_entering : Action → Bool
is_entering Nothing = false
is_entering Enter = true
is_entering Erase = false
is_entering (Insert b) = false
is_entering Up = false
is_entering Down = false
is_entering Right = false
is_entering Left = false
is_entering Home = false
is_entering End = false
is_entering Delete = false

neither : (t : Bool) (a b : Action) → is_entering a ≡ false → is_entering b ≡ false → is_entering (cond t a b) ≡ false
neither true a b p q = p
neither false a b p q = q

Enters : ℕ → Meaning → Type 0
Enters byte m = m.action ≡ Enter → is_enter byte ≡ true

module _ (byte : ℕ) where
  choose : (b : Bool) (m n : Meaning) → (b ≡ true → Enters byte m) → Enters byte n → Enters byte (cond b m n)
  choose true m n p q = p refl
  choose false m n p q = q

  other : (a : Action) (m : Mode) → is_entering a ≡ false → Enters byte (record { action = a; mode = m })
  unfolding Enters
  other a m n e = absurd (true_is_not_false (sym (ap is_entering e) ∙ n))

  quietly : (m : Mode) → Enters byte (awaiting m)
  quietly m = other Nothing m refl

  -- no byte of a sequence does, final or not
  arrow_other : is_entering (arrow_of byte) ≡ false
  unfolding arrow_of
  arrow_other = neither (eqb byte 0x41) _ _ refl (neither (eqb byte 0x42) _ _ refl (neither (eqb byte 0x43) _ _ refl (neither (eqb byte 0x44) _ _ refl refl)))

  letter_other : is_entering (letter byte) ≡ false
  unfolding letter
  letter_other = neither (eqb byte 0x48) _ _ refl (neither (eqb byte 0x46) _ _ refl arrow_other)

  tilde_other : (n : ℕ) → is_entering (tilde n) ≡ false
  unfolding tilde
  tilde_other n =
      neither (eqb n 1) _ _ refl (neither (eqb n 7) _ _ refl (neither (eqb n 4) _ _ refl (neither (eqb n 8) _ _ refl (neither (eqb n 3) _ _ refl refl))))

  ended_other : (n : ℕ) → is_entering (ended n byte) ≡ false
  unfolding ended
  ended_other n = neither (eqb byte 0x7E) _ _ (tilde_other n) (neither (leb n 1) _ _ letter_other refl)

  onward_enters : (p : Progress) → Enters byte (awaiting_more p byte)
  unfolding awaiting_more
  onward_enters p = choose (ltb p.read longest) _ _ (λ q. quietly (Control (further p byte))) (quietly Typing)

  meaning_enters : (profile : Profile) (m : Mode) → Enters byte (meaning profile m byte)
  unfolding typed escaped sequenced controlled Enters
  meaning_enters profile Typing =
      choose (eqb byte 0x0D) _ _ (λ q e. cr_enters byte q)
      (choose (eqb byte 0x0A) _ _ (λ q e. lf_enters byte q)
      (choose (eqb byte 0x08) _ _ (λ q. other Erase Typing refl)
      (choose (eqb byte 0x7F) _ _ (λ q. other Erase Typing refl)
      (choose (eqb byte 0x1B) _ _ (λ q. quietly Escape)
      (choose (ltb byte 0x20) _ _ (λ q. quietly Typing) (other (Insert byte) Typing refl))))))
  meaning_enters profile Escape = choose (eqb byte 0x5B) _ _ (λ q. quietly (begun profile)) (quietly Typing)
  meaning_enters profile Sequence = other (arrow_of byte) Typing arrow_other
  meaning_enters profile (Control p) =
      choose (goes_on byte) _ _ (λ q. onward_enters p)
      (choose (is_final byte) _ _ (λ q. other (ended p.parameter byte) Typing (ended_other p.parameter)) (quietly Typing))

module _ (prompt : List ℕ) (s : State) (byte : ℕ) (f : Fine s) where
  turn_brief : Brief prompt (turn_of prompt s byte)
  unfolding turn_of
  turn_brief = let m : Meaning = meaning s.profile s.mode byte in action_brief prompt (in_mode s m.mode) f.short m.action

  pub screen_short : length prompt ≤ 128 → length (turn_of prompt s byte).screen ≤ 1023
  screen_short h = by turn_brief
    where
      by : Brief prompt (turn_of prompt s byte) → length (turn_of prompt s byte).screen ≤ 1023
      by (few k l m) = omega arith
      by (drawn e l m) = let r = redrawn_size prompt (turn_of prompt s byte).after h (turn_fine prompt s byte f).short in let l = ap length e in omega arith

  pub submitted_short : length (turn_of prompt s byte).submitted ≤ 255
  submitted_short = by turn_brief
    where
      by : Brief prompt (turn_of prompt s byte) → length (turn_of prompt s byte).submitted ≤ 255
      by (few k l m) = l
      by (drawn e l m) = l

  pub screen_plain : Plain (turn_of prompt s byte).kind (turn_of prompt s byte).screen
  screen_plain = by turn_brief
    where
      by : Brief prompt (turn_of prompt s byte) → Plain (turn_of prompt s byte).kind (turn_of prompt s byte).screen
      by (few k l m) = m
      by (drawn e l m) = m

  -- a turn that runs a line comes from one of the bytes before which the tree is tested
  pub enters_byte : (turn_of prompt s byte).kind ≡ enters → is_enter byte ≡ true
  unfolding turn_of Other Enters
  enters_byte e = let m : Meaning = meaning s.profile s.mode byte in meaning_enters byte s.profile s.mode (only_enter prompt (in_mode s m.mode) m.action e)

  pub enters_tested : (image : List ℕ) → (turn_of prompt s byte).kind ≡ enters → tree_before byte image ≡ check_tree image
  unfolding tree_before
  enters_tested image e = then_is _ _ _ (enters_byte e)
