-- Each key does what the Rust's loop does, in every state within the rules whose profile is the Rust's (STANDARD 2.22, 2.23): it leaves the same line, cursor, mode and history, shows the
-- bytes that the loop writes, and submits the line that the loop runs.
use Rattle.std.proofs.Common.{◌≡◌, ℕ, zero, suc, ◌+◌, ◌-◌, min, Bool, true, false, cond, not, eqb, ltb, List, [], ◌∷◌, ◌++◌, length, take, sym, refl, ap, ◌∙◌, subst, arith, take_all, ltb-false, ltb-true, le-ltb, lt-ltb, ne_eqb, eqb-true}
use mathlib.Core.Option.{none, some}
use borrow.Author.Tests.{eqb-false}
use Rattle.buffer.proofs.Choices.{then_is, else_is, true_is_not_false}
use Rattle.buffer.specs.Write.{over}
use Rattle.text.proofs.Prefix.{prefix_fits}
use Rattle.text.specs.Decoding.{well_formed_length, well_formed}
use Rattle.history.specs.Journal.{Journal, count, entry_of, at_place}
use Rattle.history.specs.declared.stepping.History.{History}
use Rattle.history.proofs.Journals.{fair_short, fair_formed}
use Rattle.screen.specs.Decimal.{decimal}
use Rattle.screen.specs.Redraw.{clear_line, move_back, redraw}
use Rattle.screen.proofs.Drawing.{move_none, move_some}
use Rattle.keys.specs.declared.standing.Profile.{Profile}
use Rattle.keys.specs.declared.standing.Profile.TheVariants.{Rust}
use Rattle.keys.specs.declared.standing.Mode.{Mode}
use Rattle.keys.specs.declared.standing.Mode.TheVariants.{Typing, Escape, Sequence, Control}
use Rattle.editor.specs.declared.line.Editor.{Editor}
use Rattle.editor.specs.declared.drawing.KeyAnswer.{KeyAnswer}
use Rattle.editor.specs.Line.{limit, inserted, erased, content}
use Rattle.keys.specs.declared.standing.Action.{Action}
use Rattle.keys.specs.declared.standing.Action.TheVariants.{Nothing}
use Rattle.keys.specs.declared.meaning.Meaning.{Meaning}
use Rattle.keys.specs.Modes.{good_mode}
use Rattle.keys.specs.Control.{arrow_of}
use Rattle.keys.specs.Keys.{doing, awaiting, typed, escaped, sequenced, meaning}
use Rattle.editor.specs.Turns.{State, Kind, shows, enters, drops, Turn, line_feed, showing, redrawn, redrawing, cleared, in_mode, with_line, recalled, enter, erase, insert, up, on_place, down, right, left, turn_by, turn_of}
use Rattle.editor.specs.Answer.{state_of, good_state, taken, refused, Pressing}
use Rattle.editor.proofs.Fine.{Fine, fine_of, formed_nothing}
use Rattle.editor.proofs.KeyTurns.{own_mode}
use Rattle.editor.proofs.Called.{key_taken, state_after}
use Rattle.buffer.specs.Ascii.{ascii}
use Rattle.rust.specs.Std.{if_some, is_utf8, println, utf8_or_empty}
use Rattle.rust.specs.History.{CommandHistory, add_command, Stepped, clear_line_and_redraw}
use Rattle.rust.specs.Loop.{InputState, Normal, EscapeSeq, Shell, Event, writes, runs, Loop, turned, first_bytes, line_run, crlf, bsdl, other, normal, escape, recalled_in, key_a, key_b, key_c, key_d, escape_seq, rust_in, rust_key}
use Rattle.rust.specs.Same.{original, input_of, shell_of, written, entered, at_enter}
use Rattle.rust.specs.Calls.{ToldAs, PressesAs}
use Rattle.rust.proofs.Histories.{add_is, previous_is, next_is}

-- what the Rust's loop does if it does as a turn of ours: by the turn's kind, the events of one who shows its bytes and runs what it submits
abbrev pub events_by : List ℕ → Turn → Kind → List Event
events_by prompt t shows = written t.screen
events_by prompt t enters = at_enter prompt t.screen t.submitted
events_by prompt t drops = []

abbrev pub loop_of : List ℕ → Turn → Loop
loop_of prompt t = turned (shell_of t.after) (events_by prompt t t.kind)

-- no line is submitted but at Enter, and a turn that drops a byte shows nothing
abbrev pub Tidy : Turn → Kind → Type 0
Tidy t shows = t.submitted ≡ []
Tidy t enters = Unit {0}
Tidy t drops = (t.screen ≡ []) × (t.submitted ≡ [])

-- a turn of the Rust's loop is ours
pub record Same (prompt : List ℕ) (x : Loop) (t : Turn) : Type 0 where
  pub loop : x ≡ loop_of prompt t
  pub tidy : Tidy t t.kind

-- a choice on both sides, and the same choice asked the other way: above 0, or 0
both : (prompt : List ℕ) (b : Bool) (x y : Loop) (t u : Turn) → (b ≡ true → Same prompt x t) → (b ≡ false → Same prompt y u) → Same prompt (cond b x y) (cond b t u)
both prompt true x y t u p q = p refl
both prompt false x y t u p q = q refl

above : (n : ℕ) (x y : Loop) → cond (ltb 0 n) x y ≡ cond (eqb n 0) y x
above zero x y = refl
above (suc n) x y = then_is _ _ _ (lt-ltb 0 (suc n) (omega arith)) ∙ sym (else_is _ _ _ (ne_eqb (suc n) 0 (λ e. omega arith)))

none_or : (prompt : List ℕ) (n : ℕ) (x y : Loop) (t u : Turn) → (n ≡ 0 → Same prompt y t) → ((n ≡ 0 → ⊥) → Same prompt x u)
    → Same prompt (cond (ltb 0 n) x y) (cond (eqb n 0) t u)
none_or prompt n x y t u p q = rw (above n x y) (both prompt (eqb n 0) y x t u (λ e. p (eqb-true n 0 e)) (λ e. q (eqb-false n 0 e)))

shells : {b b' : List ℕ} {c c' : ℕ} {i i' : InputState} {h h' : CommandHistory} → b ≡ b' → c ≡ c' → i ≡ i' → h ≡ h'
    → ◌≡◌ {A = Shell} (record { buf = b; cursor = c; input = i; history = h }) (record { buf = b'; cursor = c'; input = i'; history = h' })
shells p q r s = cc

loops : {a a' : Shell} {e e' : List Event} → a ≡ a' → e ≡ e' → turned a e ≡ turned a' e'
loops p q = cc

-- the redraws are the same
pub same_redraw : (prompt text : List ℕ) (cursor : ℕ) → clear_line_and_redraw prompt text cursor ≡ redraw prompt text cursor
unfolding clear_line_and_redraw redraw
same_redraw prompt text cursor = ap (λ (l : List ℕ). clear_line ++ (prompt ++ (text ++ l))) (by (ltb cursor (length text)) refl)
  where
    by : (t : Bool) → ltb cursor (length text) ≡ t → cond t (0x1B ∷ 0x5B ∷ (decimal (length text - cursor) ++ (0x44 ∷ []))) [] ≡ move_back (length text - cursor)
    by true q = let h = ltb-true cursor (length text) q in sym (move_some (length text - cursor) (λ e. omega arith))
    by false q = let h = ltb-false cursor (length text) q in sym (move_none (length text - cursor) (omega arith))

-- what is well-formed is shown as it is
formed_content : (l : List ℕ) → well_formed l ≡ true → content l ≡ l
unfolding content
formed_content l w = then_is _ _ _ w

-- what the Rust makes a `str` of is our content
pub str_is : (l : List ℕ) → utf8_or_empty l ≡ content l
unfolding utf8_or_empty is_utf8 content well_formed
str_is l = ap (λ (t : Bool). cond t l []) (by (eqb (well_formed_length l) (length l)) refl)
  where
    by : (t : Bool) → eqb (well_formed_length l) (length l) ≡ t → not (ltb (well_formed_length l) (length l)) ≡ t
    by true q = let e = eqb-true (well_formed_length l) (length l) q in ap not (le-ltb (well_formed_length l) (length l) (omega arith))
    by false q =
        let e = eqb-false (well_formed_length l) (length l) q in
        let k = prefix_fits l in
        ap not (lt-ltb (well_formed_length l) (length l) (omega arith))

-- bytes that are shown, and a line that is run
one_write : (bytes : List ℕ) → (length bytes ≡ 0 → ⊥) → writes bytes ∷ [] ≡ written bytes
one_write [] n = absurd (n refl)
one_write (b ∷ bytes) n = refl

one_run : (prompt bytes line : List ℕ) → (length line ≡ 0 → ⊥) → writes bytes ∷ runs (utf8_or_empty line) line ∷ writes prompt ∷ [] ≡ at_enter prompt bytes line
one_run prompt bytes [] n = absurd (n refl)
one_run prompt bytes (b ∷ line) n = refl

line_feed_lem : println [] ≡ line_feed
unfolding println ascii
line_feed_lem = refl

redrawn_as : (prompt text : List ℕ) (u : State) → text ≡ content u.line → clear_line_and_redraw prompt text u.cursor ≡ redrawn prompt u
unfolding redrawn
redrawn_as prompt text u e = same_redraw prompt text u.cursor ∙ ap (λ (l : List ℕ). redraw prompt l u.cursor) e

some_redrawn : (prompt : List ℕ) (u : State) → length (redrawn prompt u) ≡ 0 → ⊥
unfolding redrawn redraw
some_redrawn prompt u e = omega arith

module _ (prompt : List ℕ) (s : State) (f : Fine s) where
  -- nothing but another state
  quiet : (u : State) → Same prompt (turned (shell_of u) []) (showing u [])
  quiet u = record { loop = refl; tidy = refl }

  -- a line drawn anew, in a shell that holds it
  redraws : (u : State) (sh : Shell) (text : List ℕ) (n : ℕ) → sh ≡ shell_of u → text ≡ content u.line → n ≡ u.cursor
      → Same prompt (turned sh (writes (clear_line_and_redraw prompt text n) ∷ [])) (redrawing prompt u)
  redraws u sh text n p q r =
      record {
        loop = loops p
            (ap (λ (k : ℕ). writes (clear_line_and_redraw prompt text k) ∷ []) r
            ∙ ap (λ (bytes : List ℕ). writes bytes ∷ []) (redrawn_as prompt text u q)
            ∙ one_write (redrawn prompt u) (some_redrawn prompt u));
        tidy = refl;
      }

  -- while typing goes on
  edited : (l : List ℕ) (c : ℕ)
      → Same prompt (turned (record { buf = l; cursor = c; input = Normal; history = original s.history }) (writes (clear_line_and_redraw prompt (utf8_or_empty l) c) ∷ []))
      (redrawing prompt (with_line (in_mode s Typing) l c))
  edited l c = redraws (with_line (in_mode s Typing) l c) _ (utf8_or_empty l) c refl (str_is l) refl

  same_enter : Same prompt (crlf prompt (shell_of (in_mode s Typing))) (enter (in_mode s Typing))
  unfolding crlf enter
  same_enter =
      none_or prompt (length s.line) _ _ _ _
      (λ e. record { loop = loops refl (ap (λ (bytes : List ℕ). writes bytes ∷ writes prompt ∷ []) line_feed_lem); tidy = tt })
      (λ n. record {
        loop = loops (shells refl refl refl (ap (add_command (original s.history)) (str_is s.line) ∙ add_is s.history (content s.line)))
            (ap (λ (bytes : List ℕ). writes bytes ∷ runs (utf8_or_empty s.line) s.line ∷ writes prompt ∷ []) line_feed_lem ∙ one_run prompt line_feed s.line n);
        tidy = tt;
      })

  same_erase : Same prompt (bsdl prompt (shell_of (in_mode s Typing))) (erase prompt (in_mode s Typing))
  unfolding bsdl erase erased
  same_erase = none_or prompt s.cursor _ _ _ _ (λ e. quiet (in_mode s Typing)) (λ n. edited _ (s.cursor - 1))

  same_insert : (c : ℕ) → Same prompt (other prompt (shell_of (in_mode s Typing)) c) (insert prompt (in_mode s Typing) c)
  unfolding other insert inserted limit
  same_insert c = both prompt (ltb (length s.line) 255) _ _ _ _ (λ q. edited _ (s.cursor + 1)) (λ q. record { loop = refl; tidy = (refl, refl) })

  -- an entry recalled, and the line cleared
  recalled_same : (n : ℕ) → Same prompt (recalled_in prompt (original (at_place s.history n)) (entry_of s.history n)) (redrawing prompt (recalled (in_mode s Typing) n))
  unfolding recalled_in
  recalled_same n =
      let cmd : List ℕ = entry_of s.history n in
      let short = fair_short s.history n f.fair in
      let all : min (length cmd) 255 ≡ length cmd = omega arith in
      redraws (recalled (in_mode s Typing) n) _ cmd _
      (shells (ap (λ (k : ℕ). take k cmd) all ∙ take_all (length cmd) cmd (omega arith)) all refl refl) (sym (formed_content cmd (fair_formed s.history n f.fair))) all

  cleared_same : (n : ℕ)
      → Same prompt (turned (record { buf = []; cursor = 0; input = Normal; history = original (at_place s.history n) }) (writes (clear_line_and_redraw prompt [] 0) ∷ []))
      (redrawing prompt (cleared (in_mode s Typing) (at_place s.history n)))
  cleared_same n = redraws (cleared (in_mode s Typing) (at_place s.history n)) _ [] 0 refl (sym (formed_content [] formed_nothing)) refl

  same_a : Same prompt (key_a prompt (shell_of s)) (up prompt (in_mode s Typing))
  unfolding key_a up
  same_a = rw (previous_is s.history f.fair.placed) (by (eqb s.history.place 0))
    where
      made : Stepped → Loop
      made p = if_some p.text (recalled_in prompt p.after) (turned (record { buf = s.line; cursor = s.cursor; input = Normal; history = p.after }) [])

      by : (t : Bool) → let j : Journal = s.history in
          Same prompt (made (cond t (record { after = original j; text = none }) (record { after = original (at_place j (j.place - 1)); text = some (entry_of j (j.place - 1)) })))
          (cond t (showing (in_mode s Typing) []) (redrawing prompt (recalled (in_mode s Typing) (j.place - 1))))
      by true = quiet (in_mode s Typing)
      by false = recalled_same (s.history.place - 1)

  same_b : Same prompt (key_b prompt (shell_of s)) (down prompt (in_mode s Typing))
  unfolding key_b down on_place
  same_b =
      rw (next_is s.history f.fair.placed) (by (ltb s.history.place (count s.history)) (ltb (s.history.place + 1) (count s.history)) refl refl)
    where
      made : Stepped → Loop
      made p = if_some p.text (recalled_in prompt p.after) (turned (record { buf = []; cursor = 0; input = Normal; history = p.after }) (writes (clear_line_and_redraw prompt [] 0) ∷ []))

      turn : ℕ → Turn
      turn n = cond (ltb n (count s.history)) (redrawing prompt (recalled (in_mode s Typing) n)) (redrawing prompt (cleared (in_mode s Typing) (at_place s.history n)))

      by : (t u : Bool) → let j : Journal = s.history in ltb j.place (count j) ≡ t → ltb (j.place + 1) (count j) ≡ u
          → Same prompt (made (cond t (record { after = original (at_place j (j.place + 1)); text = cond u (some (entry_of j (j.place + 1))) none }) (record { after = original j; text = none })))
          (turn (cond t (j.place + 1) j.place))
      by true true p q = rw q (recalled_same (s.history.place + 1))
      by true false p q = rw q (cleared_same (s.history.place + 1))
      by false u p q = rw p (cleared_same s.history.place)

  same_c : Same prompt (key_c (shell_of s)) (right (in_mode s Typing))
  unfolding key_c right
  same_c = both prompt (ltb s.cursor (length s.line)) _ _ _ _ (λ q. record { loop = refl; tidy = refl }) (λ q. quiet (in_mode s Typing))

  same_d : Same prompt (key_d (shell_of s)) (left (in_mode s Typing))
  unfolding key_d left
  same_d = none_or prompt s.cursor _ _ _ _ (λ e. quiet (in_mode s Typing)) (λ n. record { loop = refl; tidy = refl })

  -- a byte's meaning on our side, the Rust's own choice on its side
  turn_for : Meaning → Turn
  turn_for m = turn_by prompt (in_mode s m.mode) m.action

  means : (b : Bool) (x y : Loop) (m n : Meaning) → Same prompt x (turn_for m) → Same prompt y (turn_for n) → Same prompt (cond b x y) (turn_for (cond b m n))
  means true x y m n p q = p
  means false x y m n p q = q

  same_normal : (c : ℕ) → Same prompt (normal prompt (shell_of (in_mode s Typing)) c) (turn_for (typed c))
  unfolding normal typed turn_for
  same_normal c =
      means (eqb c 0x0D) _ _ _ _ same_enter
      (means (eqb c 0x0A) _ _ _ _ same_enter
      (means (eqb c 0x08) _ _ _ _ same_erase
      (means (eqb c 0x7F) _ _ _ _ same_erase
      (means (eqb c 0x1B) _ _ _ _ (quiet (in_mode s Escape))
      (means (ltb c 0x20) _ _ _ _ (quiet (in_mode s Typing)) (same_insert c))))))

  -- the same of an action, after which typing goes on
  acts : (b : Bool) (x y : Loop) (a d : Action) → Same prompt x (turn_for (doing a)) → Same prompt y (turn_for (doing d)) → Same prompt (cond b x y) (turn_for (doing (cond b a d)))
  acts true x y a d p q = p
  acts false x y a d p q = q

  same_sequence : (c : ℕ) → Same prompt (escape_seq prompt (shell_of s) c) (turn_for (sequenced c))
  unfolding escape_seq sequenced arrow_of turn_for
  same_sequence c =
      acts (eqb c 0x41) _ _ _ _ same_a
      (acts (eqb c 0x42) _ _ _ _ same_b
      (acts (eqb c 0x43) _ _ _ _ same_c
      (acts (eqb c 0x44) _ _ _ _ same_d (quiet (in_mode s Typing)))))

  same_escape : (c : ℕ) → Same prompt (escape (shell_of s) c) (turn_for (escaped Rust c))
  unfolding escape escaped turn_for
  same_escape c = by (eqb c 0x5B)
    where
      by : (t : Bool) → Same prompt (turned (record { buf = s.line; cursor = s.cursor; input = cond t EscapeSeq Normal; history = original s.history }) [])
          (turn_for (cond t (awaiting Sequence) (doing Nothing)))
      by true = quiet (in_mode s Sequence)
      by false = quiet (in_mode s Typing)

  -- in the Rust's profile, and in a mode that is good there
  in_mode_lem : (c : ℕ) (m : Mode) → s.mode ≡ m → good_mode Rust m ≡ true → Same prompt (rust_in (input_of m) prompt (shell_of s) c) (turn_for (meaning Rust m c))
  unfolding rust_in
  in_mode_lem c Typing e g = subst (λ (x : State). Same prompt (normal prompt (shell_of x) c) (turn_for (typed c))) (own_mode s Typing e) (same_normal c)
  in_mode_lem c Escape e g = same_escape c
  in_mode_lem c Sequence e g = same_sequence c
  in_mode_lem c (Control p) e g = absurd (true_is_not_false (sym g))

  -- the Rust's loop and ours, in every state within the rules whose profile is the Rust's, and for every byte (2.22, 2.23)
  pub same_key : s.profile ≡ Rust → (c : ℕ) → Same prompt (rust_key prompt (shell_of s) c) (turn_of prompt s c)
  unfolding rust_key turn_of turn_for
  same_key own c =
      subst (λ (p : Profile). Same prompt (rust_key prompt (shell_of s) c) (turn_for (meaning p s.mode c))) (sym own)
      (in_mode_lem c s.mode refl (subst (λ (p : Profile). good_mode p s.mode ≡ true) own f.led))

-- what the events of a turn say: the bytes that are written first are those shown, and the line that is run is that submitted
first_written : (bytes : List ℕ) → first_bytes (written bytes) ≡ bytes
first_written [] = refl
first_written (b ∷ bytes) = refl

none_run : (bytes : List ℕ) → line_run (written bytes) ≡ []
none_run [] = refl
none_run (b ∷ bytes) = refl

line_run_lem : (prompt line : List ℕ) → line_run (entered line ++ (writes prompt ∷ [])) ≡ line
line_run_lem prompt [] = refl
line_run_lem prompt (b ∷ line) = refl

module _ (prompt : List ℕ) (t : Turn) where
  first_shown : (q : Kind) → Tidy t q → first_bytes (events_by prompt t q) ≡ t.screen
  first_shown shows e = first_written t.screen
  first_shown enters e = refl
  first_shown drops e = sym e.0

  run_submitted : (q : Kind) → Tidy t q → line_run (events_by prompt t q) ≡ t.submitted
  run_submitted shows e = none_run t.screen ∙ sym e
  run_submitted enters e = line_run_lem prompt t.submitted
  run_submitted drops e = sym e.1

  -- an answer by the kind
  told_as : (q : Kind) → Tidy t q → ToldAs prompt (events_by prompt t q) (taken t q)
  told_as shows e = (sym (ap length (first_shown shows e)), ap written (sym (first_shown shows e)))
  told_as enters e = (sym (ap length (run_submitted enters e)), ap (at_enter prompt t.screen) (sym (run_submitted enters e)))
  told_as drops e = refl

-- the profile of an editor is that of the state which it holds
pub profile_in : (e : Editor) (h : History) (slots : List ℕ) → e.profile ≡ Rust → (state_of e h slots).profile ≡ Rust
unfolding state_of
profile_in e h slots own = own

-- a key that is taken in a good state of the Rust's profile does what one turn of the Rust's loop does (2.22, 2.23)
module _ (e : Editor) (h : History) (slots prompt : List ℕ) (byte : ℕ) (line screen : List ℕ) (k : KeyAnswer) (slots' line' screen' : List ℕ)
    (p : Pressing e h slots prompt byte line screen k slots' line' screen') (is : refused k.answer ≡ false) (g : good_state e h slots ≡ true)
    (own : e.profile ≡ Rust) where
  turn : Turn
  turn = turn_of prompt (state_of e h slots) byte

  answered : k.answer ≡ taken turn turn.kind
  unfolding turn
  answered = key_taken e h slots prompt byte line screen k slots' line' screen' p is

  pub presses_as : PressesAs prompt (rust_key prompt (shell_of (state_of e h slots)) byte) line screen (shell_of (state_of k.editor k.history slots')) k.answer line' screen'
  unfolding turn
  presses_as =
      let same = same_key prompt (state_of e h slots) (fine_of e h slots g) (profile_in e h slots own) byte in
      rw (same.loop, answered)
      (record {
        state = ap shell_of (state_after e h slots prompt byte line screen k slots' line' screen' p is g);
        answer = told_as prompt turn turn.kind same.tidy;
        given = p.given ∙ else_is _ _ _ is ∙ ap (λ (l : List ℕ). over l line) (sym (run_submitted prompt turn turn.kind same.tidy));
        shown = p.shown ∙ else_is _ _ _ is ∙ ap (λ (l : List ℕ). over l screen) (sym (first_shown prompt turn turn.kind same.tidy));
      })
