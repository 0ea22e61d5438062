-- A key of a session in the Rust's profile (STANDARD 2.22, 2.23) prints the frames of what one turn of the Rust's loop does: the bytes that it writes, what the line that it runs comes
-- to, and the prompt, in the loop's order.
use Rattle.std.specs.Prelude.{Ok, Result}
use Rattle.std.proofs.Common.{◌≡◌, ℕ, ◌≤◌, Bool, true, false, cond, List, [], ◌∷◌, ◌++◌, length, sym, refl, ap, ◌∙◌, subst, append_assoc, append-nil}
use Rattle.buffer.specs.Compare.{same_bytes}
use Rattle.buffer.proofs.Choices.{then_is, else_is, true_is_not_false}
use Rattle.text.specs.Unicode.{encode_all}
use Rattle.text.specs.Decoding.{pieces_from, pieces_of, codes_of, codes_in, bytes_all, well_formed_length}
use Rattle.text.specs.Apart.{after_run, trim_end, trimmed, all_white, blank}
use Rattle.image.specs.Frames.{Frame}
use Rattle.tree.specs.Images.{frames_of}
use Rattle.tree.specs.Forest.{Forest}
use Rattle.tree.proofs.Forests.{StandsFor, forest_good}
use Rattle.buffer.specs.Ascii.{ascii}
use Rattle.shell.specs.Lines.{Said, silence, text, farewell, handed as hands_over, builtin_of, begins_help, other_said, line_said, said_of}
use Rattle.keys.specs.declared.standing.Profile.TheVariants.{Rust}
use Rattle.editor.specs.Turns.{State, Kind, shows, enters, drops, Turn, line_feed, turn_of}
use Rattle.editor.specs.Answer.{state_of, editor_of, history_of, good_state}
use Rattle.editor.proofs.Fine.{Fine, fine_of, turn_fine}
use Rattle.editor.proofs.Always.{profile_after}
use Rattle.editor.proofs.Called.{held_state}
use Rattle.session.specs.Prints.{Printed, shown, prompt, answered, leaves, turn_prints, key_prints, turn_ends, key_ends}
use Rattle.session.specs.Lines.{Standing, in_state, Course, preceded, press_key, press_keys}
use Rattle.session.specs.Calls.{image_of, is_enter, tree_before, Laid, PressingKey}
use Rattle.session.specs.Sizes.{key_room}
use Rattle.session.specs.declared.running.Printing.{Printing}
use Rattle.session.specs.declared.running.PrintRefusal.{PrintRefusal}
use Rattle.session.specs.declared.standing.Session.{Session}
use Rattle.session.specs.declared.pressing.Pressing.{Pressing}
use Rattle.session.proofs.Screens.{Plain, screen_plain, enters_byte}
use Rattle.rust.specs.Tree.{Commands, commands_of}
use Rattle.rust.specs.Shell.{run_line, enter}
use Rattle.rust.specs.Loop.{Shell, Event, writes, runs, Loop, turned, prompt_without_fs, rust_keys}
use Rattle.rust.specs.Same.{Seen, quiet, output, handed, exited, crashed, shell_of, written, entered, seen_of, seen_for, QuotedAsIs}
use Rattle.rust.specs.Session.{turn_from, turns_from, seen_then, ends_then, printed_by, ended_by, Unless, EachQuoted, CourseAs, PrintsAs}
use Rattle.rust.proofs.Running.{same_run}
use Rattle.rust.proofs.Keys.{events_by, Tidy, Same, same_key, profile_in}

-- what the console says of a line is what the Rust's line comes to, before the prompt
said_printed : (s : Said) → answered s ≡ seen_then (seen_for s) (shown prompt)
unfolding answered
said_printed silence = refl
said_printed (text number bytes) = refl
said_printed farewell = refl
said_printed (hands_over number report) = refl

said_ends : (s : Said) → leaves s ≡ ends_then (seen_for s) false
unfolding leaves
said_ends silence = refl
said_ends (text number bytes) = refl
said_ends farewell = refl
said_ends (hands_over number report) = refl

-- an empty line is not run by the Rust, and says nothing with us
empty_silent : (frames : List Frame) → said_of frames [] ≡ silence
unfolding said_of line_said other_said builtin_of begins_help well_formed_length codes_in codes_of encode_all trimmed blank all_white pieces_of pieces_from after_run trim_end bytes_all same_bytes ascii
empty_silent frames = refl

-- the prompt without the feature fs, and a turn with it
prompt_is : prompt_without_fs ≡ prompt
unfolding prompt_without_fs prompt
prompt_is = refl

same_turn : (s : State) → Fine s → s.profile ≡ Rust → (byte : ℕ) → Same prompt (turn_from s byte) (turn_of prompt s byte)
same_turn s fine own byte = rw prompt_is (same_key prompt s fine own byte)

module _ (printable : ℕ → Bool) (tree : Commands) where
  -- bytes that are shown
  written_printed : (bytes : List ℕ) → shown bytes ≡ printed_by printable tree (written bytes)
  unfolding shown printed_by
  written_printed [] = refl
  written_printed (b ∷ bytes) = refl

  written_goes : (bytes : List ℕ) → false ≡ ended_by printable tree (written bytes)
  unfolding ended_by
  written_goes [] = refl
  written_goes (b ∷ bytes) = refl

module _ (image : List ℕ) (f : Forest) (printable : ℕ → Bool) where
  -- the line that was submitted, and the prompt
  module _ (stands : StandsFor image f) where
    entered_printed : (line : List ℕ) → EachQuoted printable (commands_of f) (entered line ++ (writes prompt ∷ []))
        → (answered (said_of (frames_of image) line) ≡ printed_by printable (commands_of f) (entered line ++ (writes prompt ∷ [])))
        × (leaves (said_of (frames_of image) line) ≡ ended_by printable (commands_of f) (entered line ++ (writes prompt ∷ [])))
    unfolding printed_by ended_by enter
    entered_printed [] p = (
      ap answered (empty_silent (frames_of image)) ∙ said_printed silence ∙ sym (append-nil (shown prompt)),
      ap leaves (empty_silent (frames_of image)) ∙ said_ends silence,
    )
    entered_printed (b ∷ line) p =
        let said : Said = said_of (frames_of image) (b ∷ line) in
        let same = sym (same_run image f stands printable (b ∷ line) p.0) in (
          said_printed said ∙ ap (λ (x : Seen). seen_then x (shown prompt)) same ∙ ap (seen_then (seen_of (enter printable (commands_of f) (b ∷ line)))) (sym (append-nil (shown prompt))),
          said_ends said ∙ ap (λ (x : Seen). ends_then x false) same,
        )

  module _ (s : State) (fine : Fine s) (own : s.profile ≡ Rust) (byte : ℕ) (stands : is_enter byte ≡ true → StandsFor image f) where
    t : Turn
    t = turn_of prompt s byte

    -- by the kind of the turn
    prints_by : (q : Kind) → t.kind ≡ q → Plain q t.screen → Tidy t q
        → EachQuoted printable (commands_of f) (events_by prompt t q)
        → (turn_prints (frames_of image) t q ≡ printed_by printable (commands_of f) (events_by prompt t q)) × (turn_ends (frames_of image) t q ≡ ended_by printable (commands_of f) (events_by prompt t q))
    unfolding printed_by ended_by t
    prints_by shows e plain tidy p = (written_printed printable (commands_of f) t.screen, written_goes printable (commands_of f) t.screen)
    prints_by enters e plain tidy p =
        let line = entered_printed (stands (enters_byte prompt s byte fine e)) t.submitted p in (
          ap (λ (l : List Printed). shown line_feed ++ l) line.0 ∙ ap (λ (bytes : List ℕ). shown bytes ++ printed_by printable (commands_of f) (entered t.submitted ++ (writes prompt ∷ []))) (sym plain),
          line.1,
        )
    prints_by drops e plain tidy p = (refl, refl)

    -- what a key prints in the Rust's profile is what one turn of the Rust's loop does, and it is the last exactly if the process ends (2.22, 2.23)
    pub key_printed : EachQuoted printable (commands_of f) (turn_from s byte).events
        → (key_prints (frames_of image) (turn_of prompt s byte) ≡ printed_by printable (commands_of f) (turn_from s byte).events)
        × (key_ends (frames_of image) (turn_of prompt s byte) ≡ ended_by printable (commands_of f) (turn_from s byte).events)
    unfolding key_prints key_ends t
    key_printed p =
        let same = same_turn s fine own byte in
        let q = rw same.loop at p in rw same.loop (prints_by t.kind refl (screen_plain prompt s byte fine) same.tidy q)

-- TURN AFTER TURN: what a process that has ended would do besides is not done
module _ (printable : ℕ → Bool) (tree : Commands) where
  seen_both : (seen : Seen) (a b : List Printed) (ends : Bool) → seen_then seen (cond ends a (a ++ b)) ≡ cond (ends_then seen ends) (seen_then seen a) (seen_then seen a ++ b)
  seen_both quiet a b ends = refl
  seen_both (output number bytes) a b true = refl
  seen_both (output number bytes) a b false = sym (append_assoc (shown bytes) a b)
  seen_both (handed number report) a b true = refl
  seen_both (handed number report) a b false = refl
  seen_both (exited bytes) a b ends = refl
  seen_both crashed a b ends = refl

  ends_both : (seen : Seen) (ends later : Bool) → ends_then seen (cond ends true later) ≡ cond (ends_then seen ends) true later
  ends_both quiet ends later = refl
  ends_both (output number bytes) ends later = refl
  ends_both (handed number report) ends later = refl
  ends_both (exited bytes) ends later = refl
  ends_both crashed ends later = refl

  shown_both : (a b c : List Printed) (ends : Bool) → a ++ cond ends b (b ++ c) ≡ cond ends (a ++ b) ((a ++ b) ++ c)
  shown_both a b c true = refl
  shown_both a b c false = sym (append_assoc a b c)

  printed_both : (a b : List Event) → printed_by printable tree (a ++ b) ≡ cond (ended_by printable tree a) (printed_by printable tree a) (printed_by printable tree a ++ printed_by printable tree b)
  unfolding printed_by ended_by
  printed_both [] b = refl
  printed_both (writes bytes ∷ a) b = ap (λ (l : List Printed). shown bytes ++ l) (printed_both a b) ∙ shown_both (shown bytes) (printed_by printable tree a) (printed_by printable tree b) (ended_by printable tree a)
  printed_both (runs cmd bytes ∷ a) b =
      ap (seen_then (seen_of (run_line printable tree cmd bytes))) (printed_both a b)
      ∙ seen_both (seen_of (run_line printable tree cmd bytes)) (printed_by printable tree a) (printed_by printable tree b) (ended_by printable tree a)

  pub both_printed : (a b : List Event) (prints later : List Printed) (ends : Bool) → prints ≡ printed_by printable tree a → ends ≡ ended_by printable tree a
      → (ends ≡ false → later ≡ printed_by printable tree b) → cond ends prints (prints ++ later) ≡ printed_by printable tree (a ++ b)
  both_printed a b prints later true p q more = p ∙ sym (printed_both a b ∙ then_is _ _ _ (sym q))
  both_printed a b prints later false p q more =
      ap (λ (l : List Printed). l ++ later) p ∙ ap (λ (l : List Printed). printed_by printable tree a ++ l) (more refl) ∙ sym (printed_both a b ∙ else_is _ _ _ (sym q))

  ended_both : (a b : List Event) → ended_by printable tree (a ++ b) ≡ cond (ended_by printable tree a) true (ended_by printable tree b)
  unfolding ended_by
  ended_both [] b = refl
  ended_both (writes bytes ∷ a) b = ended_both a b
  ended_both (runs cmd bytes ∷ a) b =
      ap (ends_then (seen_of (run_line printable tree cmd bytes))) (ended_both a b) ∙ ends_both (seen_of (run_line printable tree cmd bytes)) (ended_by printable tree a) (ended_by printable tree b)

  pub quoted_both : (a b : List Event) → EachQuoted printable tree (a ++ b) → EachQuoted printable tree a × (ended_by printable tree a ≡ false → EachQuoted printable tree b)
  unfolding ended_by
  quoted_both [] b q = (tt, λ n. q)
  quoted_both (writes bytes ∷ a) b q = quoted_both a b q
  quoted_both (runs cmd bytes ∷ a) b q = by (seen_of (run_line printable tree cmd bytes)) (quoted_both a b) q.1
    where
      by : (seen : Seen) → (EachQuoted printable tree (a ++ b) → EachQuoted printable tree a × (ended_by printable tree a ≡ false → EachQuoted printable tree b))
          → Unless (ends_then seen false) (EachQuoted printable tree (a ++ b))
          → (QuotedAsIs printable tree bytes × Unless (ends_then seen false) (EachQuoted printable tree a)) × (ends_then seen (ended_by printable tree a) ≡ false → EachQuoted printable tree b)
      by quiet more k = let x = more k in ((q.0, x.0), x.1)
      by (output number said) more k = let x = more k in ((q.0, x.0), x.1)
      by (handed number report) more k = let x = more k in ((q.0, x.0), x.1)
      by (exited said) more k = ((q.0, tt), λ n. absurd (true_is_not_false n))
      by crashed more k = ((q.0, tt), λ n. absurd (true_is_not_false n))

  -- a turn, and those after it if the process goes on
  course_both : (first : Loop) (course : Course) (rest : Loop) (more : Course) → course.prints ≡ printed_by printable tree first.events → course.ends ≡ ended_by printable tree first.events
      → (course.ends ≡ false → CourseAs printable tree rest more) → CourseAs printable tree (turned rest.after (first.events ++ rest.events)) (cond course.ends course (preceded course.prints more))
  course_both first course rest more p q k = by course.ends refl
    where
      whole : cond course.ends course.prints (course.prints ++ more.prints) ≡ printed_by printable tree (first.events ++ rest.events)
      whole = both_printed first.events rest.events course.prints more.prints course.ends p q (λ n. (k n).prints)

      by : (b : Bool) → course.ends ≡ b → CourseAs printable tree (turned rest.after (first.events ++ rest.events)) (cond b course (preceded course.prints more))
      by true e =
          record {
            prints = sym (then_is _ _ _ e) ∙ whole;
            ends = e ∙ sym (ended_both first.events rest.events ∙ then_is _ _ _ (sym q ∙ e));
            after = λ n. absurd (true_is_not_false (sym e ∙ n));
          }
      by false e =
          record {
            prints = sym (else_is _ _ _ e) ∙ whole;
            ends = (k e).ends ∙ sym (ended_both first.events rest.events ∙ else_is _ _ _ (sym q ∙ e));
            after = (k e).after;
          }

module _ (f : Forest) (printable : ℕ → Bool) where
  -- the keys of a line in the Rust's profile: what they print, and where the session stands after them (2.22, 2.23)
  pub keys_printed : (s : Standing) → StandsFor s.image f → Fine s.state → s.state.profile ≡ Rust → (keys : List ℕ)
      → EachQuoted printable (commands_of f) (turns_from s.state keys).events → CourseAs printable (commands_of f) (turns_from s.state keys) (press_keys s keys)
  unfolding press_keys press_key rust_keys printed_by ended_by
  keys_printed s stands fine own [] q = record { prints = refl; ends = refl; after = λ n. refl }
  keys_printed s stands fine own (byte ∷ keys) q =
      let first : Loop = turn_from s.state byte in
      let after : State = (turn_of prompt s.state byte).after in
      let moved : first.after ≡ shell_of after = ap (λ (l : Loop). l.after) (same_turn s.state fine own byte).loop in
      let rest : Loop = rust_keys prompt_without_fs first.after keys in
      let quoted = quoted_both printable (commands_of f) first.events rest.events q in
      let same = key_printed s.image f printable s.state fine own byte (λ e. stands) quoted.0 in
      course_both printable (commands_of f) first (press_key s byte) rest (press_keys (in_state s after) keys) same.0 same.1
      (λ n. subst (λ (sh : Shell). CourseAs printable (commands_of f) (rust_keys prompt_without_fs sh keys) (press_keys (in_state s after) keys)) (sym moved)
      (keys_printed (in_state s after) stands (turn_fine prompt s.state byte fine) (profile_after prompt s.state byte ∙ own) keys
      (subst (λ (sh : Shell). EachQuoted printable (commands_of f) (rust_keys prompt_without_fs sh keys).events) moved (quoted.1 (sym same.1 ∙ n)))))

-- as it is called
laid_as : {a b : List Printed} {e g : Bool} (out : List ℕ) (r : Result Printing PrintRefusal) (out' : List ℕ) → a ≡ b → e ≡ g → Laid a e out r out' → Laid b g out r out'
laid_as out r out' p q l = rw (← p, ← q) l

-- in the Rust's profile (2.22, 2.23)
module _ (h : Session) (image slots : List ℕ) (byte : ℕ) (out : List ℕ) (r : Pressing) (slots' out' : List ℕ) (p : PressingKey h image slots byte out r slots' out')
    (room : key_room ≤ length out) (good : good_state h.editor h.history slots ≡ true) (own : h.editor.profile ≡ Rust) (f : Forest) (stands : is_enter byte ≡ true → StandsFor (image_of h image) f) where
  tested : (b : Bool) → is_enter byte ≡ b → tree_before byte (image_of h image) ≡ Ok tt
  unfolding tree_before
  tested true e = then_is _ _ _ e ∙ forest_good (image_of h image) f (stands e)
  tested false e = else_is _ _ _ e

  pub press_printed : (printable : ℕ → Bool) → EachQuoted printable (commands_of f) (turn_from (state_of h.editor h.history slots) byte).events
      → PrintsAs printable (commands_of f) (turn_from (state_of h.editor h.history slots) byte) out (shell_of (state_of r.session.editor r.session.history slots')) r.answer out'
  press_printed printable plain =
      let s : State = state_of h.editor h.history slots in
      let fine = fine_of h.editor h.history slots good in
      let rust = profile_in h.editor h.history slots own in
      let made = p.pressed room (tested (is_enter byte) refl) good in
      let same = key_printed (image_of h image) f printable s fine rust byte stands plain in
      let after : State = (turn_of prompt s byte).after in
      record {
        state = ap shell_of (ap (λ (x : Session). state_of x.editor x.history slots') made.session ∙ ap (state_of (editor_of after) (history_of after)) made.held ∙ held_state after (turn_fine prompt s byte fine))
            ∙ ap (λ (l : Loop). l.after) (sym (same_turn s fine rust byte).loop);
        lines = laid_as out r.answer out' same.0 same.1 made.lines;
      }
