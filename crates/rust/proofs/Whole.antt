-- A whole session in the Rust's profile: the lines of keys that follow a tree print what the Rust's loop does with all their bytes (STANDARD 2.22, 2.23).
use Rattle.std.proofs.Common.{◌≡◌, ℕ, ◌+◌, ◌≤◌, Bool, true, false, cond, List, [], ◌∷◌, ◌++◌, length, sym, refl, ap, ◌∙◌, subst, append_assoc, arith, lt-ltb}
use Rattle.buffer.proofs.Choices.{then_is}
use Rattle.tree.specs.Forest.{Forest}
use Rattle.tree.proofs.Forests.{StandsFor}
use Rattle.keys.specs.declared.standing.Profile.TheVariants.{Rust}
use Rattle.editor.specs.Turns.{State, turn_of}
use Rattle.editor.proofs.Always.{profile_after}
use Rattle.editor.proofs.Fine.{Fine, turn_fine}
use Rattle.session.specs.Prints.{prompt}
use Rattle.session.specs.Lines.{Form, keys, line_form, Standing, with_keys, in_state, take_form, take_line, Course, preceded, press_key, press_keys, on_taking, line_course, session}
use Rattle.rust.specs.Tree.{commands_of}
use Rattle.rust.specs.Loop.{Shell, Loop, turned, prompt_without_fs, rust_key, rust_keys}
use Rattle.rust.specs.Same.{shell_of}
use Rattle.rust.specs.Session.{turns_from, printed_by, EachQuoted, KeyLines, none, more}
use Rattle.rust.proofs.Sessions.{both_printed, quoted_both, keys_printed}

-- the loop goes on from where it stands
keys_both : (p : List ℕ) (sh : Shell) (a b : List ℕ) → rust_keys p sh (a ++ b) ≡ turned (rust_keys p (rust_keys p sh a).after b).after ((rust_keys p sh a).events ++ (rust_keys p (rust_keys p sh a).after b).events)
unfolding rust_keys
keys_both p sh [] b = refl
keys_both p sh (k ∷ a) b =
    ap (λ (l : Loop). turned l.after ((rust_key p sh k).events ++ l.events)) (keys_both p (rust_key p sh k).after a b)
    ∙ ap (turned _) (sym (append_assoc (rust_key p sh k).events (rust_keys p (rust_key p sh k).after a).events _))

-- keys leave the image and the count of lines, and a state within the rules and of the Rust's profile
record Keeps (s after : Standing) : Type 0 where
  image : after.image ≡ s.image
  lines : after.lines ≡ s.lines
  fine : Fine after.state
  own : after.state.profile ≡ Rust

keys_keep : (s : Standing) → Fine s.state → s.state.profile ≡ Rust → (bytes : List ℕ) → Keeps s (press_keys s bytes).after
unfolding press_keys press_key
keys_keep s fine own [] = record { image = refl; lines = refl; fine = fine; own = own }
keys_keep s fine own (k ∷ bytes) =
    let next : Standing = in_state s (turn_of prompt s.state k).after in
    let kept = turn_fine prompt s.state k fine in
    let same = profile_after prompt s.state k ∙ own in
    by (press_key s k).ends kept same (keys_keep next kept same bytes)
  where
    by : (b : Bool) → let after : State = (turn_of prompt s.state k).after in Fine after → after.profile ≡ Rust → Keeps (in_state s after) (press_keys (in_state s after) bytes).after
        → Keeps s (cond b (press_key s k) (preceded (press_key s k).prints (press_keys (in_state s after) bytes))).after
    by true kept same rest = record { image = refl; lines = refl; fine = kept; own = same }
    by false kept same rest = record { image = rest.image; lines = rest.lines; fine = rest.fine; own = rest.own }

-- a line of keys
keys_course : (s : Standing) (line bytes : List ℕ) → line_form line ≡ keys bytes → line_course s line ≡ press_keys (with_keys s) bytes
unfolding line_course take_line take_form on_taking
keys_course s line bytes e = ap (λ (x : Form). on_taking s (take_form s x)) e

module _ (f : Forest) (printable : ℕ → Bool) where
  pub session_printed : (s : Standing) → StandsFor s.image f → Fine s.state → s.state.profile ≡ Rust → {lines : List (List ℕ)} {bytes : List ℕ} → KeyLines lines bytes → s.lines + length lines ≤ 65535
      → EachQuoted printable (commands_of f) (turns_from s.state bytes).events → session s lines ≡ printed_by printable (commands_of f) (turns_from s.state bytes).events
  unfolding session rust_keys printed_by
  session_printed s stands fine own none few q = refl
  session_printed s stands fine own (more line {bytes} {lines} {others} e l) few q =
      let first : Loop = turns_from s.state bytes in
      let rest : Loop = rust_keys prompt_without_fs first.after others in
      let whole : (turns_from s.state (bytes ++ others)).events ≡ first.events ++ rest.events = ap (λ (x : Loop). x.events) (keys_both prompt_without_fs (shell_of s.state) bytes others) in
      let quoted = quoted_both printable (commands_of f) first.events rest.events (subst (EachQuoted printable (commands_of f)) whole q) in
      let course : Course = press_keys (with_keys s) bytes in
      let same = keys_printed f printable (with_keys s) stands fine own bytes quoted.0 in
      let kept = keys_keep (with_keys s) fine own bytes in
      let later : course.ends ≡ false → session course.after lines ≡ printed_by printable (commands_of f) rest.events =
      λ n.
      let moved : shell_of course.after.state ≡ first.after = same.after n in
      let count = kept.lines in
      session_printed course.after (subst (λ (x : List ℕ). StandsFor x f) (sym kept.image) stands) kept.fine kept.own l (omega arith)
      (subst (λ (sh : Shell). EachQuoted printable (commands_of f) (rust_keys prompt_without_fs sh others).events) (sym moved) (quoted.1 (sym same.ends ∙ n)))
      ∙ ap (λ (sh : Shell). printed_by printable (commands_of f) (rust_keys prompt_without_fs sh others).events) moved
      in
      then_is _ _ _ (lt-ltb s.lines 65535 (omega arith))
      ∙ ap (λ (c : Course). cond c.ends c.prints (c.prints ++ session c.after lines)) (keys_course s line bytes e)
      ∙ both_printed printable (commands_of f) first.events rest.events course.prints (session course.after lines) course.ends same.prints same.ends later
      ∙ ap (printed_by printable (commands_of f)) (sym whole)
