-- The steps come to the whole: whatever pieces the bytes come in and however far each step goes, what they print is what the definition prints.
use Rattle.std.specs.Prelude.{Result}
use Prim.Native.Nat.{ℕ, ◌+◌, ◌-◌, ◌<◌}
use mathlib.Core.Path.{◌≡◌, refl, sym, ap, ◌∙◌}
use mathlib.Core.Bool.{Bool, true, false, cond}
use mathlib.Core.List.{List, [], ◌∷◌, ◌++◌, append_assoc, append-nil}
use native.Mathlib.Omega.{arith}
use lib.Dec.{ltb, eqb}
use lib.ListN.{length}
use borrow.Author.Tests.{lt-ltb, ltb-true, eqb-true}
use Rattle.buffer.proofs.Choices.{then_is, else_is}
use Rattle.frame.specs.House.{LF, ends_in_lF, digits_of, read_house}
use Rattle.frame.specs.Hex.{unhex}
use Rattle.frame.specs.declared.house.HouseRefusal.{HouseRefusal}
use Rattle.session.specs.Prints.{Printed, bad_line, lines_of}
use Rattle.keys.specs.declared.standing.Profile.{Profile}
use Rattle.session.specs.Lines.{form_by, formless, Form, line_form, Standing, Taking, grown, pressing, refused, take_form, take_line, Course, preceded, press_key, press_keys, on_taking, line_course, session}
use Rattle.session.specs.Sizes.{key_room}
use Rattle.session.proofs.Printings.{lines_both}
use Rattle.stream.specs.Bytes.{closes, cut, lines_in, console}
use Rattle.stream.specs.Moves.{Stand, reads, waits, closed, start, onward, rest, after_line, Move, printing, size, press_some, move_by, line_move, Went, stays, printed, take_some, resume, step_by, last}
use Rattle.stream.proofs.Reaches.{go_on, ended_snoc}

-- where steps lead: a stream that reads is before its last line, and what it holds is not at its end
abbrev pub Fit : Stand → Type 0
Fit (reads at held) = (at.lines < 65535) × (ends_in_lF held ≡ false)
Fit (waits at keys) = Unit {0}
Fit closed = Unit {0}

-- nothing is read past line 65,535
late : (at : Standing) (lines : List (List ℕ)) → ltb at.lines 65535 ≡ false → session at lines ≡ []
unfolding session
late at [] e = refl
late at (line ∷ lines) e = else_is _ _ _ e

after_rest : (at : Standing) (bytes : List ℕ) → rest (after_line at) bytes ≡ session at (cut [] bytes)
unfolding after_line rest
after_rest at bytes = by (ltb at.lines 65535) refl
  where
    by : (b : Bool) → ltb at.lines 65535 ≡ b → rest (cond b (reads at []) closed) bytes ≡ session at (cut [] bytes)
    by true e = refl
    by false e = sym (late at (cut [] bytes) e)

after_fit : (at : Standing) → Fit (after_line at)
unfolding after_line ends_in_lF
after_fit at = by (ltb at.lines 65535) refl
  where
    by : (b : Bool) → ltb at.lines 65535 ≡ b → Fit (cond b (reads at []) closed)
    by true e = (ltb-true _ _ e, refl)
    by false e = tt

-- keys
onward_after : (before : List Printed) (course : Course) (further : Standing → List Printed) → onward (preceded before course) further ≡ before ++ onward course further
onward_after before course further = by course.ends
  where
    by : (b : Bool) → cond b (before ++ course.prints) ((before ++ course.prints) ++ further course.after) ≡ before ++ cond b course.prints (course.prints ++ further course.after)
    by true = refl
    by false = append_assoc before course.prints (further course.after)

press_rest : (room : ℕ) (at : Standing) (keys bytes : List ℕ) → rest (waits at keys) bytes ≡ (press_some room at keys).prints ++ rest (press_some room at keys).after bytes
unfolding rest press_some press_keys
press_rest room at [] bytes = sym (after_rest at bytes)
press_rest room at (byte ∷ keys) bytes =
    full (ltb room key_room) (ends (press_key at byte).ends refl (press_rest (room - size (press_key at byte).prints) (press_key at byte).after keys bytes))
  where
    further : Standing → List Printed
    further after = session after (cut [] bytes)

    then : Move
    then = press_some (room - size (press_key at byte).prints) (press_key at byte).after keys

    next : Bool → Move
    next b = cond b (record { prints = (press_key at byte).prints; after = closed }) (printing (press_key at byte).prints then)

    ends : (b : Bool) → (press_key at byte).ends ≡ b → onward (press_keys (press_key at byte).after keys) further ≡ then.prints ++ rest then.after bytes
        → onward (cond b (press_key at byte) (preceded (press_key at byte).prints (press_keys (press_key at byte).after keys))) further ≡ (next b).prints ++ rest (next b).after bytes
    ends true e k = then_is _ _ _ e ∙ sym (append-nil (press_key at byte).prints)
    ends false e k =
        onward_after (press_key at byte).prints (press_keys (press_key at byte).after keys) further
        ∙ ap (λ (l : List Printed). (press_key at byte).prints ++ l) k
        ∙ sym (append_assoc (press_key at byte).prints then.prints (rest then.after bytes))

    full : (b : Bool) → rest (waits at (byte ∷ keys)) bytes ≡ (next (press_key at byte).ends).prints ++ rest (next (press_key at byte).ends).after bytes
        → rest (waits at (byte ∷ keys)) bytes
        ≡ (cond b (record { prints = []; after = waits at (byte ∷ keys) }) (next (press_key at byte).ends)).prints
        ++ rest (cond b (record { prints = []; after = waits at (byte ∷ keys) }) (next (press_key at byte).ends)).after bytes
    full true k = refl
    full false k = k

either_fit : (b : Bool) (m n : Move) → Fit m.after → Fit n.after → Fit (cond b m n).after
either_fit true m n p q = p
either_fit false m n p q = q

press_fit : (room : ℕ) (at : Standing) (keys : List ℕ) → Fit (press_some room at keys).after
unfolding press_some
press_fit room at [] = after_fit at
press_fit room at (byte ∷ keys) =
    either_fit (ltb room key_room) _ _ tt
    (either_fit (press_key at byte).ends (record { prints = (press_key at byte).prints; after = closed })
    (printing (press_key at byte).prints (press_some (room - size (press_key at byte).prints) (press_key at byte).after keys)) tt
    (press_fit (room - size (press_key at byte).prints) (press_key at byte).after keys))

-- a whole line
taken : (room : ℕ) (at : Standing) (t : Taking) (bytes : List ℕ) → onward (on_taking at t) (λ after. session after (cut [] bytes)) ≡ (move_by room t).prints ++ rest (move_by room t).after bytes
unfolding on_taking rest
taken room at (grown after) bytes = sym (after_rest after bytes)
taken room at (pressing keys after) bytes = press_rest room after keys bytes
taken room at (refused number) bytes = refl

line_rest : (room : ℕ) (at : Standing) (line bytes : List ℕ) → at.lines < 65535 → session at (line ∷ cut [] bytes) ≡ (line_move room at line).prints ++ rest (line_move room at line).after bytes
unfolding session line_course line_move
line_rest room at line bytes h = then_is _ _ _ (lt-ltb at.lines 65535 h) ∙ taken room at (take_line at line) bytes

line_fit : (room : ℕ) (at : Standing) (line : List ℕ) → Fit (line_move room at line).after
unfolding line_move
line_fit room at line = by (take_line at line)
  where
    by : (t : Taking) → Fit (move_by room t).after
    by (grown after) = after_fit after
    by (pressing keys after) = press_fit room after keys
    by (refused number) = tt

-- a byte more of a line that it does not end
held_fit : (at : Standing) (held : List ℕ) (byte : ℕ) → Fit (reads at held) → closes (length held) byte ≡ false → Fit (reads at (held ++ (byte ∷ [])))
held_fit at held byte f e = (f.0, ended_snoc held byte ∙ other (eqb byte LF) refl (go_on (length held) byte e).0)
  where
    other : (b : Bool) → eqb byte LF ≡ b → (byte ≡ LF → ⊥) → b ≡ false
    other true p k = absurd (k (eqb-true byte LF p))
    other false p k = refl

-- bytes of a piece: what they print, and what is still to be printed
pub record Comes (s : Stand) (w : Went) (bytes more : List ℕ) : Type 0 where
  pub prints : rest s (bytes ++ more) ≡ w.move.prints ++ rest w.move.after (w.left ++ more)
  pub fit : Fit w.move.after

comes_stay : (s : Stand) (bytes more : List ℕ) → Fit s → Comes s (stays s bytes) bytes more
comes_stay s bytes more f = record { prints = refl; fit = f }

comes_then : (s after : Stand) (before : List Printed) (w : Went) (bytes left more : List ℕ) → rest s (bytes ++ more) ≡ before ++ rest after (left ++ more) → Comes after w left more
    → Comes s (printed before w) bytes more
comes_then s after before w bytes left more e c =
    record {
      prints = e ∙ ap (λ (l : List Printed). before ++ l) c.prints ∙ sym (append_assoc before w.move.prints (rest w.move.after (w.left ++ more)));
      fit = c.fit;
    }

either_comes : (b : Bool) (s : Stand) (v w : Went) (bytes more : List ℕ) → (b ≡ true → Comes s v bytes more) → (b ≡ false → Comes s w bytes more) → Comes s (cond b v w) bytes more
either_comes true s v w bytes more p q = p refl
either_comes false s v w bytes more p q = q refl

take_comes : (room : ℕ) (s : Stand) (piece more : List ℕ) → Fit s → Comes s (take_some room s piece) piece more
unfolding take_some rest cut
take_comes room s [] more f = comes_stay s [] more f
take_comes room closed (byte ∷ piece) more f = comes_stay closed (byte ∷ piece) more f
take_comes room (waits at keys) (byte ∷ piece) more f = comes_stay (waits at keys) (byte ∷ piece) more f
take_comes room (reads at held) (byte ∷ piece) more f =
    let line : List ℕ = held ++ (byte ∷ []) in
    let move : Move = line_move room at line in
    either_comes (ltb room key_room) _ _ _ _ _ (λ e. comes_stay (reads at held) (byte ∷ piece) more f)
    (λ e. either_comes (closes (length held) byte) _ _ _ _ _
    (λ c. comes_then (reads at held) move.after move.prints (take_some (room - size move.prints) move.after piece) (byte ∷ piece) piece more
    (ap (session at) (then_is _ _ _ c) ∙ line_rest room at line (piece ++ more) f.0) (take_comes (room - size move.prints) move.after piece more (line_fit room at line)))
    (λ c. let k = take_comes room (reads at line) piece more (held_fit at held byte f c) in record { prints = ap (session at) (else_is _ _ _ c) ∙ k.prints; fit = k.fit }))

-- keys that wait, and bytes
resume_rest : (room : ℕ) (s : Stand) (bytes : List ℕ) → rest s bytes ≡ (resume room s).prints ++ rest (resume room s).after bytes
resume_rest room (reads at held) bytes = refl
resume_rest room (waits at keys) bytes = press_rest room at keys bytes
resume_rest room closed bytes = refl

resume_fit : (room : ℕ) (s : Stand) → Fit s → Fit (resume room s).after
resume_fit room (reads at held) f = f
resume_fit room (waits at keys) f = press_fit room at keys
resume_fit room closed f = tt

-- ONE STEP: what it prints comes next, and what is still to be printed then is what the definition prints after it
pub step_comes : (room : ℕ) (s : Stand) (piece more : List ℕ) → Fit s → Comes s (step_by room s piece) piece more
unfolding step_by
step_comes room s piece more f =
    comes_then s (resume room s).after (resume room s).prints _ piece piece more (resume_rest room s (piece ++ more))
    (take_comes (room - size (resume room s).prints) (resume room s).after piece more (resume_fit room s f))

-- THE INPUT'S END
unended_form : (line : List ℕ) → ends_in_lF line ≡ false → line_form line ≡ formless
unfolding line_form read_house
unended_form line e = ap (λ (x : Result ℕ HouseRefusal). form_by x (unhex (digits_of line))) (else_is _ _ _ e)

bad_line_lem : (at : Standing) (line : List ℕ) → ends_in_lF line ≡ false
    → cond (line_course at line).ends (line_course at line).prints ((line_course at line).prints ++ session (line_course at line).after []) ≡ bad_line (at.lines + 1) ∷ []
unfolding line_course take_line take_form on_taking
bad_line_lem at line e =
    ap (λ (f : Form). cond (on_taking at (take_form at f)).ends (on_taking at (take_form at f)).prints ((on_taking at (take_form at f)).prints ++ session (on_taking at (take_form at f)).after []))
    (unended_form line e)

pub last_comes : (at : Standing) (held : List ℕ) → Fit (reads at held) → rest (reads at held) [] ≡ last (reads at held)
unfolding rest cut session
last_comes at [] f = refl
last_comes at (byte ∷ held) f = then_is _ _ _ (lt-ltb at.lines 65535 f.0) ∙ bad_line_lem at (byte ∷ held) f.1

-- A RUN: steps of any size over pieces of any size, up to the session's end or the input's
pub data Run : Stand → List ℕ → List ℕ → Type 0 where
  stops : (bytes : List ℕ) → Run closed bytes []
  finishes : (at : Standing) (held : List ℕ) → Run (reads at held) [] (lines_of (last (reads at held)))
  steps : (room : ℕ) (s : Stand) (piece more out : List ℕ) → Run (step_by room s piece).move.after ((step_by room s piece).left ++ more) out
      → Run s (piece ++ more) (lines_of (step_by room s piece).move.prints ++ out)

run_comes : (s : Stand) (bytes out : List ℕ) → Fit s → Run s bytes out → out ≡ lines_of (rest s bytes)
unfolding lines_of rest
run_comes _ bytes _ f (stops _) = refl
run_comes _ _ _ f (finishes at held) = ap lines_of (sym (last_comes at held f))
run_comes _ _ _ f (steps room s piece more out r) =
    let c = step_comes room s piece more f in
    ap (λ (l : List ℕ). lines_of (step_by room s piece).move.prints ++ l) (run_comes _ _ out c.fit r)
    ∙ sym (lines_both (step_by room s piece).move.prints (rest (step_by room s piece).move.after ((step_by room s piece).left ++ more)))
    ∙ ap lines_of (sym c.prints)

-- from the beginning on it writes what the definition says of all bytes that were read
pub whole : (profile : Profile) (bytes out : List ℕ) → Run (start profile) bytes out → out ≡ console profile bytes
unfolding console lines_in rest ends_in_lF
whole profile bytes out r = run_comes (start profile) bytes out (omega arith, refl) r
