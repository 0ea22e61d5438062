-- Laws of showing: bytes that fit are shown and the state goes on; where they do not fit it stays.
use Rattle.std.specs.Prelude.{Ok, Err, Result}
use Prim.Native.Nat.{ℕ, ◌+◌, ◌^◌, ◌<◌, ◌≤◌, min}
use mathlib.Core.Path.{◌≡◌, refl, sym, ◌∙◌}
use mathlib.Core.Bool.{Bool, true, false, cond}
use mathlib.Core.List.{List}
use lib.Dec.{ltb}
use lib.ListN.{length}
use borrow.Author.Tests.{lt-ltb, le-ltb, ltb-true, ltb-false}
use Rattle.buffer.proofs.Choices.{then_is, else_is}
use Rattle.buffer.specs.Write.{over, over_if_fits}
use Rattle.history.specs.declared.stepping.History.{History}
use Rattle.screen.specs.Redraw.{redraw, greatest_number, room_answer, Redraw}
use Rattle.buffer.specs.declared.show.TooShort.{TooShort}
use Rattle.screen.proofs.Drawing.{needed_exact}
use Rattle.editor.specs.declared.line.Editor.{Editor}
use Rattle.editor.specs.declared.drawing.Pressed.TheVariants.{Shown}
use Rattle.editor.specs.declared.drawing.KeyRefusal.TheVariants.{NoRoom}
use Rattle.editor.specs.Inner.{attempt, key_of, Shows}

module _ {A : Type 0} (bytes : List ℕ) (room : ℕ) (stays goes : A) where
  pub attempt_fits : length bytes ≤ room → attempt bytes room stays goes ≡ goes
  unfolding attempt
  attempt_fits h = else_is _ _ _ (le-ltb room (length bytes) h)

  pub attempt_short : room < length bytes → attempt bytes room stays goes ≡ stays
  unfolding attempt
  attempt_short h = then_is _ _ _ (lt-ltb room (length bytes) h)

-- bytes that were shown, and bytes that were not
module _ (bytes : List ℕ) (stays : Editor) (before : History) (goes : Editor) (history : History) (screen : List ℕ) where
  pub shows_fits : (left : List ℕ) → length bytes ≤ length screen → left ≡ over bytes screen
      → Shows bytes stays before goes history screen (key_of goes history (Ok (Shown (length bytes)))) left
  shows_fits left h e =
      record { made = sym (attempt_fits bytes (length screen) _ _ h); shown = e ∙ sym (attempt_fits bytes (length screen) _ _ h) }

  pub shows_short : (left : List ℕ) → length screen < length bytes → left ≡ screen
      → Shows bytes stays before goes history screen (key_of stays before (Err (NoRoom (length bytes)))) left
  shows_short left h e =
      record { made = sym (attempt_short bytes (length screen) _ _ h); shown = e ∙ sym (attempt_short bytes (length screen) _ _ h) }

-- what each answer of a redraw tells
module _ (prompt content : List ℕ) (cursor : ℕ) (out : List ℕ) where
  bytes : List ℕ
  bytes = redraw prompt content cursor

  abbrev pub ShownBy : Result ℕ TooShort → List ℕ → Type 0
  ShownBy (Ok n) left = (n ≡ length (redraw prompt content cursor)) × (length (redraw prompt content cursor) ≤ length out) × (left ≡ over (redraw prompt content cursor) out)
  ShownBy (Err refusal) left = (refusal.needed ≡ min (length (redraw prompt content cursor)) greatest_number) × (length out < length (redraw prompt content cursor)) × (left ≡ out)

  by_room : (t : Bool) (left : List ℕ) → ltb (length out) (length bytes) ≡ t
      → left ≡ cond t out (over bytes out) → ShownBy (cond t (Err (record { needed = min (length bytes) greatest_number })) (Ok (length bytes))) left
  unfolding bytes
  by_room true left e q = (refl, ltb-true _ _ e, q)
  by_room false left e q = (refl, ltb-false _ _ e, q)

  told : (r : Result ℕ TooShort) (left : List ℕ) → Redraw prompt content cursor out r left → ShownBy r left
  unfolding bytes room_answer over_if_fits
  told r left a = rw a.answer (by_room (ltb (length out) (length (redraw prompt content cursor))) left refl a.bytes)

pub told_as : (prompt x content : List ℕ) (cursor : ℕ) (out left : List ℕ) (r r' : Result ℕ TooShort) → x ≡ content → r ≡ r' → Redraw prompt x cursor out r left
    → ShownBy prompt content cursor out r' left
told_as prompt x content cursor out left r r' p q a = told prompt content cursor out r' left (rw q at (rw p at a))

-- a redraw that fits, and one that does not
module _ (prompt content : List ℕ) (cursor : ℕ) (stays : Editor) (before : History) (goes : Editor) (history : History) (screen left : List ℕ) (n : ℕ) where
  pub redraw_fits : ShownBy prompt content cursor screen (Ok n) left
      → Shows (redraw prompt content cursor) stays before goes history screen (key_of goes history (Ok (Shown n))) left
  redraw_fits t = rw t.0 (shows_fits (redraw prompt content cursor) stays before goes history screen left t.1 t.2)

  pub redraw_short : length prompt + length content ≤ 2 ^ 63 → ShownBy prompt content cursor screen (Err (record { needed = n })) left
      → Shows (redraw prompt content cursor) stays before goes history screen (key_of stays before (Err (NoRoom n))) left
  redraw_short h t =
      let e : n ≡ length (redraw prompt content cursor) = t.0 ∙ needed_exact prompt content cursor h in
      rw e (shows_short (redraw prompt content cursor) stays before goes history screen left t.1 t.2)
