-- Demand 1 for a session: each call's refusals, with number, value, and what stands in each lent buffer and state; and that from the fresh session on none is ever met but a bad line.
use Rattle.std.specs.Prelude.{Ok, Err, Result}
use Prim.Native.Nat.{ℕ, ◌≤◌, ◌<◌}
use mathlib.Core.Path.{◌≡◌, ap, ◌∙◌}
use mathlib.Core.Bool.{true, false}
use mathlib.Core.List.{List}
use lib.ListN.{length}
use Rattle.buffer.proofs.Choices.{then_is}
use Rattle.tree.specs.Rules.{check_tree}
use Rattle.history.specs.Journal.{no_entries, slots_of as journal_slots}
use Rattle.editor.specs.Answer.{good_state}
use Rattle.keys.specs.declared.standing.Profile.{Profile}
use Rattle.session.specs.Lines.{Standing, beginning, take_line, press_key}
use Rattle.session.specs.declared.running.Printing.{Printing}
use Rattle.session.specs.declared.running.PrintRefusal.{PrintRefusal}
use Rattle.session.specs.Calls.{fresh, TakingLine, image_of, is_enter, tree_before, Laid, Kept, PressingKey, RefusingLine}
use Rattle.session.specs.Held.{Holds}
use Rattle.session.specs.Sizes.{key_room}
use Rattle.session.specs.Answer.{number, value, line_number, line_value}
use Rattle.session.specs.declared.standing.Session.{Session}
use Rattle.session.specs.declared.taking.Taken.TheVariants.{NoRoom}
use Rattle.session.specs.declared.taking.Took.{Took}
use Rattle.session.specs.declared.pressing.Pressing.{Pressing}
use Rattle.stream.specs.Bytes.{line_room, console}
use Rattle.stream.specs.Moves.{Stand, start, step_by}
use Rattle.stream.specs.Held.{starting, stand_of, Sound}
use Rattle.stream.proofs.Standings.{start_sound, start_stands}
use Rattle.stream.proofs.Whole.{Fit, Comes, step_comes, Run, whole}
use Rattle.session.proofs.Takings.{frame_narrow, image_narrow}
use Rattle.session.proofs.Held.{holds_fresh, key_held}
use Rattle.session.proofs.Followed.{Brings, line_held}

-- PRESS: 9, then 1 at a 0D or a 0A, then 12; each keeps the session and every byte
module _ (h : Session) (image slots : List ℕ) (byte : ℕ) (out : List ℕ) (r : Pressing) (slots' out' : List ℕ) (p : PressingKey h image slots byte out r slots' out') where
  pub press_9 : length out < key_room → (number r.answer ≡ 9) × (value r.answer ≡ key_room) × Kept h slots out r slots' out'
  press_9 e = (ap number (p.short e).0, ap value (p.short e).0, (p.short e).1)

  pub press_1 : key_room ≤ length out → (n : ℕ) → is_enter byte ≡ true → check_tree (image_of h image) ≡ Err (record { number = n })
      → (number r.answer ≡ 1) × (value r.answer ≡ n) × Kept h slots out r slots' out'
  unfolding tree_before
  press_1 m n e f = let told = p.bad_tree m n (then_is _ _ _ e ∙ f) in (ap number told.0, ap value told.0, told.1)

  pub press_12 : key_room ≤ length out → tree_before byte (image_of h image) ≡ Ok tt → good_state h.editor h.history slots ≡ false
      → (number r.answer ≡ 12) × (value r.answer ≡ 0) × Kept h slots out r slots' out'
  press_12 m g e = let told = p.bad_state m g e in (ap number told.0, ap value told.0, told.1)

-- TAKE_LINE: 9 where the buffer for a frame is too short, then where the one for the image is; both keep the session and every byte
module _ (h : Session) (line image frame : List ℕ) (r : Took) (image' frame' : List ℕ) (p : TakingLine h line image frame r image' frame')
    (early : h.lines < 65535) where
  abbrev pub Needs : ℕ → Type 0
  Needs n = (line_number r.answer ≡ 9) × (line_value r.answer ≡ n) × (r.session ≡ h) × (image' ≡ image) × (frame' ≡ frame)

  needs_by : (n : ℕ) → r ≡ record { session = h; answer = NoRoom n } → image' ≡ image → frame' ≡ frame → Needs n
  needs_by n e k l = (ap (λ (x : Took). line_number x.answer) e, ap (λ (x : Took). line_value x.answer) e, ap (λ (x : Took). x.session) e, k, l)

  pub line_9 : length frame < 512 → Needs 512
  line_9 l =
      needs_by 512 (p.answer ∙ frame_narrow h line image frame early l _ _ _) (p.built ∙ frame_narrow h line image frame early l _ _ _)
      (p.read ∙ frame_narrow h line image frame early l _ _ _)

  pub line_9_image : 512 ≤ length frame → length image < 32768 → Needs 32768
  line_9_image w l =
      needs_by 32768 (p.answer ∙ image_narrow h line image frame early w l _ _ _) (p.built ∙ image_narrow h line image frame early w l _ _ _)
      (p.read ∙ image_narrow h line image frame early w l _ _ _)

-- REFUSE: 9
pub refuse_9 : (n : ℕ) (out : List ℕ) (r : Result Printing PrintRefusal) (out' : List ℕ) → RefusingLine n out r out' → length out < 7 → (number r ≡ 9) × (value r ≡ 7) × (out' ≡ out)
refuse_9 n out r out' p e = (ap number (p.short e).0, ap value (p.short e).0, (p.short e).1)

-- FROM FRESH: a session that is held stays held, and each line and each key is answered as the definitions say
pub begins : (profile : Profile) (image : List ℕ) → Holds (beginning profile) (fresh profile) image (journal_slots no_entries)
begins = holds_fresh

module _ (s : Standing) (h : Session) (image slots : List ℕ) (k : Holds s h image slots) where
  pub lines : 32768 ≤ length image → (line frame : List ℕ) (r : Took) (image' frame' : List ℕ) → s.lines < 65535 → 512 ≤ length frame → TakingLine h line image frame r image' frame'
      → Brings (take_line s line) image slots r image' frame'
  lines = line_held s h image slots k

  pub keys : (byte : ℕ) (out : List ℕ) (r : Pressing) (slots' out' : List ℕ) → key_room ≤ length out → PressingKey h image slots byte out r slots' out'
      → Laid (press_key s byte).prints (press_key s byte).ends out r.answer out' × Holds (press_key s byte).after r.session image slots'
  keys = key_held s h image slots k

-- THE PROGRAM'S BYTES: `console profile bytes` is all that is written for all that is read, bytes cut into lines, the lines a session, a house line a frame. A stream that
-- begins with slots of zeros stands at the start and is one that a step can be made of, and each step leaves one (`Stepped`).
pub stream_begins : (profile : Profile) (line image : List ℕ) → length line ≡ line_room → length image ≡ 32768
    → Sound (starting profile) line image (journal_slots no_entries) × (stand_of (starting profile) line image (journal_slots no_entries) ≡ start profile)
stream_begins profile line image l i = (start_sound profile line image l i, start_stands profile line image)

-- a step prints what the definition prints next, whatever bytes may follow the piece, and what is still to be printed then is printed from where it leads
pub step_next : (room : ℕ) (s : Stand) (piece more : List ℕ) → Fit s → Comes s (step_by room s piece) piece more
step_next = step_comes

-- steps of any size over pieces of any size, up to the session's end or the input's, write the whole of it
pub program : (profile : Profile) (bytes out : List ℕ) → Run (start profile) bytes out → out ≡ console profile bytes
program = whole
