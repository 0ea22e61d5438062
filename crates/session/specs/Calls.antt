-- What the calls of a session answer and leave, by the parts in which the code holds one (STANDARD 2.3, 10.19, 11.12).
use Rattle.std.specs.Prelude.{ℕ, ◌+◌, ◌≤◌, ◌<◌, ◌≡◌, Bool, true, false, cond, List, [], ◌∷◌, eqb, ltb, length, take, Ok, Err, Result, ⊤}
use Rattle.buffer.specs.Write.{over, over_at}
use Rattle.frame.specs.House.{house_leaves}
use Rattle.image.specs.Frames.{Frame}
use Rattle.image.specs.Reading.{read_first}
use Rattle.tree.specs.Images.{frames_of}
use Rattle.tree.specs.Rules.{image_limit, check_tree}
use Rattle.tree.specs.Steps.{start_walk}
use Rattle.tree.specs.declared.check.BadFrame.{BadFrame}
use Rattle.tree.specs.declared.walk.Walk.{Walk}
use Rattle.tree.specs.Growth.{admits, passed_by}
use Rattle.history.specs.Journal.{no_entries, record_of}
use Rattle.keys.specs.declared.standing.Profile.{Profile}
use Rattle.editor.specs.declared.drawing.KeyAnswer.{KeyAnswer}
use Rattle.editor.specs.Line.{fresh_editor}
use Rattle.editor.specs.Turns.{State, Turn, turn_of}
use Rattle.editor.specs.Answer.{state_of, editor_of, history_of, slots_of, good_state}
use Rattle.session.specs.Prints.{Printed, lines_of, bad_line, prompt, key_prints, key_ends}
use Rattle.session.specs.Lines.{Form, tree, keys, formless, line_form}
use Rattle.session.specs.Sizes.{last_line, frame_room, key_room}
use Rattle.session.specs.declared.running.Printing.{Printing}
use Rattle.session.specs.declared.running.PrintRefusal.{PrintRefusal}
use Rattle.session.specs.declared.running.Printing.TheVariants.{Goes, Ends}
use Rattle.session.specs.declared.running.PrintRefusal.TheVariants.{BadTree, BadState, NoRoom}
use Rattle.session.specs.declared.standing.Session.{Session}
use Rattle.session.specs.declared.pressing.Pressing.{Pressing}
use Rattle.session.specs.declared.taking.Taken.TheVariants.{Tree, Keys, BadLine, Over, NoRoom as NoBuffer}
use Rattle.session.specs.declared.taking.Took.{Took}

-- no line is read, and keys are read as the profile has them (2.3, 2.23)
abbrev pub fresh : Profile → Session
fresh profile = record { editor = fresh_editor profile; history = record_of no_entries; walk = start_walk; keyed = false; lines = 0 }

-- a session with another part; a line more is counted where one is taken
abbrev pub with_state : Session → State → Session
with_state h s = record { editor = editor_of s; history = history_of s; walk = h.walk; keyed = h.keyed; lines = h.lines }

abbrev pub with_key : Session → KeyAnswer → Session
with_key h k = record { editor = k.editor; history = k.history; walk = h.walk; keyed = h.keyed; lines = h.lines }

abbrev pub with_walk : Session → Walk → Session
with_walk h walk = record { editor = h.editor; history = h.history; walk = walk; keyed = h.keyed; lines = h.lines + 1 }

abbrev pub with_keys : Session → Session
with_keys h = record { editor = h.editor; history = h.history; walk = h.walk; keyed = true; lines = h.lines + 1 }

-- a line that is refused, with its number from 1
abbrev pub refusing : Session → Took
refusing h = record { session = h; answer = BadLine (h.lines + 1) }

-- a tree frame, keys, or neither (10.19)
unfoldable pub took_by : Session → List ℕ → Form → Took
took_by h image (tree frame) =
    cond h.keyed (refusing h)
    (cond (admits h.walk frame image) (record { session = with_walk h (passed_by h.walk (read_first frame)); answer = Tree })
    (refusing h))
took_by h image (keys bytes) = record { session = with_keys h; answer = Keys (1 + length bytes) }
took_by h image formless = refusing h

-- (10.19)
unfoldable pub image_by : Session → List ℕ → Form → List ℕ
image_by h image (tree frame) = cond h.keyed image (cond (admits h.walk frame image) (over_at frame image h.walk.at) image)
image_by h image (keys bytes) = image
image_by h image formless = image

-- nothing is read past line 65,535, nor into buffers that a frame or an image may not fit: so many bytes are needed (10.19, 11.12)
unfoldable pub on_line : {A : Type 0} → Session → List ℕ → List ℕ → A → (ℕ → A) → A → A
on_line h image frame late narrow read =
    cond (ltb h.lines last_line)
    (cond (ltb (length frame) frame_room) (narrow frame_room)
    (cond (ltb (length image) image_limit) (narrow image_limit)
    read))
    late

-- (10.19)
pub record TakingLine (h : Session) (line image frame : List ℕ) (r : Took) (image' frame' : List ℕ) : Type 0 where
  pub answer : r ≡ on_line h image frame (record { session = h; answer = Over }) (λ n. record { session = h; answer = NoBuffer n }) (took_by h image (line_form line))
  pub built : image' ≡ on_line h image frame image (λ n. image) (image_by h image (line_form line))
  pub read : frame' ≡ on_line h image frame frame (λ n. frame) (house_leaves line frame)

-- the image so far, and the turn that a key takes
abbrev pub image_of : Session → List ℕ → List ℕ
image_of h image = take h.walk.at image

abbrev pub turn_in : Session → List ℕ → ℕ → Turn
turn_in h slots byte = turn_of prompt (state_of h.editor h.history slots) byte

-- 0D, 0A: no other byte runs a line, so the tree is tested before these alone
unfoldable pub is_enter : ℕ → Bool
is_enter byte = cond (eqb byte 0x0D) true (eqb byte 0x0A)

-- (10.19)
unfoldable pub tree_before : ℕ → List ℕ → Result ⊤ BadFrame
tree_before byte image = cond (is_enter byte) (check_tree image) (Ok tt)

-- what was printed from the front on, and whether it is the last
abbrev pub printing : Bool → ℕ → Result Printing PrintRefusal
printing true n = Ok (Ends n)
printing false n = Ok (Goes n)

pub record Laid (prints : List Printed) (ends : Bool) (out : List ℕ) (r : Result Printing PrintRefusal) (left : List ℕ) : Type 0 where
  pub answer : r ≡ printing ends (length (lines_of prints))
  pub bytes : left ≡ over (lines_of prints) out

-- a refusal keeps the session and every byte
pub record Kept (h : Session) (slots out : List ℕ) (r : Pressing) (slots' out' : List ℕ) : Type 0 where
  pub session : r.session ≡ h
  pub held : slots' ≡ slots
  pub bytes : out' ≡ out

-- a key that is taken under the frames of a tree
pub record Prints (h : Session) (frames : List Frame) (t : Turn) (out : List ℕ) (r : Pressing) (slots' out' : List ℕ) : Type 0 where
  pub session : r.session ≡ with_state h t.after
  pub held : slots' ≡ slots_of t.after
  pub lines : Laid (key_prints frames t) (key_ends frames t) out r.answer out'

-- 9, then 1, then 12, or the key is taken (10.19)
pub record PressingKey (h : Session) (image slots : List ℕ) (byte : ℕ) (out : List ℕ) (r : Pressing) (slots' out' : List ℕ) : Type 0 where
  pub short : length out < key_room → (r.answer ≡ Err (NoRoom key_room)) × Kept h slots out r slots' out'
  pub bad_tree : key_room ≤ length out → (n : ℕ) → tree_before byte (image_of h image) ≡ Err (record { number = n }) → (r.answer ≡ Err (BadTree n)) × Kept h slots out r slots' out'
  pub bad_state : key_room ≤ length out → tree_before byte (image_of h image) ≡ Ok tt → good_state h.editor h.history slots ≡ false
      → (r.answer ≡ Err BadState) × Kept h slots out r slots' out'
  pub pressed : key_room ≤ length out → tree_before byte (image_of h image) ≡ Ok tt → good_state h.editor h.history slots ≡ true
      → Prints h (frames_of (image_of h image)) (turn_in h slots byte) out r slots' out'

-- the 2F of a line, which is the last that is printed (10.19)
pub record RefusingLine (number : ℕ) (out : List ℕ) (r : Result Printing PrintRefusal) (out' : List ℕ) : Type 0 where
  pub short : length out < 7 → (r ≡ Err (NoRoom 7)) × (out' ≡ out)
  pub told : 7 ≤ length out → Laid (bad_line number ∷ []) true out r out'
