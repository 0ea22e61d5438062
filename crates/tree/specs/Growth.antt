-- An image that grows by one frame at a time (STANDARD 6 and 11).
use Rattle.std.specs.Prelude.{ℕ, ◌+◌, ◌≡◌, Bool, true, false, cond, List, ◌++◌, leb, eqb, length, Ok, Err, Result, ⊤, Option}
use Rattle.buffer.specs.Write.{over_at}
use Rattle.image.specs.Limits.{both}
use Rattle.image.specs.Reading.{Read, read, broken, ended, read_first}
use Rattle.tree.specs.Rules.{Seen, obeys, check_tree, image_limit}
use Rattle.tree.specs.Steps.{seen_by, passed, step_if}
use Rattle.tree.specs.declared.check.BadFrame.{BadFrame}
use Rattle.tree.specs.declared.walk.Walk.{Walk}

-- bytes that are one frame and nothing else
abbrev pub fills : ℕ → Read → Bool
fills size (read f n) = eqb n size
fills size broken = false
fills size ended = false

-- (6.21, 11.9)
unfoldable pub one_frame : List ℕ → Bool
one_frame bytes = fills (length bytes) (read_first bytes)

abbrev pub is_good : Result ⊤ BadFrame → Bool
is_good (Ok u) = true
is_good (Err refusal) = false

-- whether an image takes these bytes: they are one frame, and with it the image is well-formed (6.21, 11.9)
unfoldable pub takes : List ℕ → List ℕ → Bool
takes image bytes = both (one_frame bytes) (is_good (check_tree (image ++ bytes)))

-- the same by a walk that has passed the image, so that the image is not read again: its numbers are in range, there is room, and the frame
-- obeys after what the walk has seen
unfoldable pub has_room : Walk → ℕ → ℕ → Bool
has_room walk size room = both (leb walk.deep 8) (both (leb (walk.at + size) image_limit) (leb (walk.at + size) room))

abbrev pub obeys_by : Seen → Read → Bool
obeys_by seen (read f n) = obeys seen f
obeys_by seen broken = false
obeys_by seen ended = false

-- (6.21)
unfoldable pub admits : Walk → List ℕ → List ℕ → Bool
admits walk bytes buffer =
    both (has_room walk (length bytes) (length buffer)) (both (obeys_by (seen_by buffer walk) (read_first bytes)) (one_frame bytes))

abbrev pub passed_by : Walk → Read → Walk
passed_by walk (read f n) = passed walk f n
passed_by walk broken = walk
passed_by walk ended = walk

-- One frame more: the walk after it. A refusal leaves the buffer as it was. The answer says no more than whether it was taken: a frame that comes by itself has no number in the table of the standard. In a session the line that
-- held it is the console's to answer, by a frame 2F with the line's number; an image that is lent whole is refused by 1 with the frame's number.
-- (6.21)
pub record Grows (walk : Walk) (frame buffer : List ℕ) (r : Option Walk) (left : List ℕ) : Type 0 where
  pub answer : r ≡ step_if (admits walk frame buffer) (passed_by walk (read_first frame))
  pub bytes : left ≡ cond (admits walk frame buffer) (over_at frame buffer walk.at) buffer
