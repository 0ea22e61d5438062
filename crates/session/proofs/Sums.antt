-- The numbers of Sizes are the sums that they are said to be.
use Prim.Native.Nat.{◌+◌, ◌*◌}
use mathlib.Core.Path.{◌≡◌, refl}
use Rattle.session.specs.Sizes.{frame_size, text_size, feed_line, frame_line, prompt_line, answer_room, key_room}

text_size_lem : text_size + 3 ≡ frame_size
text_size_lem = refl

frame_line_lem : 2 * frame_size + 1 ≡ frame_line
frame_line_lem = refl

answer_room_lem : frame_line + prompt_line ≡ answer_room
answer_room_lem = refl

key_room_lem : feed_line + answer_room ≡ key_room
key_room_lem = refl
