-- The limits of a session, and how many bytes a key prints at most, each number once (STANDARD 10.19, 11.14).
use Rattle.std.specs.Prelude.{ℕ}

-- the last line that is read: `Session::LAST_LINE`
abbrev pub last_line : ℕ
last_line = 65535

-- the bytes of a frame that is read: `Session::FRAME_ROOM`
abbrev pub frame_room : ℕ
frame_room = 512

-- room for what a key shows, and for the kind before it
abbrev pub screen_room : ℕ
screen_room = 1024

-- a frame with its kind, and the text that stands in one after the kind and a handler's number
abbrev pub frame_size : ℕ
frame_size = 65536

abbrev pub text_size : ℕ
text_size = 65533

-- as house lines: the line feed of Enter, a frame, the prompt
abbrev pub feed_line : ℕ
feed_line = 5

abbrev pub frame_line : ℕ
frame_line = 131073

abbrev pub prompt_line : ℕ
prompt_line = 23

-- what a line that is run prints, with the prompt after it; and with the line feed before it, what a key prints
abbrev pub answer_room : ℕ
answer_room = 131096

-- (10.19, 11.14)
abbrev pub key_room : ℕ
key_room = 131101
