-- The limits of the standard that several crates cite (STANDARD 5.5; 2 of 10.1).
use Rattle.std.specs.Prelude.{ℕ, ◌*◌}

-- the bytes of a line
abbrev pub line_limit : ℕ
line_limit = 1024

-- the bytes of the frames of a line's words: at most four for each of the line's (5.5)
abbrev pub frames_limit : ℕ
frames_limit = 4 * line_limit

-- the greatest value that goes with 2: a longer line is given as this one
abbrev pub value_limit : ℕ
value_limit = 65535

-- the bytes of a text whose length takes two bytes
abbrev pub text_limit : ℕ
text_limit = 65535
