-- What frames of pairs keep: a frame of what an entry can hold is short.
use Rattle.std.specs.Prelude.{ℕ, ◌^◌, ◌≤◌, ◌<◌, ◌≡◌, ◌+◌, List, length}
use Rattle.std.proofs.Common.{arith, length-append}
use Rattle.frame.specs.Text.{text_of}
use Rattle.frame.proofs.Texts.{length_text_of}
use Rattle.frame.proofs.Frames.{length_frame_of}
use Rattle.report.specs.Report.{option_frame, flag_frame}

-- an entry has 16 bits for the length of its key and 13 for that of its value
abbrev pub Short : (List ℕ × List ℕ → List ℕ) → Type 0
Short frame = (k v : List ℕ) → length k < 256 ^ 2 → length v < 0x2000 → length (frame (k, v)) ≤ 0x20000

-- how long the frames of a pair are
pub length_option : (k v : List ℕ) → length (option_frame (k, v)) ≡ 1 + length (text_of 2 k) + length (text_of 2 v)
unfolding option_frame
length_option k v = let s = length-append (text_of 2 k) (text_of 2 v) in omega arith

pub length_flag : (k v : List ℕ) → length (flag_frame (k, v)) ≡ 3 + length k
unfolding flag_frame
length_flag k v = length_frame_of 0x13 k

pub option_short : Short option_frame
option_short k v p q = omega (arith, length_option k v, length_text_of 2 k, length_text_of 2 v)

pub flag_short : Short flag_frame
flag_short k v p q = omega (arith, length_flag k v)
