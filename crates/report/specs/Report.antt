-- The report of a parsed command, and the frame of a fault (STANDARD 8).
use Rattle.std.specs.Prelude.{ℕ, List, ◌∷◌, ◌++◌}
use Rattle.frame.specs.Text.{text_of}
use Rattle.frame.specs.Framed.{frame_of}
use Rattle.frame.specs.Series.{runs}
use Rattle.table.specs.Map.{Map}

-- 12: an option, its key and then its value (8.3, 8.4)
unfoldable pub option_frame : List ℕ × List ℕ → List ℕ
option_frame e = 0x12 ∷ (text_of 2 e.0 ++ text_of 2 e.1)

-- 13: a flag, its key alone (8.4)
unfoldable pub flag_frame : List ℕ × List ℕ → List ℕ
flag_frame e = frame_of 0x13 e.0

-- one frame for each 11 path word, 12 option, 13 flag, 14 positional, in that order (8.4, 8.5)
unfoldable pub report_of : List (List ℕ) → Map → Map → List (List ℕ) → List ℕ
report_of path options flags positionals =
    runs (frame_of 0x11) path ++ (runs option_frame options ++ (runs flag_frame flags ++ runs (frame_of 0x14) positionals))

-- 1E: a fault, with its text (8.4, 8.6)
unfoldable pub fault_of : List ℕ → List ℕ
fault_of text = frame_of 0x1E text
