-- Worked examples: the reports of M9 and M14, the fault of M10, byte for byte.
use Rattle.std.specs.Prelude.{Ok, Err}
use Prim.Native.Nat.{ℕ}
use mathlib.Core.Path.{◌≡◌, refl}
use mathlib.Core.List.{List, [], ◌∷◌}
use Rattle.buffer.specs.Numbers.{number_bytes}
use Rattle.frame.specs.Text.{text_of}
use Rattle.frame.specs.Framed.{frame_of}
use Rattle.frame.specs.Series.{runs}
use Rattle.report.specs.Report.{option_frame, flag_frame, report_of, fault_of}
use Rattle.report.specs.Inner.{dashed, report_answer}

-- the words `set`, `config`, `long` and `x`
set : List ℕ
set = 0x73 ∷ 0x65 ∷ 0x74 ∷ []

config : List ℕ
config = 0x63 ∷ 0x6F ∷ 0x6E ∷ 0x66 ∷ 0x69 ∷ 0x67 ∷ []

long : List ℕ
long = 0x6C ∷ 0x6F ∷ 0x6E ∷ 0x67 ∷ []

x : List ℕ
x = 0x78 ∷ []

-- M9, `set -lc x`: the path word `set`, the option config = x, the flag long
m9 : report_of (set ∷ []) ((config, x) ∷ []) ((long, []) ∷ []) []
    ≡ 0x11 ∷ 0x00 ∷ 0x03 ∷ 0x73 ∷ 0x65 ∷ 0x74
    ∷ 0x12 ∷ 0x00 ∷ 0x06 ∷ 0x63 ∷ 0x6F ∷ 0x6E ∷ 0x66 ∷ 0x69 ∷ 0x67 ∷ 0x00 ∷ 0x01 ∷ 0x78
    ∷ 0x13 ∷ 0x00 ∷ 0x04 ∷ 0x6C ∷ 0x6F ∷ 0x6E ∷ 0x67
    ∷ []
unfolding report_of runs option_frame flag_frame frame_of text_of number_bytes set config long x
m9 = refl

-- M14, `set -c x -`: the option, and the positional `-`
m14 : report_of (set ∷ []) ((config, x) ∷ []) [] ((0x2D ∷ []) ∷ [])
    ≡ 0x11 ∷ 0x00 ∷ 0x03 ∷ 0x73 ∷ 0x65 ∷ 0x74
    ∷ 0x12 ∷ 0x00 ∷ 0x06 ∷ 0x63 ∷ 0x6F ∷ 0x6E ∷ 0x66 ∷ 0x69 ∷ 0x67 ∷ 0x00 ∷ 0x01 ∷ 0x78
    ∷ 0x14 ∷ 0x00 ∷ 0x01 ∷ 0x2D
    ∷ []
unfolding report_of runs option_frame flag_frame frame_of text_of number_bytes set config x
m14 = refl

-- M10, `set -cl x`: the fault's text is `-c`; it takes five bytes, and four are no room
m10 : fault_of (dashed 1 (0x63 ∷ [])) ≡ 0x1E ∷ 0x00 ∷ 0x02 ∷ 0x2D ∷ 0x63 ∷ []
unfolding fault_of dashed frame_of text_of number_bytes
m10 = refl

fits : report_answer (fault_of (dashed 1 (0x63 ∷ []))) 5 ≡ Ok 5
unfolding report_answer fault_of dashed frame_of text_of number_bytes
fits = refl

short : report_answer (fault_of (dashed 1 (0x63 ∷ []))) 4 ≡ Err (record { needed = 5 })
unfolding report_answer fault_of dashed frame_of text_of number_bytes
short = refl
