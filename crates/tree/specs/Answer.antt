-- The image test's answer in numbers (STANDARD 10: 1, with the frame).
use Rattle.std.specs.Prelude.{ℕ, Ok, Err, Result, ⊤}
use Rattle.tree.specs.declared.check.BadFrame.{BadFrame}

-- the refusal's number (STANDARD 10.1; 0: none), and the value that goes with it
abbrev pub number : Result ⊤ BadFrame → ℕ
number (Ok u) = 0
number (Err refusal) = 1

abbrev pub value : Result ⊤ BadFrame → ℕ
value (Ok u) = 0
value (Err refusal) = refusal.number
