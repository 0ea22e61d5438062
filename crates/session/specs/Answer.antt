-- The answers of a session in numbers (STANDARD 10: 1, 9, 12).
use Rattle.std.specs.Prelude.{ℕ, Ok, Err, Result}
use Rattle.session.specs.declared.running.Printing.{Printing}
use Rattle.session.specs.declared.running.PrintRefusal.{PrintRefusal}
use Rattle.session.specs.declared.running.Printing.TheVariants.{Goes, Ends}
use Rattle.session.specs.declared.running.PrintRefusal.TheVariants.{BadTree, BadState, NoRoom}
use Rattle.session.specs.declared.taking.Taken.{Taken}
use Rattle.session.specs.declared.taking.Taken.TheVariants.{Tree, Keys, BadLine, Over, NoRoom as NoBuffer}

-- the refusal's number (STANDARD 10.1; 0: none), and the value that goes with it: the length of what is printed, or what the standard says
abbrev pub number : Result Printing PrintRefusal → ℕ
number (Ok printing) = 0
number (Err (BadTree n)) = 1
number (Err BadState) = 12
number (Err (NoRoom n)) = 9

abbrev pub value : Result Printing PrintRefusal → ℕ
value (Ok (Goes n)) = n
value (Ok (Ends n)) = n
value (Err (BadTree n)) = n
value (Err BadState) = 0
value (Err (NoRoom n)) = n

-- the same of a line; a bad line has a frame 2F and no number of the standard: its value is its own number
abbrev pub line_number : Taken → ℕ
line_number Tree = 0
line_number (Keys n) = 0
line_number (BadLine n) = 0
line_number Over = 0
line_number (NoBuffer n) = 9

abbrev pub line_value : Taken → ℕ
line_value Tree = 0
line_value (Keys n) = n
line_value (BadLine n) = n
line_value Over = 0
line_value (NoBuffer n) = n
