-- What the contracts of inner functions cite: the parts of an answer, before they are packed.
use Rattle.std.specs.Prelude.{ℕ, ◌≡◌, Ok, Err, Result}
use Rattle.shell.specs.declared.answer.Ran.{Ran}
use Rattle.shell.specs.declared.answer.RunRefusal.{RunRefusal}
use Rattle.shell.specs.declared.answer.Ran.TheVariants.{Nothing, Text, Exit, Handler}
use Rattle.shell.specs.declared.answer.RunRefusal.TheVariants.{BadTree, LineTooLong, NoRoom}
use Rattle.rissemat.specs.declared.pack.Parts.{Parts}

abbrev pub Tells : Parts → ℕ → ℕ → ℕ → ℕ → Type 0
Tells r number value kind second = (r.number ≡ number) × (r.value ≡ value) × (r.kind ≡ kind) × (r.second ≡ second)

-- of a line that was run: the number, which may be that beside a text, and the second value, a handler or 0
abbrev pub run_number : Result Ran RunRefusal → ℕ
run_number (Ok Nothing) = 0
run_number (Ok (Text number n)) = number
run_number (Ok (Exit n)) = 0
run_number (Ok (Handler handler n)) = 0
run_number (Err (BadTree n)) = 1
run_number (Err (LineTooLong n)) = 2
run_number (Err (NoRoom n)) = 9

abbrev pub run_second : Result Ran RunRefusal → ℕ
run_second (Ok Nothing) = 0
run_second (Ok (Text number n)) = 0
run_second (Ok (Exit n)) = 0
run_second (Ok (Handler handler n)) = handler
run_second (Err (BadTree n)) = 0
run_second (Err (LineTooLong n)) = 0
run_second (Err (NoRoom n)) = 0
