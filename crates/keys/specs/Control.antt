-- The bytes of a control sequence, one at a time (STANDARD 2.15, 2.24, 2.25, 4.2): how far it is read, and what its final byte does.
use Rattle.std.specs.Prelude.{ℕ, ◌+◌, Bool, false, cond, leb, eqb}
use Rattle.keys.specs.declared.standing.Action.{Action}
use Rattle.keys.specs.declared.standing.Action.TheVariants.{Nothing, Up, Down, Right, Left, Home, End, Delete}
use Rattle.keys.specs.declared.standing.Progress.{Progress}
use Rattle.keys.specs.Modes.{other}

-- a byte from one to another
unfoldable pub between : ℕ → ℕ → ℕ → Bool
between low high byte = cond (leb low byte) (leb byte high) false

-- 20 to 3F go on, 40 to 7E end a sequence (2.24)
abbrev pub goes_on : ℕ → Bool
goes_on byte = between 0x20 0x3F byte

abbrev pub is_final : ℕ → Bool
is_final byte = between 0x40 0x7E byte

-- A up, B down, C right, D left (2.15)
unfoldable pub arrow_of : ℕ → Action
arrow_of byte = cond (eqb byte 0x41) Up (cond (eqb byte 0x42) Down (cond (eqb byte 0x43) Right (cond (eqb byte 0x44) Left Nothing)))

-- H home and F end beside them (2.25)
unfoldable pub letter : ℕ → Action
letter byte = cond (eqb byte 0x48) Home (cond (eqb byte 0x46) End (arrow_of byte))

-- `~` by its parameter (2.25)
unfoldable pub tilde : ℕ → Action
tilde n = cond (eqb n 1) Home (cond (eqb n 7) Home (cond (eqb n 4) End (cond (eqb n 8) End (cond (eqb n 3) Delete Nothing))))

-- a final byte, by the parameter before it; a letter acts with none and with 1 (2.25)
unfoldable pub ended : ℕ → ℕ → Action
ended n byte = cond (eqb byte 0x7E) (tilde n) (cond (leb n 1) (letter byte) Nothing)

-- the parameter that a first byte makes: its number, if it is a digit that counts (4.2)
unfoldable pub digit : ℕ → ℕ
digit byte =
    cond (eqb byte 0x31) 1
    (cond (eqb byte 0x33) 3
    (cond (eqb byte 0x34) 4
    (cond (eqb byte 0x37) 7
    (cond (eqb byte 0x38) 8
    other))))

-- a byte more is read (4.2)
unfoldable pub further : Progress → ℕ → Progress
further p byte = record { read = p.read + 1; parameter = cond (eqb p.read 0) (digit byte) other }
