-- A turn of the console: a step over what is left of the piece that was read, and then, where nothing is left, the next piece (STANDARD 11.1, 11.13).
use Rattle.std.specs.Prelude.{ℕ, ◌≤◌, ◌≡◌, true, false, List, [], ◌⊎◌, length, take, drop}
use Rattle.keys.specs.declared.standing.Profile.{Profile}
use Rattle.stream.specs.Moves.{Went, step_by}
use Rattle.stream.specs.Held.{starting as fresh, busy_with, stand_of, Sound}
use Rattle.stream.specs.declared.standing.Stream.{Stream}
use Rattle.console.specs.declared.turns.Console.{Console}

-- what is left of the piece that was read
abbrev pub piece_of : Console → List ℕ → List ℕ
piece_of c input = drop c.at (take c.end input)

-- with nothing read yet, keys read as the profile has them (2.23), and at its end
abbrev pub starting : Profile → Console
starting profile = record { stream = fresh profile; at = 0; end = 0; over = false }

abbrev pub stopped : Stream → Console
stopped s = record { stream = s; at = 0; end = 0; over = true }

-- room for a piece, and for what two keys may print
abbrev pub piece_room : ℕ
piece_room = 65536

abbrev pub out_room : ℕ
out_room = 262202

-- a console that can take a turn
pub record Ready (c : Console) (input line image slots out : List ℕ) : Type 0 where
  pub sound : Sound c.stream line image slots
  pub order : c.at ≤ c.end
  pub within : c.end ≤ length input
  pub pieces : length input ≡ piece_room
  pub room : length out ≡ out_room

-- the stream was read on: a new piece, or the end
pub record ReadOn (s : Stream) (input out : List ℕ) (r : Console) (input' out' : List ℕ) : Type 0 where
  pub stream : r.stream ≡ s
  pub order : r.at ≤ r.end
  pub within : r.end ≤ length input
  pub inputs : length input' ≡ length input
  pub outs : length out' ≡ length out

-- a turn makes the step that the definition makes, and loses no byte: what the step left is still there, or it left nothing and the next piece is read
pub record Turned (went : Went) (r : Console) (input' line' image' slots' out' : List ℕ) : Type 0 where
  pub ready : Ready r input' line' image' slots' out'
  pub after : stand_of r.stream line' image' slots' ≡ went.move.after
  pub kept : r.over ≡ false → (piece_of r input' ≡ went.left) ⊎ ((went.left ≡ []) × (busy_with r.stream ≡ false))

abbrev pub Turning : Console → List ℕ → List ℕ → List ℕ → List ℕ → List ℕ → Console → List ℕ → List ℕ → List ℕ → List ℕ → List ℕ → Type 0
Turning c input line image slots out r input' line' image' slots' out' =
    Turned (step_by (length out) (stand_of c.stream line image slots) (piece_of c input)) r input' line' image' slots' out'
