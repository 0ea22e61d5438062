-- Control sequences as ECMA-48 has them (STANDARD 2.25, 2.30): ESC `[`, parameter bytes, intermediate bytes, one final byte; and which of them act.
use Rattle.std.specs.Prelude.{ℕ, ◌≡◌, Bool, true, false, cond, List, [], ◌∷◌, ◌++◌, eqb}
use Rattle.buffer.specs.Compare.{same_bytes}
use Rattle.keys.specs.declared.standing.Action.{Action}
use Rattle.keys.specs.declared.standing.Action.TheVariants.{Nothing, Up, Down, Right, Left, Home, End, Delete}
use Rattle.keys.specs.Control.{between, is_final}

-- the bytes of each part; final bytes are 40 to 7E (2.30)
abbrev pub is_parameter : ℕ → Bool
is_parameter byte = between 0x30 0x3F byte

abbrev pub is_intermediate : ℕ → Bool
is_intermediate byte = between 0x20 0x2F byte

-- all bytes of a part
unfoldable pub all : (ℕ → Bool) → List ℕ → Bool
all is [] = true
all is (byte ∷ bytes) = cond (is byte) (all is bytes) false

-- (2.30)
pub record ControlSequence : Type 0 where
  pub parameters : List ℕ
  pub intermediates : List ℕ
  pub final : ℕ

-- (2.30)
pub record Formed (q : ControlSequence) : Type 0 where
  pub parameters : all is_parameter q.parameters ≡ true
  pub intermediates : all is_intermediate q.intermediates ≡ true
  pub final : is_final q.final ≡ true

-- what stands between ESC `[` and the final byte
abbrev pub body : ControlSequence → List ℕ
body q = q.parameters ++ q.intermediates

-- (2.30)
abbrev pub bytes_of : ControlSequence → List ℕ
bytes_of q = 0x1B ∷ 0x5B ∷ (body q ++ (q.final ∷ []))

-- a sequence that acts: its parameter bytes, its final byte, what it does
pub record Acting : Type 0 where
  pub parameters : List ℕ
  pub final : ℕ
  pub action : Action

abbrev row : List ℕ → ℕ → Action → Acting
row parameters final action = record { parameters = parameters; final = final; action = action }

-- all that act: A to D, H and F with no parameter and with `1`; `~` with `1`, `7`, `4`, `8` and `3` (2.25)
abbrev pub acting : List Acting
acting =
    row [] 0x41 Up
    ∷ row [] 0x42 Down
    ∷ row [] 0x43 Right
    ∷ row [] 0x44 Left
    ∷ row [] 0x48 Home
    ∷ row [] 0x46 End
    ∷ row (0x31 ∷ []) 0x41 Up
    ∷ row (0x31 ∷ []) 0x42 Down
    ∷ row (0x31 ∷ []) 0x43 Right
    ∷ row (0x31 ∷ []) 0x44 Left
    ∷ row (0x31 ∷ []) 0x48 Home
    ∷ row (0x31 ∷ []) 0x46 End
    ∷ row (0x31 ∷ []) 0x7E Home
    ∷ row (0x37 ∷ []) 0x7E Home
    ∷ row (0x34 ∷ []) 0x7E End
    ∷ row (0x38 ∷ []) 0x7E End
    ∷ row (0x33 ∷ []) 0x7E Delete
    ∷ []

-- what parameter bytes and a final byte do, by a table (2.25)
unfoldable pub among : List Acting → List ℕ → ℕ → Action
among [] parameters final = Nothing
among (a ∷ rows) parameters final =
    cond (same_bytes parameters a.parameters) (cond (eqb final a.final) a.action (among rows parameters final)) (among rows parameters final)

-- a sequence with an intermediate byte does nothing (2.25)
abbrev pub without : List ℕ → Action → Action
without [] action = action
without (byte ∷ bytes) action = Nothing

-- what a sequence does (2.25)
unfoldable pub said : ControlSequence → Action
said q = without q.intermediates (among acting q.parameters q.final)
