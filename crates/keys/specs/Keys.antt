-- What a key means (STANDARD 2): a byte, by the profile and by what the keys before it began, to an action and to what is waited for after it.
use Rattle.std.specs.Prelude.{ℕ, cond, List, [], ◌∷◌, ltb, eqb}
use Rattle.keys.specs.declared.standing.Profile.{Profile}
use Rattle.keys.specs.declared.standing.Profile.TheVariants.{Rust, Ecma48}
use Rattle.keys.specs.declared.standing.Progress.{Progress}
use Rattle.keys.specs.declared.standing.Mode.{Mode}
use Rattle.keys.specs.declared.standing.Mode.TheVariants.{Typing, Escape, Sequence, Control}
use Rattle.keys.specs.declared.standing.Action.{Action}
use Rattle.keys.specs.declared.standing.Action.TheVariants.{Nothing, Enter, Erase, Insert}
use Rattle.keys.specs.declared.meaning.Meaning.{Meaning}
use Rattle.keys.specs.Modes.{unread, longest}
use Rattle.keys.specs.Control.{goes_on, is_final, arrow_of, ended, further}

-- an action, after which typing goes on; and no action, but something is waited for
abbrev pub doing : Action → Meaning
doing action = record { action = action; mode = Typing }

-- (2.13)
abbrev pub awaiting : Mode → Meaning
awaiting mode = record { action = Nothing; mode = mode }

-- typing: the ranges of bytes (2.7, 2.10, 2.12, 2.13)
unfoldable pub typed : ℕ → Meaning
typed byte =
    cond (eqb byte 0x0D) (doing Enter)
    (cond (eqb byte 0x0A) (doing Enter)
    (cond (eqb byte 0x08) (doing Erase)
    (cond (eqb byte 0x7F) (doing Erase)
    (cond (eqb byte 0x1B) (awaiting Escape)
    (cond (ltb byte 0x20) (doing Nothing)
    (doing (Insert byte)))))))

-- after ESC: `[` begins the profile's sequence, and any other byte is swallowed (2.14, 2.23)
abbrev pub begun : Profile → Mode
begun Rust = Sequence
begun Ecma48 = Control unread

-- (2.14)
unfoldable pub escaped : Profile → ℕ → Meaning
escaped profile byte = cond (eqb byte 0x5B) (awaiting (begun profile)) (doing Nothing)

-- after the original's ESC `[`: an arrow and back to typing; every other byte is swallowed too (2.15, 2.22)
unfoldable pub sequenced : ℕ → Meaning
sequenced byte = doing (arrow_of byte)

-- in a control sequence: a byte that is not final goes on up to the fifteenth, and the sixteenth ends it (2.24, 2.26)
unfoldable pub awaiting_more : Progress → ℕ → Meaning
awaiting_more p byte = cond (ltb p.read longest) (awaiting (Control (further p byte))) (doing Nothing)

-- a final byte acts; a byte that no sequence holds ends it and is swallowed (2.24, 2.25)
unfoldable pub controlled : Progress → ℕ → Meaning
controlled p byte = cond (goes_on byte) (awaiting_more p byte) (cond (is_final byte) (doing (ended p.parameter byte)) (doing Nothing))

-- (2.4, 2.6, 2.15, 2.17, 2.23, 2.24)
abbrev pub meaning : Profile → Mode → ℕ → Meaning
meaning profile Typing byte = typed byte
meaning profile Escape byte = escaped profile byte
meaning profile Sequence byte = sequenced byte
meaning profile (Control p) byte = controlled p byte

-- what is waited for after bytes, and what each of them does (2.4)
unfoldable pub mode_after : Profile → Mode → List ℕ → Mode
mode_after profile m [] = m
mode_after profile m (byte ∷ bytes) = mode_after profile (meaning profile m byte).mode bytes

unfoldable pub actions : Profile → Mode → List ℕ → List Action
actions profile m [] = []
actions profile m (byte ∷ bytes) = (meaning profile m byte).action ∷ actions profile (meaning profile m byte).mode bytes
