-- What an action does (STANDARD 2 and 3): the state after it, what it shows and what it submits.
use Rattle.std.specs.Prelude.{ℕ, ◌+◌, ◌-◌, ◌≡◌, cond, List, [], ◌∷◌, ◌++◌, ltb, eqb, length}
use Rattle.history.specs.Journal.{Journal, no_entries, count, entry_of, offered, at_place, Alike}
use Rattle.screen.specs.Redraw.{redraw}
use Rattle.keys.specs.declared.standing.Profile.{Profile}
use Rattle.keys.specs.declared.standing.Mode.{Mode}
use Rattle.keys.specs.declared.standing.Mode.TheVariants.{Typing}
use Rattle.keys.specs.declared.standing.Action.{Action}
use Rattle.keys.specs.declared.standing.Action.TheVariants.{Nothing, Enter, Erase, Insert, Up, Down, Right, Left, Home, End, Delete}
use Rattle.keys.specs.declared.meaning.Meaning.{Meaning}
use Rattle.editor.specs.Line.{limit, inserted, erased, content}
use Rattle.keys.specs.Keys.{meaning}

-- a state: the line, the cursor, what the keys before this one began and how keys are read; and the history (2.1, 3.2)
pub record State : Type 0 where
  pub line : List ℕ
  pub cursor : ℕ
  pub mode : Mode
  pub profile : Profile
  pub history : Journal

-- two states that differ in where their history begins, and in nothing else (3.18)
pub record SameBut (s t : State) : Type 0 where
  pub line : t.line ≡ s.line
  pub cursor : t.cursor ≡ s.cursor
  pub mode : t.mode ≡ s.mode
  pub profile : t.profile ≡ s.profile
  pub history : Alike s.history t.history

-- what a key does: the state after it, the bytes it shows, the line it submits
pub data Kind : Type 0 where
  shows : Kind
  enters : Kind
  drops : Kind

pub record Turn : Type 0 where
  pub kind : Kind
  pub after : State
  pub screen : List ℕ
  pub submitted : List ℕ

-- most keys only change the state and show bytes
abbrev pub showing : State → List ℕ → Turn
showing s bytes = record { kind = shows; after = s; screen = bytes; submitted = [] }

-- a state with another line and another history, and in another mode; nothing gives it another profile (2.23)
abbrev pub changed : State → List ℕ → ℕ → Journal → State
changed s line cursor history = record { line = line; cursor = cursor; mode = s.mode; profile = s.profile; history = history }

abbrev pub with_line : State → List ℕ → ℕ → State
with_line s line cursor = changed s line cursor s.history

-- (2.13)
abbrev pub in_mode : State → Mode → State
in_mode s mode = record { line = s.line; cursor = s.cursor; mode = mode; profile = s.profile; history = s.history }

-- the line drawn anew after the prompt (2.19)
unfoldable pub redrawn : List ℕ → State → List ℕ
redrawn prompt s = redraw prompt (content s.line) s.cursor

-- (3.7)
abbrev pub redrawing : List ℕ → State → Turn
redrawing prompt s = showing s (redrawn prompt s)

-- the line emptied, beside a history (3.9)
abbrev pub cleared : State → Journal → State
cleared s history = changed s [] 0 history

-- Enter: LF. A non-empty line is offered to history (as the empty text if ill-formed) and submitted, and line and cursor are cleared.
-- (2.8, 3.5, 3.6)
abbrev pub after_enter : State → State
after_enter s = cleared s (offered (content s.line) s.history)

-- (2.8)
abbrev pub line_feed : List ℕ
line_feed = 0x0A ∷ []

abbrev pub entering : State → List ℕ → Turn
entering s line = record { kind = enters; after = s; screen = line_feed; submitted = line }

-- (2.8)
unfoldable pub enter : State → Turn
enter s = cond (eqb (length s.line) 0) (entering s []) (entering (after_enter s) s.line)

-- with the cursor above 0, the byte before it is removed (2.10)
unfoldable pub erase : List ℕ → State → Turn
erase prompt s =
    cond (eqb s.cursor 0) (showing s []) (redrawing prompt (with_line s (erased s.line s.cursor) (s.cursor - 1)))

-- a byte that is typed; at length 255 it is dropped (2.11)
abbrev pub dropping : State → Turn
dropping s = record { kind = drops; after = s; screen = []; submitted = [] }

-- (2.11)
unfoldable pub insert : List ℕ → State → ℕ → Turn
insert prompt s byte =
    cond (ltb (length s.line) limit) (redrawing prompt (with_line s (inserted s.line s.cursor byte) (s.cursor + 1))) (dropping s)

-- an entry is recalled: it becomes the line, with the cursor at its end (3.7, 3.8)
abbrev pub recalled : State → ℕ → State
recalled s place = changed s (entry_of s.history place) (length (entry_of s.history place)) (at_place s.history place)

-- Up at place 0 does nothing; otherwise it steps back and recalls (3.8)
unfoldable pub up : List ℕ → State → Turn
up prompt s = cond (eqb s.history.place 0) (showing s []) (redrawing prompt (recalled s (s.history.place - 1)))

-- Down below the count steps on and recalls; arriving at the count, or there already, it clears the line (3.9)
unfoldable pub on_place : Journal → ℕ
on_place j = cond (ltb j.place (count j)) (j.place + 1) j.place

-- (3.9)
unfoldable pub down : List ℕ → State → Turn
down prompt s =
    cond (ltb (on_place s.history) (count s.history))
    (redrawing prompt (recalled s (on_place s.history)))
    (redrawing prompt (cleared s (at_place s.history (on_place s.history))))

-- ESC `[C` and ESC `[D` are shown only if the cursor moved (2.16)
abbrev pub arrow : ℕ → List ℕ
arrow final = 0x1B ∷ 0x5B ∷ final ∷ []

-- (2.16)
unfoldable pub right : State → Turn
right s = cond (ltb s.cursor (length s.line)) (showing (with_line s s.line (s.cursor + 1)) (arrow 0x43)) (showing s [])

-- (2.16)
unfoldable pub left : State → Turn
left s = cond (eqb s.cursor 0) (showing s []) (showing (with_line s s.line (s.cursor - 1)) (arrow 0x44))

-- the cursor goes to a place, and the line is redrawn unless it stood there: 0 for Home, the line's length for End (2.27)
unfoldable pub go_to : List ℕ → State → ℕ → Turn
go_to prompt s place = cond (eqb s.cursor place) (showing s []) (redrawing prompt (with_line s s.line place))

-- with the cursor before the line's end, the byte at it is removed (2.28)
unfoldable pub delete : List ℕ → State → Turn
delete prompt s =
    cond (ltb s.cursor (length s.line)) (redrawing prompt (with_line s (erased s.line (s.cursor + 1)) s.cursor)) (showing s [])

-- (2.4, 2.12)
abbrev pub turn_by : List ℕ → State → Action → Turn
turn_by prompt s Nothing = showing s []
turn_by prompt s Enter = enter s
turn_by prompt s Erase = erase prompt s
turn_by prompt s (Insert byte) = insert prompt s byte
turn_by prompt s Up = up prompt s
turn_by prompt s Down = down prompt s
turn_by prompt s Right = right s
turn_by prompt s Left = left s
turn_by prompt s Home = go_to prompt s 0
turn_by prompt s End = go_to prompt s (length s.line)
turn_by prompt s Delete = delete prompt s

-- one key: what it means, then what that does (2.4, 2.13, 2.17)
unfoldable pub turn_of : List ℕ → State → ℕ → Turn
turn_of prompt s byte = let m : Meaning = meaning s.profile s.mode byte in turn_by prompt (in_mode s m.mode) m.action

-- the fresh state, and the state after keys: a session is the fold of its keys (2.3, 2.23, 3.3)
abbrev pub fresh_state : Profile → State
fresh_state profile = record { line = []; cursor = 0; mode = Typing; profile = profile; history = no_entries }

unfoldable pub after_keys : List ℕ → State → List ℕ → State
after_keys prompt s [] = s
after_keys prompt s (byte ∷ keys) = after_keys prompt (turn_of prompt s byte).after keys

-- the bytes that keys show, one after the other
unfoldable pub shown_by : List ℕ → State → List ℕ → List ℕ
shown_by prompt s [] = []
shown_by prompt s (byte ∷ keys) = (turn_of prompt s byte).screen ++ shown_by prompt (turn_of prompt s byte).after keys
