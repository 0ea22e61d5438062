-- The line that is being typed (STANDARD 2): 0 to 255 bytes, zero beyond its length, with a cursor at most that length.
use Rattle.std.specs.Prelude.{ℕ, ◌-◌, Bool, false, cond, List, [], ◌∷◌, ◌++◌, leb, length, take, drop}
use Rattle.buffer.specs.Compare.{same_bytes}
use Rattle.text.specs.Decoding.{well_formed}
use Rattle.buffer.specs.Lend.{zeros}
use Rattle.keys.specs.declared.standing.Profile.{Profile}
use Rattle.keys.specs.declared.standing.Mode.{Mode}
use Rattle.keys.specs.declared.standing.Mode.TheVariants.{Typing}
use Rattle.keys.specs.Modes.{good_mode}
use Rattle.editor.specs.declared.line.Editor.{Editor}

-- how many bytes a line holds at most: `Editor::LIMIT` (2.1, 2.3)
unfoldable pub limit : ℕ
limit = 255

-- the editor that holds a line, and the line that an editor holds (2.2)
unfoldable pub padded : List ℕ → List ℕ
padded line = line ++ zeros (limit - length line)

-- (2.2)
unfoldable pub holding : List ℕ → ℕ → Mode → Profile → Editor
holding line cursor mode profile = record { line = padded line; length = length line; cursor = cursor; mode = mode; profile = profile }

-- (2.1)
unfoldable pub line_of : Editor → List ℕ
line_of e = take e.length e.line

-- no line: `Editor::fresh` (2.3, 2.23, 4.3)
abbrev pub fresh_editor : Profile → Editor
fresh_editor profile = record { line = padded []; length = 0; cursor = 0; mode = Typing; profile = profile }

-- the rules of a line (2.1, 2.2, 3.13)
unfoldable pub good_line : Editor → Bool
good_line e = cond (leb e.length limit) (cond (leb e.cursor e.length) (same_bytes (padded (line_of e)) e.line) false) false

-- an editor is good if its line is and bytes lead to its mode (3.13)
unfoldable pub good_editor : Editor → Bool
good_editor e = cond (good_mode e.profile e.mode) (good_line e) false

-- a byte more at a place, and a byte less before it (2.11)
unfoldable pub inserted : List ℕ → ℕ → ℕ → List ℕ
inserted line cursor byte = take cursor line ++ (byte ∷ drop cursor line)

-- (2.10, 2.28)
unfoldable pub erased : List ℕ → ℕ → List ℕ
erased line cursor = take (cursor - 1) line ++ drop cursor line

-- what is shown of a line, and offered to history: nothing if it is ill-formed (2.8, 2.18)
unfoldable pub content : List ℕ → List ℕ
content line = cond (well_formed line) line []
