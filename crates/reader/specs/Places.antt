-- The places between the frames of an image (STANDARD 6.23).
use Rattle.std.specs.Prelude.{ℕ, ◌+◌, List, drop}
use Rattle.image.specs.Reading.{head_first}
use Rattle.image.specs.declared.head.Head.{Head}
use Rattle.image.specs.declared.head.Head.TheVariants.{Node, Option, Flag, Bad, End}

-- how many bytes a frame takes, 0 where there is none
abbrev pub size_first : Head → ℕ
size_first (Node depth handler texts) = texts.size
size_first (Option required short texts) = texts.size
size_first (Flag short texts) = texts.size
size_first Bad = 0
size_first End = 0

-- the place after the frame at a place; the same place where there is none (6.23)
unfoldable pub next_place : List ℕ → ℕ → ℕ
next_place image at = at + size_first (head_first (drop at image))
