-- How the first frame of bytes is read: its numbers and the lengths of its texts, a byte past the end being 0 (STANDARD 6.6 to 6.8).
use Rattle.std.specs.Prelude.{ℕ, ◌+◌, ◌*◌, ◌<◌, cond, List, leb, eqb, length, take, drop, get_or, Option as Maybe, Some, None}
use Rattle.image.specs.Frames.{Perhaps, absent, present, Frame, node, option, flag}
use Rattle.image.specs.Limits.{fair}
use Rattle.image.specs.declared.head.Lengths.{Lengths}
use Rattle.image.specs.declared.head.Head.{Head}
use Rattle.image.specs.declared.head.Head.TheVariants.{Node, Option, Flag, Bad, End}

-- the length of a text that may be missing, by its length byte
abbrev pub other_of : ℕ → Maybe ℕ
other_of n = cond (eqb n 0xff) None (Some n)

-- how many bytes it takes after that byte
unfoldable pub span : Maybe ℕ → ℕ
span (Some n) = n
span None = 0

-- three texts one after the other from a place on: name, description, usage (6.6)
unfoldable pub node_lengths : List ℕ → Lengths
node_lengths s =
    let name : ℕ = get_or s 4 0 in
    let description : ℕ = get_or s (5 + name) 0 in
    let usage : Maybe ℕ = other_of (get_or s (6 + name + description) 0) in
    record { name = name; description = description; other = usage; size = 7 + name + description + span usage }

-- the same for name, long, description (6.7, 6.8)
unfoldable pub definition_lengths : ℕ → List ℕ → Lengths
definition_lengths p s =
    let name : ℕ = get_or s p 0 in
    let long : Maybe ℕ = other_of (get_or s (p + 1 + name) 0) in
    let description : ℕ = get_or s (p + 2 + name + span long) 0 in
    record { name = name; description = description; other = long; size = p + 3 + name + span long + description }

-- a frame of that many bytes, if they are there
abbrev pub whole : List ℕ → Lengths → Head → Head
whole s texts head = cond (leb texts.size (length s)) head Bad

unfoldable pub node_first : List ℕ → Head
node_first s = whole s (node_lengths s) (Node (get_or s 1 0) (get_or s 2 0 * 256 + get_or s 3 0) (node_lengths s))

unfoldable pub option_first : List ℕ → Head
option_first s = whole s (definition_lengths 3 s) (Option (get_or s 1 0) (get_or s 2 0) (definition_lengths 3 s))

unfoldable pub flag_first : List ℕ → Head
flag_first s = whole s (definition_lengths 2 s) (Flag (get_or s 1 0) (definition_lengths 2 s))

-- what the first bytes are, by their kind and their lengths
unfoldable pub head_first : List ℕ → Head
head_first s =
    cond (eqb (length s) 0) End
    (cond (eqb (get_or s 0 0) 1) (node_first s) (cond (eqb (get_or s 0 0) 2) (option_first s) (cond (eqb (get_or s 0 0) 3) (flag_first s) Bad)))

-- the texts that lengths say, and the frame that a head says
unfoldable pub perhaps_in : Maybe ℕ → List ℕ → Perhaps
perhaps_in (Some n) s = present (take n s)
perhaps_in None s = absent

-- (6.6)
unfoldable pub node_in : List ℕ → ℕ → ℕ → Lengths → Frame
node_in s depth handler texts =
    node depth handler (take texts.name (drop 5 s)) (take texts.description (drop (6 + texts.name) s))
    (perhaps_in texts.other (drop (6 + texts.name + texts.description + 1) s))

-- name, long and description of a definition whose first length byte stands at p
abbrev pub name_in : List ℕ → ℕ → Lengths → List ℕ
name_in s p texts = take texts.name (drop (p + 1) s)

abbrev pub long_in : List ℕ → ℕ → Lengths → Perhaps
long_in s p texts = perhaps_in texts.other (drop (p + 2 + texts.name) s)

abbrev pub note_in : List ℕ → ℕ → Lengths → List ℕ
note_in s p texts = take texts.description (drop (p + 2 + texts.name + span texts.other + 1) s)

-- (6.7)
unfoldable pub option_in : List ℕ → ℕ → ℕ → Lengths → Frame
option_in s required short texts = option required short (name_in s 3 texts) (long_in s 3 texts) (note_in s 3 texts)

-- (6.8)
unfoldable pub flag_in : List ℕ → ℕ → Lengths → Frame
flag_in s short texts = flag short (name_in s 2 texts) (long_in s 2 texts) (note_in s 2 texts)

-- a head whose frame is within the limits
abbrev pub strictly : List ℕ → Head → Head
strictly s (Node depth handler texts) = cond (fair (node_in s depth handler texts)) (Node depth handler texts) Bad
strictly s (Option required short texts) = cond (fair (option_in s required short texts)) (Option required short texts) Bad
strictly s (Flag short texts) = cond (fair (flag_in s short texts)) (Flag short texts) Bad
strictly s Bad = Bad
strictly s End = End

-- what the first bytes are, by all the rules for a frame by itself
unfoldable pub strict_first : List ℕ → Head
strict_first s = strictly s (head_first s)

-- lengths that are bytes
pub record Small (texts : Lengths) : Type 0 where
  pub name : texts.name < 256
  pub description : texts.description < 256
  pub other : span texts.other < 256

-- what the first bytes say, with the frame in words: a frame and its size, no frame, or nothing
pub data Read : Type 0 where
  read : Frame → ℕ → Read
  broken : Read
  ended : Read

abbrev pub read_by : List ℕ → Head → Read
read_by s (Node depth handler texts) = read (node_in s depth handler texts) texts.size
read_by s (Option required short texts) = read (option_in s required short texts) texts.size
read_by s (Flag short texts) = read (flag_in s short texts) texts.size
read_by s Bad = broken
read_by s End = ended

unfoldable pub read_first : List ℕ → Read
read_first s = read_by s (head_first s)
