-- The steps by which the code goes through an image: where it stands, and what one frame makes of that.
use Rattle.std.specs.Prelude.{ℕ, ◌+◌, ◌≤◌, ◌≡◌, Bool, cond, Option, Some, None, List, map, length, take, drop, get_or, set, replicate}
use Rattle.image.specs.Frames.{Frame, node, option, flag}
use Rattle.image.specs.Reading.{Read, read, broken, ended}
use Rattle.tree.specs.Rules.{Seen, obeys}
use Rattle.tree.specs.declared.walk.Walk.{Walk}

-- the text after the length byte at the front
unfoldable pub text_first : List ℕ → List ℕ
text_first s = take (get_or s 0 0) (drop 1 s)

abbrev pub name_at : List ℕ → ℕ → List ℕ
name_at image p = text_first (drop p image)

-- what a walk knows of the frames before: it keeps the places of the names
unfoldable pub seen_by : List ℕ → Walk → Seen
seen_by image walk =
    record { path = map (name_at image) (take walk.deep walk.names); nodes = walk.nodes; options = walk.options; flags = walk.flags }

abbrev pub start_walk : Walk
start_walk = record { at = 0; names = replicate 8 0; deep = 0; nodes = 0; options = 0; flags = 0 }

-- a walk within its array
pub record Sound (walk : Walk) : Type 0 where
  pub deep : walk.deep ≤ 8
  pub names : length walk.names ≡ 8

-- the walk after a frame of that size, of each kind
unfoldable pub after_node : Walk → ℕ → ℕ → Walk
after_node walk depth size =
    record { at = walk.at + size; names = set walk.names depth (walk.at + 4); deep = depth + 1; nodes = walk.nodes + 1; options = 0; flags = 0 }

unfoldable pub after_option : Walk → ℕ → Walk
after_option walk size =
    record { at = walk.at + size; names = walk.names; deep = walk.deep; nodes = walk.nodes; options = walk.options + 1; flags = walk.flags }

unfoldable pub after_flag : Walk → ℕ → Walk
after_flag walk size =
    record { at = walk.at + size; names = walk.names; deep = walk.deep; nodes = walk.nodes; options = walk.options; flags = walk.flags + 1 }

abbrev pub passed : Walk → Frame → ℕ → Walk
passed walk (node d h name description usage) size = after_node walk d size
passed walk (option r c name long description) size = after_option walk size
passed walk (flag c name long description) size = after_flag walk size

-- a frame that keeps the rules is passed
abbrev pub step_if : Bool → Walk → Option Walk
step_if rule next = cond rule (Some next) None

-- one frame more, after what was seen
unfoldable pub step_by : Seen → Walk → Read → Option Walk
step_by seen walk (read f n) = step_if (obeys seen f) (passed walk f n)
step_by seen walk broken = None
step_by seen walk ended = None
