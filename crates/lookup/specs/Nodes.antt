-- The subtree of a node as a part of an image: from the node to the next node of its depth or less, or to the end.
use Rattle.std.specs.Prelude.{ℕ, ◌+◌, List, [], length, drop, Some, None, Option}
use Rattle.buffer.specs.declared.lend.Span.{Span}
use Rattle.image.specs.Frames.{Frame, node, option, flag}
use Rattle.image.specs.Reading.{Read, read, broken, ended, read_first}
use Rattle.lookup.specs.Spots.{spot}
use Rattle.lookup.specs.Searches.{wanted, ended_by}
use Rattle.lookup.specs.declared.look.Sought.TheVariants.{Node, Upper}

-- a spot, or the end if there is none
abbrev pub or_end : List ℕ → Option ℕ → ℕ
or_end image (Some p) = p
or_end image None = length image

-- the end of the subtree of a node of that depth at a place, by the frame that stands there
abbrev pub end_after : List ℕ → ℕ → ℕ → Frame → ℕ
end_after image later depth (node d h name description usage) =
    or_end image (spot (wanted (Upper depth) []) (ended_by (Upper depth)) image later)
end_after image later depth (option r c name long description) = length image
end_after image later depth (flag c name long description) = length image

abbrev pub end_by : List ℕ → ℕ → ℕ → Read → ℕ
end_by image start depth (read f size) = end_after image (start + size) depth f
end_by image start depth broken = length image
end_by image start depth ended = length image

unfoldable pub subtree_end : List ℕ → ℕ → ℕ → ℕ
subtree_end image start depth = end_by image start depth (read_first (drop start image))

abbrev pub part_at : List ℕ → ℕ → Option ℕ → Option Span
part_at image depth (Some start) = Some (record { start = start; end = subtree_end image start depth })
part_at image depth None = None

-- the subtree of the first node of that depth and name
unfoldable pub find_node : List ℕ → ℕ → List ℕ → Option Span
find_node image depth name = part_at image depth (spot (wanted (Node depth) name) (ended_by (Node depth)) image 0)
