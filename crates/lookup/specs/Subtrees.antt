-- The tree of a name in a forest, and a part of an image that holds some frames.
use Rattle.std.specs.Prelude.{ℕ, ◌≤◌, ◌≡◌, cond, List, [], length, Some, None, Option}
use Rattle.buffer.specs.Compare.{same_bytes}
use Rattle.buffer.specs.Lend.{between}
use Rattle.buffer.specs.declared.lend.Span.{Span}
use Rattle.image.specs.Frames.{Frame}
use Rattle.tree.specs.Images.{flat}
use Rattle.tree.specs.Forest.{Forest, bare, grown}

-- the first tree of that name among siblings, alone
unfoldable pub tree_named : List ℕ → Forest → Forest
tree_named name bare = bare
tree_named name (grown h n description usage definitions below after) =
    cond (same_bytes n name) (grown h n description usage definitions below bare) (tree_named name after)

-- a part of an image that holds these frames and nothing else
abbrev pub PartHolds : List ℕ → List Frame → Option Span → Type 0
PartHolds image frames None = frames ≡ []
PartHolds image frames (Some part) = (part.start ≤ part.end) × (part.end ≤ length image) × (between image part.start part.end ≡ flat frames)
