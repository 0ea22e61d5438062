-- The tree that an image stands for, and its rules: siblings rise strictly, and there are limits (STANDARD 6.11, 6.20).
use Rattle.std.specs.Prelude.{ℕ, suc, ◌+◌, Bool, true, false, List, [], ◌∷◌, ◌++◌, leb}
use Rattle.buffer.specs.Compare.{order}
use Rattle.image.specs.Frames.{Perhaps, Frame, node, option, flag}
use Rattle.image.specs.Limits.{both, fair}
use Rattle.tree.specs.Rules.{is_less}

-- siblings: none, or a node with its definitions and all below it, and the siblings after it (6.20)
pub data Forest : Type 0 where
  bare : Forest
  grown : (handler : ℕ) (name description : List ℕ) (usage : Perhaps) (definitions : List Frame) (below after : Forest) → Forest

-- the frames of siblings of that depth: each node, its definitions, all below it, then the next (6.11, 6.20)
unfoldable pub flatten : ℕ → Forest → List Frame
flatten d bare = []
flatten d (grown handler name description usage definitions below after) =
    node d handler name description usage ∷ (definitions ++ (flatten (suc d) below ++ flatten d after))

unfoldable pub nodes_in : Forest → ℕ
nodes_in bare = 0
nodes_in (grown handler name description usage definitions below after) = 1 + nodes_in below + nodes_in after

unfoldable pub options_in : List Frame → ℕ
options_in [] = 0
options_in (node d h name description usage ∷ l) = options_in l
options_in (option r c name long description ∷ l) = 1 + options_in l
options_in (flag c name long description ∷ l) = options_in l

unfoldable pub flags_in : List Frame → ℕ
flags_in [] = 0
flags_in (node d h name description usage ∷ l) = flags_in l
flags_in (option r c name long description ∷ l) = flags_in l
flags_in (flag c name long description ∷ l) = 1 + flags_in l

-- a node's definitions are options and flags within their limits, at most 32 of each
unfoldable pub definitions_only : List Frame → Bool
definitions_only [] = true
definitions_only (node d h name description usage ∷ l) = false
definitions_only (option r c name long description ∷ l) = both (fair (option r c name long description)) (definitions_only l)
definitions_only (flag c name long description ∷ l) = both (fair (flag c name long description)) (definitions_only l)

abbrev pub modest : List Frame → Bool
modest l = both (definitions_only l) (both (leb (options_in l) 32) (leb (flags_in l) 32))

-- siblings of that depth which rise strictly from a name on, the empty one before the first (6.20)
unfoldable pub orderly : List ℕ → ℕ → Forest → Bool
orderly before d bare = true
orderly before d (grown handler name description usage definitions below after) =
    both (is_less (order before name))
    (both (fair (node d handler name description usage)) (both (modest definitions) (both (orderly [] (suc d) below) (orderly name d after))))
