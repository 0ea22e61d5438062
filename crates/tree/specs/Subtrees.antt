-- The subtree of a node in a list of frames: the node and all frames before the next node of its depth or less (STANDARD 6.18, 7.2).
use Rattle.std.specs.Prelude.{ℕ, Bool, false, cond, List, [], ◌∷◌, eqb, leb}
use Rattle.buffer.specs.Compare.{same_bytes}
use Rattle.image.specs.Frames.{Frame, node, option, flag}
use Rattle.image.specs.Limits.{both}

-- a node of that depth and name
abbrev pub is_named : ℕ → List ℕ → Frame → Bool
is_named d key (node e h name description usage) = both (eqb e d) (same_bytes name key)
is_named d key (option r c name long description) = false
is_named d key (flag c name long description) = false

-- a node of that depth or less (6.18)
abbrev pub is_upper : ℕ → Frame → Bool
is_upper d (node e h name description usage) = leb e d
is_upper d (option r c name long description) = false
is_upper d (flag c name long description) = false

-- the frames before the first that passes a test, and those from it on
unfoldable pub up_to : (Frame → Bool) → List Frame → List Frame
up_to test [] = []
up_to test (f ∷ l) = cond (test f) [] (f ∷ up_to test l)

unfoldable pub on_from : (Frame → Bool) → List Frame → List Frame
on_from test [] = []
on_from test (f ∷ l) = cond (test f) (f ∷ l) (on_from test l)

-- a node of depth d and all frames before the next node of its depth or less (6.18)
abbrev pub rooted : ℕ → List Frame → List Frame
rooted d [] = []
rooted d (f ∷ l) = f ∷ up_to (is_upper d) l

-- (6.18, 7.2)
unfoldable pub subtree : ℕ → List ℕ → List Frame → List Frame
subtree d name fs = rooted d (on_from (is_named d name) fs)
