-- The rules over a list of frames, and the number of the first frame that breaks one (STANDARD 6.4, 6.12 to 6.17, 10.10).
use Rattle.std.specs.Prelude.{ℕ, ◌+◌, Bool, true, false, cond, List, [], ◌∷◌, ◌++◌, ltb, leb, length, take, get_or, Ok, Err, Result, ⊤}
use Rattle.buffer.specs.Compare.{order}
use Rattle.std.specs.declared.cmp.Ordering.{Ordering}
use Rattle.std.specs.declared.cmp.Ordering.TheVariants.{Less, Equal, Greater}
use Rattle.image.specs.Frames.{Frame, node, option, flag}
use Rattle.image.specs.Limits.{both, fair}
use Rattle.tree.specs.Images.{Item, whole, torn, items}
use Rattle.tree.specs.declared.check.BadFrame.{BadFrame}

-- what the frames before tell: the names from depth 0 down to the last node, how many nodes, how many options and flags of the last node
pub record Seen : Type 0 where
  pub path : List (List ℕ)
  pub nodes : ℕ
  pub options : ℕ
  pub flags : ℕ

abbrev pub start : Seen
start = record { path = []; nodes = 0; options = 0; flags = 0 }

abbrev pub is_less : Ordering → Bool
is_less Less = true
is_less Equal = false
is_less Greater = false

-- siblings rise strictly by bytes, a prefix first; the sibling before a node of depth d is at d in the path, if there is one (6.13)
unfoldable pub rises : List (List ℕ) → ℕ → List ℕ → Bool
rises path d name = cond (leb (length path) d) true (is_less (order (get_or path d []) name))

-- the rules for a frame after the frames before it: a depth is at most one above the node before, which makes the first a node of
-- depth 0; at most 256 nodes, 32 options and 32 flags a node (6.12, 6.14)
unfoldable pub follows : Seen → Frame → Bool
follows seen (node d h name description usage) =
    both (leb d (length seen.path)) (both (ltb seen.nodes 256) (rises seen.path d name))
follows seen (option r c name long description) = both (ltb 0 (length seen.path)) (ltb seen.options 32)
follows seen (flag c name long description) = both (ltb 0 (length seen.path)) (ltb seen.flags 32)

-- (6.15)
unfoldable pub obeys : Seen → Frame → Bool
obeys seen f = both (fair f) (follows seen f)

unfoldable pub after : Seen → Frame → Seen
after seen (node d h name description usage) =
    record { path = take d seen.path ++ name ∷ []; nodes = seen.nodes + 1; options = 0; flags = 0 }
after seen (option r c name long description) =
    record { path = seen.path; nodes = seen.nodes; options = seen.options + 1; flags = seen.flags }
after seen (flag c name long description) =
    record { path = seen.path; nodes = seen.nodes; options = seen.options; flags = seen.flags + 1 }

-- the number of the first frame that breaks a rule, n frames being passed (6.15, 6.16)
unfoldable pub judge_items : Seen → ℕ → List Item → Result ⊤ BadFrame
judge_items seen n [] = Ok tt
judge_items seen n (whole f ∷ l) = cond (obeys seen f) (judge_items (after seen f) (n + 1) l) (Err (record { number = n }))
judge_items seen n (torn ∷ l) = Err (record { number = n })

-- whether every frame of a list obeys (6.15)
unfoldable pub obey_all : Seen → List Frame → Bool
obey_all seen [] = true
obey_all seen (f ∷ l) = both (obeys seen f) (obey_all (after seen f) l)

-- the bytes of an image
abbrev pub image_limit : ℕ
image_limit = 32768

-- the byte limit is tested first and gives 0 (6.4, 6.16, 6.17, 10.10)
unfoldable pub check_tree : List ℕ → Result ⊤ BadFrame
check_tree image = cond (ltb image_limit (length image)) (Err (record { number = 0 })) (judge_items start 0 (items image))
