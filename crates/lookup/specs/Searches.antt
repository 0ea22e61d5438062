-- What is looked up: nodes by depth and name, the end of a subtree, and a node's definitions, whose list ends at the next node of any depth.
-- (STANDARD 6.11, 7.10)
use Rattle.std.specs.Prelude.{ℕ, Bool, true, false, cond, List}
use Rattle.buffer.specs.Compare.{same_bytes}
use Rattle.image.specs.Frames.{Perhaps, absent, present, Frame, node, option, flag}
use Rattle.tree.specs.Subtrees.{is_named, is_upper}
use Rattle.lookup.specs.declared.look.Sought.{Sought}
use Rattle.lookup.specs.declared.look.Sought.TheVariants.{Node, Upper, OptionKeyed}

-- a key is a definition's name or its long
abbrev pub long_is : List ℕ → Perhaps → Bool
long_is key absent = false
long_is key (present t) = same_bytes t key

-- (7.10)
unfoldable pub keyed : List ℕ → List ℕ → Perhaps → Bool
keyed key name long = cond (same_bytes name key) true (long_is key long)

-- what each search wants
abbrev pub wanted : Sought → List ℕ → Frame → Bool
wanted (Node d) key f = is_named d key f
wanted (Upper d) key f = is_upper d f
wanted OptionKeyed key (node e h name description usage) = false
wanted OptionKeyed key (option r c name long description) = keyed key name long
wanted OptionKeyed key (flag c name long description) = false

abbrev pub is_node : Frame → Bool
is_node (node e h name description usage) = true
is_node (option r c name long description) = false
is_node (flag c name long description) = false

-- what ends each search: nodes are sought to the end, definitions to the next node (6.11)
abbrev pub ended_by : Sought → Frame → Bool
ended_by (Node d) f = false
ended_by (Upper d) f = false
ended_by OptionKeyed f = is_node f
