-- `house::put_lines` is safe and ends: each turn passes a frame of one byte or more.
use Prim.Native.Nat.{◌≤◌, ◌-◌}
use lib.ListN.{length}
use Rattle.replay_tree.proofs.house.put_lines.Given as goal

abbrev pub invariant-loop-at : goal.invariant-loop-at
invariant-loop-at g l = l.at ≤ length l.image

abbrev pub decreases-loop-at : goal.decreases-loop-at
decreases-loop-at g l = length l.image - l.at
