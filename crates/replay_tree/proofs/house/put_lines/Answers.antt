-- `house::put_lines` is safe and ends: each turn passes a frame of one byte or more.
use native.Mathlib.Omega.{arith}
use Prim.Native.Nat.{ℕ, ◌+◌, ◌≤◌}
use mathlib.Core.Path.{◌≡◌}
use mathlib.Core.List.{List}
use lib.ListN.{length, take, drop, length-take, length-drop}
use Rattle.std.proofs.Common.{rules}
use Rattle.replay_tree.proofs.house.put_lines.Goals as goal

-- a part from a place on ends within the whole
part-fits : (s r : List ℕ) (at n : ℕ) → r ≡ take n (drop at s) → at ≤ length s → at + length r ≤ length s
part-fits s r at n e h = rw e (simp (length-take, length-drop) (omega arith))

pub loop-at-preserved : goal.loop-at-preserved
loop-at-preserved g c = part-fits c.args.image.now _ c.loop-at.at c.size_at.result c.part-frame.ensures (search rules)
