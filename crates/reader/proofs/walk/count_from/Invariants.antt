-- `reader::walk::count_from` meets its contract: the frames passed and those from the place on are all of them.
use Rattle.tree.specs.Images.{frames_of}
use Prim.Native.Nat.{◌+◌, ◌≤◌, ◌-◌}
use mathlib.Core.Path.{◌≡◌}
use lib.ListN.{length, drop}
use Rattle.reader.proofs.walk.count_from.Given as goal

abbrev pub invariant-loop-place : goal.invariant-loop-place
invariant-loop-place l = (l.n ≤ l.place) × (l.n + length (frames_of (drop l.place l.image)) ≡ length (frames_of (drop l.at l.image)))

abbrev pub decreases-loop-place : goal.decreases-loop-place
decreases-loop-place l = length l.image - l.place
