-- `rows::list::put_rows` meets its contract: whoever writes the rows that are left has written them all.
use Rattle.rows.proofs.Lists.{OnWay}
use Prim.Native.Nat.{◌-◌}
use lib.ListN.{length}
use Rattle.rows.proofs.list.put_rows.Given as goal

abbrev pub invariant-loop-place : goal.invariant-loop-place
invariant-loop-place l = OnWay l.listing l.frames l.initial.out l.at l.out l.place l.end

abbrev pub decreases-loop-place : goal.decreases-loop-place
decreases-loop-place l = length l.frames - l.place
