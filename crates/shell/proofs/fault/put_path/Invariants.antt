-- `shell::fault::put_path` meets its contract: whoever writes the words that are left has written them all.
use Prim.Native.Nat.{◌-◌}
use lib.ListN.{length}
use Rattle.shell.proofs.Faults.{OnPath}
use Rattle.shell.proofs.fault.put_path.Given as goal

abbrev pub invariant-loop-at : goal.invariant-loop-at
invariant-loop-at l = OnPath l.path l.initial.out l.out l.at l.end

abbrev pub decreases-loop-at : goal.decreases-loop-at
decreases-loop-at l = length l.path - l.at
