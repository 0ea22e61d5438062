-- `tree::check::find_command` meets its contract: what is left at every turn is judged as the whole image is, and the words are followed on the way.
use Prim.Native.Nat.{◌-◌}
use lib.ListN.{length}
use Rattle.tree.specs.Inner.{Ahead, Trailed}
use Rattle.tree.proofs.Items.{OnWay}
use Rattle.tree.proofs.check.find_command.Given as goal

abbrev pub invariant-loop-walk : goal.invariant-loop-walk
invariant-loop-walk l = OnWay l.image l.walk l.n × Trailed l.words l.image l.walk.at l.trail × Ahead l.words l.trail

abbrev pub decreases-loop-walk : goal.decreases-loop-walk
decreases-loop-walk l = length l.image - l.walk.at
