-- `help::path::follow` meets its contract: the words left lead from the part reached to where all of them lead.
use Rattle.help.proofs.Following.{OnPath}
use Prim.Native.Nat.{◌-◌}
use lib.ListN.{length}
use Rattle.help.proofs.path.follow.Given as goal

abbrev pub invariant-loop-word : goal.invariant-loop-word
invariant-loop-word l = OnPath l.image l.line l.reached.start l.reached.end l.depth l.place

abbrev pub decreases-loop-word : goal.decreases-loop-word
decreases-loop-word l = length l.line - l.place
