-- `quote::quoter::measure` meets its contract: what is counted and what the words still to come add make up the whole.
use Rattle.quote.proofs.Counting.{Counted}
use Prim.Native.Nat.{◌-◌}
use lib.ListN.{length}
use Rattle.quote.proofs.quoter.measure.Given as goal

abbrev pub invariant-loop-at : goal.invariant-loop-at
invariant-loop-at l = Counted l.words l.size l.n l.at

abbrev pub decreases-loop-at : goal.decreases-loop-at
decreases-loop-at l = length l.words - l.at
