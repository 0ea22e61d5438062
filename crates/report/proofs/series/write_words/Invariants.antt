-- `report::series::write_words` meets its contract: a word goes to the place that it is read from, and to write the rest there is to write the whole.
use Rattle.report.proofs.Words.{AheadWords}
use Prim.Native.Nat.{◌-◌}
use lib.ListN.{length}
use Rattle.report.proofs.series.write_words.Given as goal

abbrev pub invariant-loop-at : goal.invariant-loop-at
invariant-loop-at l = AheadWords l.kind l.words l.initial.out l.at l.out

abbrev pub decreases-loop-at : goal.decreases-loop-at
decreases-loop-at l = length l.words - l.at
