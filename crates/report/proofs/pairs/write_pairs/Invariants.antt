-- `report::pairs::write_pairs` meets its contract: to write the pairs still to come where the code stands is to write them all.
use Rattle.report.proofs.Tables.{AheadPairs}
use Rattle.report.proofs.pairs.write_pairs.Given as goal

abbrev pub invariant-loop-e : goal.invariant-loop-e
invariant-loop-e g l = AheadPairs g.P.PairFrame.frame l.words l.image l.fn.pairs l.initial.out l.e-index l.o l.out
