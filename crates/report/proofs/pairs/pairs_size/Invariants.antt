-- `report::pairs::pairs_size` meets its contract: what is counted and the frames of the pairs still to come make up the whole.
use Rattle.table.specs.Inner.{map_of}
use Rattle.frame.specs.Series.{runs}
use Rattle.report.proofs.Tables.{pairs_at}
use Prim.Native.Nat.{◌+◌}
use mathlib.Core.Path.{◌≡◌}
use lib.ListN.{length}
use Rattle.report.proofs.pairs.pairs_size.Given as goal

abbrev pub invariant-loop-e : goal.invariant-loop-e
invariant-loop-e g l =
    l.size + length (pairs_at g.P.PairFrame.frame l.words l.image l.fn.pairs l.e-index) ≡ length (runs g.P.PairFrame.frame (map_of l.words l.image l.fn.pairs))
