-- `words::tokenizer::measure` meets its contract. The scan stands in its line: `Standing`.
use Rattle.words.proofs.Standing.{Standing}
use Prim.Native.Nat.{◌-◌}
use lib.ListN.{length}
use Rattle.words.proofs.tokenizer.measure.Given as goal

abbrev pub invariant-loop-scan : goal.invariant-loop-scan
invariant-loop-scan l = Standing l.line l.scan

abbrev pub decreases-loop-scan : goal.decreases-loop-scan
decreases-loop-scan l = length l.line - l.scan.at
