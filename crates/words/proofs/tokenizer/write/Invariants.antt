-- `words::tokenizer::write` meets its contract. The scan stands in its line, and what it has read lies in the buffer: `Laid`.
use Rattle.words.proofs.Laying.{Laid}
use Prim.Native.Nat.{◌-◌}
use mathlib.Core.Path.{◌≡◌}
use lib.ListN.{length}
use Rattle.words.proofs.tokenizer.write.Given as goal

abbrev pub invariant-loop-scan : goal.invariant-loop-scan
invariant-loop-scan l = (length l.out ≡ length l.initial.out) × Laid l.line l.initial.out l.out l.scan

abbrev pub decreases-loop-scan : goal.decreases-loop-scan
decreases-loop-scan l = length l.line - l.scan.at
