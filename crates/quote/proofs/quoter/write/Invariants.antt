-- `quote::quoter::write` meets its contract: each word is a write right after those before it; a bad word does not come up.
use Rattle.quote.proofs.Laying.{Laying}
use Rattle.quote.proofs.Counting.{rest_line}
use Rattle.quote.specs.Inner.{IsFine}
use Rattle.quote.specs.Answer.{line_of}
use Rattle.quote.specs.Given.{listed, judge_words}
use Prim.Native.Nat.{◌≤◌, ◌-◌}
use mathlib.Core.Path.{◌≡◌}
use lib.ListN.{length, drop}
use Rattle.quote.proofs.quoter.write.Given as goal

abbrev pub invariant-loop-at : goal.invariant-loop-at
invariant-loop-at l = (length l.out ≡ length l.initial.out) × (l.n ≤ l.at) × IsFine (judge_words (listed (drop l.at l.words))) × Laying (line_of l.words) (rest_line l.n (judge_words (listed (drop l.at l.words)))) l.initial.out 0 l.o l.out

abbrev pub decreases-loop-at : goal.decreases-loop-at
decreases-loop-at l = length l.words - l.at
