-- `quote::word::is_plain` meets its contract: the characters still to come decide it as all of them do, and the first that is not quiet ends it.
use Rattle.quote.specs.Inner.{plain_word}
use Prim.Native.Nat.{◌-◌}
use mathlib.Core.Path.{◌≡◌}
use lib.ListN.{length, drop}
use Rattle.quote.proofs.word.is_plain.Given as goal

abbrev pub invariant-loop-at : goal.invariant-loop-at
invariant-loop-at l = plain_word (drop l.at l.word) ≡ plain_word l.word

abbrev pub decreases-loop-at : goal.decreases-loop-at
decreases-loop-at l = length l.word - l.at
