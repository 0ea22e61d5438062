-- `help::word::put_words` meets its contract: whoever writes the words that are left has written them all.
use Rattle.help.proofs.SpacedWords.{OnLine}
use Prim.Native.Nat.{◌-◌}
use lib.ListN.{length}
use Rattle.help.proofs.word.put_words.Given as goal

abbrev pub invariant-loop-word : goal.invariant-loop-word
invariant-loop-word l = OnLine l.line l.initial.out l.at l.out l.place l.end

abbrev pub decreases-loop-word : goal.decreases-loop-word
decreases-loop-word l = length l.line - l.place
