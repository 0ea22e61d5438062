-- `history::forgetting::total_of` meets its contract. The sum is that of the entries from start up to i.
use Prim.Native.Nat.{◌-◌}
use mathlib.Core.Path.{◌≡◌}
use lib.ListN.{take, drop}
use Rattle.history.specs.Entries.{total}
use Rattle.history.specs.Journal.{journal_of}
use Rattle.history.proofs.forgetting.total_of.Given as goal

abbrev pub invariant-loop-i : goal.invariant-loop-i
invariant-loop-i l = l.sum ≡ total (take (l.i - l.start) (drop l.start (journal_of l.history l.slots).entries))
