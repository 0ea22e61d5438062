-- `report::series::words_size` meets its contract: a word takes as many bytes as it is read from, and what is left takes the rest.
use Rattle.frame.specs.Framed.{frame_of}
use Rattle.frame.specs.Series.{texts_in, runs}
use Rattle.report.proofs.Words.{words_at}
use Prim.Native.Nat.{ℕ, ◌+◌, ◌-◌, ◌≤◌}
use mathlib.Core.Path.{◌≡◌}
use lib.ListN.{length}
use Rattle.report.proofs.series.words_size.Given as goal

abbrev pub invariant-loop-at : goal.invariant-loop-at
invariant-loop-at l = (l.at ≤ length l.words) × ((kind : ℕ) → l.at + length (words_at kind l.words l.at) ≡ length (runs (frame_of kind) (texts_in l.words)))

abbrev pub decreases-loop-at : goal.decreases-loop-at
decreases-loop-at l = length l.words - l.at
