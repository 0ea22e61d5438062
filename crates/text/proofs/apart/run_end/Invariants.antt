-- `text::apart::run_end` meets its contract. The place reached and the length of the run there give the end of the run.
use Rattle.text.specs.Apart.{run_of}
use Rattle.text.specs.Decoding.{pieces_of, bytes_all}
use Prim.Native.Nat.{◌+◌, ◌≤◌, ◌-◌}
use mathlib.Core.Path.{◌≡◌}
use lib.ListN.{length, drop}
use Rattle.text.proofs.apart.run_end.Given as goal

abbrev pub invariant-loop-seen : goal.invariant-loop-seen
invariant-loop-seen l = (l.at ≤ length l.s) × (l.at + length (bytes_all (run_of l.is_white (pieces_of (drop l.at l.s)))) ≡ l.from + length (bytes_all (run_of l.is_white (pieces_of (drop l.from l.s)))))

abbrev pub decreases-loop-seen : goal.decreases-loop-seen
decreases-loop-seen l = length l.s - l.at
