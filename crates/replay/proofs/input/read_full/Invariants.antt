-- `input::read_full` ends: each turn reads a byte at least, and the buffer keeps its length.
use Prim.Native.Nat.{◌≤◌, ◌-◌}
use mathlib.Core.Path.{◌≡◌}
use lib.ListN.{length}
use Rattle.replay.proofs.input.read_full.Given as goal

abbrev pub invariant-loop-done : goal.invariant-loop-done
invariant-loop-done o l = (l.done ≤ length l.input) × (length l.input ≡ length l.initial.input)

abbrev pub decreases-loop-done : goal.decreases-loop-done
decreases-loop-done o l = length l.input - l.done
