-- `history::testing::are_good` meets its contract. What is still to judge and to add up, from entry k on, is what there was.
use mathlib.Core.Path.{◌≡◌}
use Prim.Native.Nat.{◌-◌, ◌*◌, ◌≤◌}
use Rattle.history.specs.Slots.{slot_after}
use Rattle.history.proofs.Passing.{Judges, Tallies}
use Rattle.history.proofs.testing.are_good.Given as goal

abbrev pub invariant-loop-k : goal.invariant-loop-k
invariant-loop-k l = (l.at ≡ 256 * slot_after l.first l.k) × (l.before ≡ 256 * slot_after l.first (l.k - 1)) × Judges l.first l.slots l.count l.k × (l.sum ≤ 255 * l.k) × Tallies l.first l.slots l.count l.k l.sum
