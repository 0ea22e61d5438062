-- `text::utf8::well_formed_prefix` meets its contract. The place reached and the well-formed length of what is left give that of the whole.
use Rattle.text.specs.Decoding.{well_formed_length}
use Prim.Native.Nat.{◌+◌, ◌≤◌, ◌-◌}
use mathlib.Core.Path.{◌≡◌}
use lib.ListN.{length, drop}
use Rattle.text.proofs.utf8.well_formed_prefix.Given as goal

abbrev pub invariant-loop-at : goal.invariant-loop-at
invariant-loop-at l = (l.at ≤ length l.s) × (l.at + well_formed_length (drop l.at l.s) ≡ well_formed_length l.s)

abbrev pub decreases-loop-at : goal.decreases-loop-at
decreases-loop-at l = length l.s - l.at
