-- `quote::word::escapes` meets its contract: what is counted and what is still to come make up the whole count, and what is still to come is well-formed.
use Rattle.quote.specs.Inner.{specials}
use Rattle.text.specs.Decoding.{codes_in, well_formed_length}
use Prim.Native.Nat.{◌+◌, ◌≤◌, ◌-◌}
use mathlib.Core.Path.{◌≡◌}
use lib.ListN.{length, drop}
use Rattle.quote.proofs.word.escapes.Given as goal

abbrev pub invariant-loop-at : goal.invariant-loop-at
invariant-loop-at l = (l.at ≤ length l.word) × (l.n ≤ l.at) × (l.n + specials (codes_in (drop l.at l.word)) ≡ specials (codes_in l.word)) × (l.at + well_formed_length (drop l.at l.word) ≡ length l.word)

abbrev pub decreases-loop-at : goal.decreases-loop-at
decreases-loop-at l = length l.word - l.at
