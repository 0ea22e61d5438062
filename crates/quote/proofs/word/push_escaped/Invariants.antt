-- `quote::word::push_escaped` meets its contract: each character is a write right after those before it.
use Rattle.quote.proofs.Laying.{Laying}
use Rattle.quote.specs.Shown.{escaped}
use Rattle.text.specs.Decoding.{codes_in, well_formed_length}
use Rattle.text.specs.Unicode.{encode_all}
use Prim.Native.Nat.{◌+◌, ◌-◌}
use mathlib.Core.Path.{◌≡◌}
use lib.ListN.{length, drop}
use Rattle.quote.proofs.word.push_escaped.Given as goal

abbrev pub invariant-loop-at : goal.invariant-loop-at
invariant-loop-at l = (length l.out ≡ length l.initial.out) × Laying (encode_all (escaped (codes_in l.word))) (encode_all (escaped (codes_in (drop l.at l.word)))) l.initial.out l.start l.o l.out × (l.at + well_formed_length (drop l.at l.word) ≡ length l.word)

abbrev pub decreases-loop-at : goal.decreases-loop-at
decreases-loop-at l = length l.word - l.at
