-- `taking::take_piece` meets its contract: each turn leaves a stream that the steps lead to, and the turns are counted.
use Rattle.stream.specs.Held.{Sound}
use Prim.Native.Nat.{◌≤◌}
use mathlib.Core.Path.{◌≡◌}
use lib.ListN.{length}
use Rattle.replay_session.proofs.taking.take_piece.Given as goal

abbrev pub invariant-loop : goal.invariant-loop
invariant-loop l = Sound l.here.stream l.line l.image l.slots × (l.here.took ≤ length l.piece) × (length l.out ≡ length l.initial.out) × (length l.answer ≡ length l.initial.answer)
