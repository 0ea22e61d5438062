-- `taking::take_all` is safe and ends: each turn passes a piece, and leaves a stream that the steps lead to.
use Rattle.stream.specs.Held.{Sound}
use mathlib.Core.Path.{◌≡◌}
use lib.ListN.{length}
use Rattle.replay_session.proofs.taking.take_all.Given as goal

abbrev pub invariant-loop-piece : goal.invariant-loop-piece
invariant-loop-piece l = Sound l.told.stream l.line l.image l.slots × (length l.out ≡ length l.initial.out) × (length l.answer ≡ length l.initial.answer) × (length l.initial.slots ≡ 25600)
