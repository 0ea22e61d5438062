-- `taking::take_all` is safe and ends: each turn passes a piece, and leaves a stream that the steps lead to.
use Rattle.stream.proofs.Steppings.{reads_so}
use Rattle.replay_session.proofs.Turns.{begins}
use native.Mathlib.Omega.{arith}
use mathlib.Core.Path.{refl}
use Rattle.std.proofs.Common.{rules}
use Rattle.replay_session.proofs.taking.take_all.Goals as goal

pub loop-piece-init : goal.loop-piece-init
loop-piece-init c = let r = begins _ _ _ _ c.requires.0 c.requires.1 c.requires.2 in (rw c.start.ensures r, refl, refl, r.ready.slot)

pub take_piece-told-requires : goal.take_piece-told-requires
take_piece-told-requires c =
    (c.loop-piece.invariant.0, omega arith)

pub loop-piece-preserved : goal.loop-piece-preserved
loop-piece-preserved c =
    (c.take_piece-told.ensures, search rules, search rules, c.loop-piece.invariant.3)

pub end-requires : goal.end-requires
end-requires c =
    (λ e. let r = reads_so _ e in c.loop-piece.invariant.0.early r.0 r.1, omega arith)
