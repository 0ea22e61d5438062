-- `taking::take_piece` meets its contract: each turn leaves a stream that the steps lead to, and the turns are counted.
use mathlib.Core.Path.{refl}
use Rattle.std.proofs.Common.{rules}
use Rattle.replay_session.proofs.taking.take_piece.Goals as goal

pub loop-init : goal.loop-init
loop-init c =
    (c.requires.0, c.requires.1, refl, refl)

pub returns-then-is_done : goal.returns-then-is_done
returns-then-is_done c = c.loop.invariant.0

pub turn-here-requires : goal.turn-here-requires
turn-here-requires c =
    (c.loop.invariant.0, c.loop.invariant.1)

pub loop-preserved : goal.loop-preserved
loop-preserved c = (c.turn-here.ensures.0, c.turn-here.ensures.1, search rules, search rules)

pub returns : goal.returns
returns c = c.loop.invariant.0
