-- `tree::growing::has_room` meets its contract: the first test that fails decides.
use Rattle.tree.proofs.OneFrameMore.{too_deep, too_large, room_decides}
use native.Mathlib.Omega.{arith}
use Rattle.tree.proofs.growing.has_room.Goals as goal

pub returns-then-walk-gt8 : goal.returns-then-walk-gt8
returns-then-walk-gt8 c = too_deep _ _ _ c.if-walk-gt8.true

pub returns-then-walk-gt-IMAGE_LIMIT : goal.returns-then-walk-gt-IMAGE_LIMIT
returns-then-walk-gt-IMAGE_LIMIT c = too_large _ _ _ c.if-walk-gt8.false (omega (arith, c.if-walk-gt-IMAGE_LIMIT.true))

pub returns-then-walk-size : goal.returns-then-walk-size
returns-then-walk-size c =
    too_large _ _ _ c.if-walk-gt8.false (omega (arith, c.if-walk-gt-IMAGE_LIMIT.false, c.if-walk-size.true))

pub returns : goal.returns
returns c =
    room_decides _ _ _ c.if-walk-gt8.false (omega (arith, c.if-walk-gt-IMAGE_LIMIT.false, c.if-walk-size.false))
