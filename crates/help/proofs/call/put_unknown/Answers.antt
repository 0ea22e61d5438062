-- `help::call::put_unknown` meets its contract: one law for each way out.
use Rattle.help.proofs.Answers.{unknown_no_room, unknown_written}
use native.Mathlib.Omega.{arith}
use Rattle.help.proofs.call.put_unknown.Goals as goal

pub returns-then-out-needed : goal.returns-then-out-needed
returns-then-out-needed c = unknown_no_room _ _ _ (c.frame_size-needed.ensures 0x1e) c.if-out-needed.true

pub write_frame-requires : goal.write_frame-requires
write_frame-requires c =
    let k = c.frame_size-needed.ensures 0x1e in (omega arith, omega arith)

pub returns : goal.returns
returns c =
    unknown_written _ _ _ (c.frame_size-needed.ensures 0x1e) _ _ c.if-out-needed.false c.write_frame.ensures
