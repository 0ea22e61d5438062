-- `session::refuse` meets its contract: the frame 2F is written as a house line, which is the last.
use Rattle.session.specs.Prints.{frame_of}
use Rattle.session.proofs.Turns.{refusal_told}
use Rattle.session.proofs.pressing.refuse.Goals as goal

pub returns-in-Ok : goal.returns-in-Ok
unfolding frame_of
returns-in-Ok c =
    refusal_told c.args.number c.args.out.now _ _ (rw c.in-Ok.is at (rw c.head.ensures at c.write_line.ensures))

pub returns-in-Err : goal.returns-in-Err
unfolding frame_of
returns-in-Err c =
    refusal_told c.args.number c.args.out.now _ _ (rw c.in-Err.is at (rw c.head.ensures at c.write_line.ensures))
