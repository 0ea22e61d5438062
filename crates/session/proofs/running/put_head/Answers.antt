-- `session::running::put_head` meets its contract.
use Rattle.session.proofs.running.put_head.Goals as goal

pub returns : goal.returns
returns c = rw c.head.ensures at c.copy.ensures.bytes
