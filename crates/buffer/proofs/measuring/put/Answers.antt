-- `buffer::place::put` meets its contract: what fits is pushed, what does not is left out.
use Rattle.buffer.proofs.Inking.{inked_not}
use Rattle.buffer.proofs.measuring.put.Goals as goal

pub returns-else-end-out : goal.returns-else-end-out
returns-else-end-out c = inked_not _ _ _ c.if-end-out.false
