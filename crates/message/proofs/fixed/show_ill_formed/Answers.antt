-- `message::fixed::show_ill_formed` meets its contract.
use Rattle.std.proofs.Common.{rules}
use Rattle.buffer.specs.Write.{over, over_at}
use Rattle.buffer.specs.Ascii.{ascii}
use Rattle.message.specs.Messages.{ill_formed}
use Rattle.message.proofs.fixed.show_ill_formed.Goals as goal

pub returns : goal.returns
unfolding ill_formed ascii over over_at
returns c = c.show_by.ensures _ (λ lent left r e. search rules)
