-- `message::fixed::show_goodbye` meets its contract.
use Rattle.std.proofs.Common.{rules}
use Rattle.buffer.specs.Ascii.{ascii}
use Rattle.message.specs.Messages.{goodbye}
use Rattle.message.proofs.fixed.show_goodbye.Goals as goal

pub returns : goal.returns
unfolding goodbye ascii
returns c = c.show_by.ensures _ (λ lent left r e. search rules)
