-- `message::fixed::show_clear` meets its contract.
use Rattle.std.proofs.Common.{rules}
use Rattle.buffer.specs.Ascii.{ascii}
use Rattle.message.specs.Messages.{clear_screen}
use Rattle.message.proofs.fixed.show_clear.Goals as goal

pub returns : goal.returns
unfolding clear_screen ascii
returns c = c.show_by.ensures _ (λ lent left r e. search rules)
