-- `standing::Stream::is_busy` meets its contract.
use Rattle.stream.specs.Held.{busy_with}
use Rattle.buffer.proofs.Choices.{then_is, else_is}
use mathlib.Core.Path.{sym, ◌∙◌}
use Rattle.stream.proofs.standing.Stream.is_busy.Goals as goal

pub returns-then-self : goal.returns-then-self
unfolding busy_with
returns-then-self c = c.if-self.true ∙ sym (then_is _ _ _ c.if-self.true)

pub returns-else-self : goal.returns-else-self
unfolding busy_with
returns-else-self c = sym (else_is _ _ _ c.if-self.false)
