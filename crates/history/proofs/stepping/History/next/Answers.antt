-- `history::stepping::History::next` meets its contract.
use Rattle.buffer.proofs.Choices.{else_is}
use borrow.Author.Tests.{le-ltb}
use mathlib.Core.Path.{sym}
use Rattle.history.specs.Steps.{onward}
use Rattle.history.proofs.Steps.{onward_end, onward_entry}
use Rattle.history.proofs.stepping.History.next.Goals as goal

pub returns-then-self : goal.returns-then-self
unfolding onward
returns-then-self c = sym (else_is _ _ _ (le-ltb _ _ c.if-self.true))

pub returns-then-place-self : goal.returns-then-place-self
returns-then-place-self c = sym (onward_entry _ c.if-place-self.true)

pub returns-else-place-self : goal.returns-else-place-self
returns-else-place-self c = sym (onward_end _ c.if-self.false c.if-place-self.false)
