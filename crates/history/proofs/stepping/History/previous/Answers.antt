-- `history::stepping::History::previous` meets its contract.
use Rattle.buffer.proofs.Choices.{then_is, else_is}
use borrow.Author.Tests.{eq-eqb, ne_eqb}
use mathlib.Core.Path.{sym}
use Rattle.history.specs.Steps.{back}
use Rattle.history.proofs.stepping.History.previous.Goals as goal

pub returns-then-self-eq0 : goal.returns-then-self-eq0
unfolding back
returns-then-self-eq0 c = sym (then_is _ _ _ (eq-eqb _ _ c.if-self-eq0.true))

pub returns : goal.returns
unfolding back
returns c = sym (else_is _ _ _ (ne_eqb _ _ c.if-self-eq0.false))
