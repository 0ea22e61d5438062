-- `history::testing::next_place` meets its contract.
use mathlib.Core.Path.{sym}
use borrow.Author.Tests.{lt-ltb, le-ltb}
use Rattle.buffer.proofs.Choices.{then_is, else_is}
use Rattle.history.specs.Inner.{next_place}
use Rattle.history.proofs.testing.next_place.Goals as goal

pub returns-then-next-lt-SLOTS : goal.returns-then-next-lt-SLOTS
unfolding next_place
returns-then-next-lt-SLOTS c = sym (then_is _ _ _ (lt-ltb _ _ c.if-next-lt-SLOTS.true))

pub returns-else-next-lt-SLOTS : goal.returns-else-next-lt-SLOTS
unfolding next_place
returns-else-next-lt-SLOTS c = sym (else_is _ _ _ (le-ltb _ _ c.if-next-lt-SLOTS.false))
