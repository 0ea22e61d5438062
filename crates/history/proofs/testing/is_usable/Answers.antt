-- `history::testing::is_usable` meets its contract.
use mathlib.Core.Path.{sym, ap, ◌∙◌}
use mathlib.Core.Bool.{not}
use borrow.Author.Tests.{lt-ltb}
use Rattle.buffer.proofs.Choices.{then_is, else_is}
use Rattle.history.specs.Entries.{usable}
use Rattle.history.proofs.Passing.{usable_solid, usable_low}
use Rattle.history.proofs.testing.is_usable.Goals as goal

pub returns-then-top-gt32 : goal.returns-then-top-gt32
returns-then-top-gt32 c =
    lt-ltb _ _ c.if-top-gt32.true ∙ usable_solid c.args.text.now _ c.requires c.if-top-lt128.true c.if-top-gt32.true

pub returns-else-top-gt32 : goal.returns-else-top-gt32
returns-else-top-gt32 c =
    usable_low c.args.text.now _ _ c.requires c.if-top-lt128.true c.is_blank.ensures

pub returns-then-not-is_blank : goal.returns-then-not-is_blank
unfolding usable
returns-then-not-is_blank c = c.is_well_formed.ensures ∙ sym (else_is _ _ _ (sym c.is_blank-2.ensures ∙ c.if-not-is_blank.true))

pub returns-else-not-is_blank : goal.returns-else-not-is_blank
unfolding usable
returns-else-not-is_blank c = ap not c.if-not-is_blank.false ∙ sym (then_is _ _ _ (sym c.is_blank-2.ensures ∙ c.if-not-is_blank.false))
