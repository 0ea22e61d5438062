-- `history::testing::is_repeated` meets its contract.
use mathlib.Core.Path.{sym, ap, ◌∙◌}
use mathlib.Core.Bool.{not}
use borrow.Author.Tests.{eq-eqb}
use native.Mathlib.Omega.{arith}
use Rattle.buffer.proofs.Choices.{true_is_not_false}
use Rattle.history.proofs.Passing.{none_before, heads_tell, two_slots}
use Rattle.history.proofs.testing.is_repeated.Goals as goal
use Rattle.history.proofs.testing.is_repeated.Goals.{then-k-ne0, else-k-ne0}

pub returns-then-same_throughout : goal.returns-then-same_throughout
returns-then-same_throughout c =
    elim c.if-k-ne0.branch [
      | then-k-ne0 w ↦ c.same_throughout-then-same_throughout.ensures ∙ two_slots c.args.k c.args.slots.now c.args.before c.args.at w.if-k-ne0.true
      | else-k-ne0 w ↦ absurd (true_is_not_false (sym c.if-same_throughout.true ∙ w.value-is ∙ ap not (eq-eqb _ _ w.if-k-ne0.false)))
    ]

pub returns-else-same_throughout : goal.returns-else-same_throughout
returns-else-same_throughout c =
    c.if-same_throughout.false
    ∙ elim c.if-k-ne0.branch [
      | then-k-ne0 w ↦ heads_tell c.args.k c.args.slots.now c.args.before c.args.at w.if-k-ne0.true (sym w.same_throughout.ensures ∙ sym w.value-is ∙ c.if-same_throughout.false)
      | else-k-ne0 w ↦ none_before c.args.k c.args.slots.now c.args.before c.args.at (omega arith) (omega arith)
    ]
