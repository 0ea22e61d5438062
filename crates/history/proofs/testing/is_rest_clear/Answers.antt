-- `history::testing::is_rest_clear` meets its contract.
use mathlib.Core.Path.{◌∙◌}
use native.Mathlib.Omega.{arith}
use borrow.Author.Tests.{ne_eqb}
use Rattle.history.proofs.Passing.{rest_used, rest_before, rest_between}
use Rattle.history.proofs.testing.is_rest_clear.Goals as goal

pub returns-then-greatest_byte-eq0 : goal.returns-then-greatest_byte-eq0
returns-then-greatest_byte-eq0 c =
    rest_before c.args.first c.args.slots.now c.requires.1 c.requires.0 c.args.count _ c.if-end-lt-MOST.true c.greatest_byte.ensures _ c.if-greatest_byte-eq0.true c.greatest_byte-then-greatest_byte-eq0.ensures

pub returns-else-greatest_byte-eq0 : goal.returns-else-greatest_byte-eq0
returns-else-greatest_byte-eq0 c =
    ne_eqb _ _ c.if-greatest_byte-eq0.false ∙ rest_used c.args.first c.args.slots.now c.requires.1 c.requires.0 c.args.count _ c.if-end-lt-MOST.true c.greatest_byte.ensures c.if-greatest_byte-eq0.false

pub returns : goal.returns
returns c =
    rest_between c.args.first c.args.slots.now c.requires.1 c.requires.0 c.args.count _ (omega arith) c.requires.2 c.greatest_byte-2.ensures
