-- `tree::walk::one_more` meets its contract.
use Rattle.std.proofs.Common.{arith}
use Rattle.std.proofs.lemmas.Bool.Decides.{nat_tests}
use Rattle.tree.specs.Inner.{one_more}
use Rattle.tree.proofs.walk.one_more.Goals as goal
use Rattle.tree.proofs.walk.one_more.Goals.{then-walk-eq0-via-then-walk-eq0, then-walk-eq0-via-else-walk-eq0+then-listed-ge32}

pub returns-then-walk-eq0 : goal.returns-then-walk-eq0
unfolding one_more
returns-then-walk-eq0 c =
    elim c.then-walk-eq0.branch [
      | then-walk-eq0-via-then-walk-eq0 w ↦ grind (arith, nat_tests)
      | then-walk-eq0-via-else-walk-eq0+then-listed-ge32 w ↦ grind (arith, nat_tests)
    ]

pub returns : goal.returns
unfolding one_more
returns c = grind (arith, nat_tests)
