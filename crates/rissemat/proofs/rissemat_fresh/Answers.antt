-- `rissemat::rissemat_fresh` meets its contract.
use Rattle.rissemat.proofs.rissemat_fresh.Goals as goal

pub returns : goal.returns
returns c =
    rw c.from.ensures at c.rissemat_fresh_with.ensures
