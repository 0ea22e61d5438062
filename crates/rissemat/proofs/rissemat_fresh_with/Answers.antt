-- `rissemat::rissemat_fresh_with` meets its contract.
use Rattle.rissemat.proofs.Answering.{fresh_call}
use Rattle.rissemat.proofs.rissemat_fresh_with.Goals as goal

pub returns : goal.returns
returns c =
    fresh_call c.of_fresh.result c.packed.result c.begin.ensures c.of_fresh.ensures c.packed.ensures
