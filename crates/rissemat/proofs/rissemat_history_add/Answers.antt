-- `rissemat::rissemat_history_add` meets its contract.
use Rattle.rissemat.proofs.Answering.{add_call}
use Rattle.rissemat.proofs.rissemat_history_add.Goals as goal

pub returns : goal.returns
returns c =
    add_call c.of_add.result c.packed.result c.add.ensures c.of_add.ensures c.packed.ensures
