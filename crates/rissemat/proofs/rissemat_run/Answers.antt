-- `rissemat::rissemat_run` meets its contract.
use Rattle.rissemat.proofs.Answering.{run_call}
use Rattle.rissemat.proofs.rissemat_run.Goals as goal

pub returns : goal.returns
returns c =
    run_call c.of_run.result c.packed.result c.run.ensures c.of_run.ensures c.packed.ensures
