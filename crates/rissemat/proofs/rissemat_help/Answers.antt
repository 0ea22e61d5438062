-- `rissemat::rissemat_help` meets its contract.
use Rattle.rissemat.proofs.Answering.{help_call}
use Rattle.rissemat.proofs.rissemat_help.Goals as goal

pub returns : goal.returns
returns c =
    help_call c.of_help.result c.packed.result c.help.ensures c.of_help.ensures c.packed.ensures
