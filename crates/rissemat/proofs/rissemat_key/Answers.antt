-- `rissemat::rissemat_key` meets its contract.
use Rattle.rissemat.proofs.Answering.{key_call}
use Rattle.rissemat.proofs.rissemat_key.Goals as goal

pub returns : goal.returns
returns c =
    key_call c.of_key.result c.packed.result c.press.ensures c.of_key.ensures c.packed.ensures
