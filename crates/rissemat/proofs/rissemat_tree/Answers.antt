-- `rissemat::rissemat_tree` meets its contract.
use Rattle.rissemat.proofs.Answering.{tree_call}
use Rattle.rissemat.proofs.rissemat_tree.Goals as goal

pub returns : goal.returns
returns c = tree_call c.of_tree.result c.packed.result c.check_tree.ensures c.of_tree.ensures c.packed.ensures
