-- `rissemat::rissemat_history_forget` meets its contract.
use Rattle.rissemat.proofs.Answering.{forget_call}
use Rattle.rissemat.proofs.rissemat_history_forget.Goals as goal

pub returns : goal.returns
returns c =
    forget_call c.of_forget.result c.packed.result c.forget.ensures c.of_forget.ensures c.packed.ensures
