-- `rissemat::rissemat_parse` meets its contract.
use Rattle.rissemat.proofs.Answering.{parse_call}
use Rattle.rissemat.proofs.rissemat_parse.Goals as goal

pub returns : goal.returns
returns c =
    parse_call c.of_parse.result c.packed.result c.parse.ensures c.of_parse.ensures c.packed.ensures
