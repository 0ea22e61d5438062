-- `rissemat::rissemat_quote` meets its contract.
use Rattle.rissemat.proofs.Answering.{quote_call}
use Rattle.rissemat.proofs.rissemat_quote.Goals as goal

pub returns : goal.returns
returns c =
    quote_call c.of_quote.result c.packed.result c.quote.ensures c.of_quote.ensures c.packed.ensures
