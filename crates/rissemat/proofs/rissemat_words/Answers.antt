-- `rissemat::rissemat_words` meets its contract.
use Rattle.rissemat.proofs.Answering.{words_call}
use Rattle.rissemat.proofs.rissemat_words.Goals as goal

pub returns : goal.returns
returns c =
    words_call c.of_words.result c.packed.result c.tokenize.ensures c.of_words.ensures c.packed.ensures
