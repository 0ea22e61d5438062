-- `rissemat::pack::packed` meets its contract.
use Rattle.rissemat.specs.Packed.{answered}
use Rattle.rissemat.proofs.pack.packed.Goals as goal

pub returns : goal.returns
unfolding answered
returns c = cc
