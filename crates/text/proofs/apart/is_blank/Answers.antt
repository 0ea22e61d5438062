-- `text::apart::is_blank` meets its contract.
use Rattle.text.proofs.Splits.{blank_is}
use Rattle.text.proofs.apart.is_blank.Goals as goal

pub returns : goal.returns
returns c = blank_is _ _ c.run_end.ensures
