-- `help::show::put_available` meets its contract: the rows between the fixed lines.
use Rattle.buffer.proofs.Inking.{inked_three}
use Rattle.help.specs.Texts.{available_head, available_foot, available_text}
use Rattle.buffer.specs.Ascii.{ascii}
use Rattle.help.proofs.show.put_available.Goals as goal

pub returns : goal.returns
unfolding available_text available_head available_foot ascii
returns c =
    inked_three _ _ _ _ _ _ _ _ _ _ _ c.put-start.ensures c.put_rows-end.ensures.inked c.put.ensures
