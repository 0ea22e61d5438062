-- `help::show::put_lists` meets its contract: three lists in a row.
use Rattle.buffer.proofs.Inking.{inked_three}
use Rattle.help.specs.Texts.{lists}
use Rattle.buffer.specs.Ascii.{ascii}
use Rattle.help.proofs.show.put_lists.Goals as goal

pub returns : goal.returns
unfolding lists ascii
returns c =
    inked_three _ _ _ _ _ _ _ _ _ _ _ c.put_titled-options.ensures.0 c.put_titled-flags.ensures.0 c.put_titled.ensures.0
