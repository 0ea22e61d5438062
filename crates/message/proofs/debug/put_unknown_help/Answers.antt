-- `message::debug::put_unknown_help` meets its contract: three texts in a row.
use Rattle.message.specs.Debug.{unknown_help}
use Rattle.buffer.proofs.Inking.{inked_three}
use Rattle.buffer.specs.Ascii.{ascii}
use Rattle.message.proofs.debug.put_unknown_help.Goals as goal

pub returns : goal.returns
unfolding unknown_help ascii
returns c =
    inked_three (ascii "Error: UnknownCommand(\"") _ (ascii "\")\n") _ _ _ _ _ _ _ _ c.put-start.ensures c.put_word-end.ensures.inked c.put.ensures
