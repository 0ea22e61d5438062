-- `message::error::put_message` meets its contract: by what is told.
use Rattle.message.proofs.MessageParts.{message_is}
use Rattle.buffer.proofs.Inking.{inked_as}
use Rattle.buffer.specs.Ascii.{ascii}
use Rattle.message.proofs.error.put_message.Goals as goal

pub returns-in-UnknownCommand : goal.returns-in-UnknownCommand
unfolding ascii
returns-in-UnknownCommand c =
    inked_as _ _ _ _ _ _ (message_is _ _ _ c.in-UnknownCommand.is) c.put_between.ensures

pub returns-in-UnknownOption : goal.returns-in-UnknownOption
unfolding ascii
returns-in-UnknownOption c =
    inked_as _ _ _ _ _ _ (message_is _ _ _ c.in-UnknownOption.is) c.put_between-in-UnknownOption.ensures

pub returns-in-MissingValue : goal.returns-in-MissingValue
unfolding ascii
returns-in-MissingValue c =
    inked_as _ _ _ _ _ _ (message_is _ _ _ c.in-MissingValue.is) c.put_between-in-MissingValue.ensures

pub returns-in-MissingRequired : goal.returns-in-MissingRequired
unfolding ascii
returns-in-MissingRequired c =
    inked_as _ _ _ _ _ _ (message_is _ _ _ c.in-MissingRequired.is) c.put_between-in-MissingRequired.ensures

pub returns-in-NoHandler : goal.returns-in-NoHandler
unfolding ascii
returns-in-NoHandler c =
    inked_as _ _ _ _ _ _ (message_is _ _ _ c.in-NoHandler.is) c.put_between-in-NoHandler.ensures
