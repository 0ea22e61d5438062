-- `text::utf8::longer_length` meets its contract: a letter is as long as the decoder has it.
use Rattle.text.proofs.Letters.{length_letter}
use Rattle.text.proofs.utf8.longer_length.Goals as goal

pub returns-in-Some : goal.returns-in-Some
returns-in-Some c =
    length_letter c.args.s.now c.args.at _ c.in-Some.ensures
