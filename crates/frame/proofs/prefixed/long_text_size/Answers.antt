-- `frame::long_text_size` meets its contract: two bytes of length and the text.
use Rattle.frame.proofs.Texts.{length_text_of}
use mathlib.Core.Path.{sym}
use Rattle.frame.proofs.prefixed.long_text_size.Goals as goal

pub returns : goal.returns
returns c = sym (length_text_of 2 _)
