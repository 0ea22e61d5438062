-- `message::debug::put_code` meets its contract: three texts in a row.
use Rattle.message.specs.Debug.{code_text}
use Rattle.buffer.proofs.Inking.{inked_three}
use Rattle.buffer.specs.Ascii.{ascii}
use native.Mathlib.Omega.{arith}
use Rattle.message.proofs.debug.put_code.Goals as goal

pub returns : goal.returns
unfolding code_text ascii
returns c =
    (inked_three (ascii "\\u{") _ (ascii "}") _ _ _ _ _ _ _ _ c.put-digits.ensures c.put_digits-end.ensures.0 c.put.ensures, omega arith)
