-- `message::debug::put_digits` meets its contract: one digit, or two.
use native.Mathlib.Omega.{arith}
use Rattle.message.proofs.Debugging.{one_digit, two_digits}
use Rattle.buffer.proofs.Inking.{inked_as, inked_both}
use Rattle.message.proofs.debug.put_digits.Goals as goal

pub returns-then-n-lt16 : goal.returns-then-n-lt16
returns-then-n-lt16 c =
    (inked_as _ _ _ _ _ _ (one_digit c.args.n _ (omega arith) c.hex_digit.ensures) c.put_byte.ensures, omega arith)

pub returns : goal.returns
returns c =
    (inked_as _ _ _ _ _ _ (two_digits c.args.n _ _ (omega arith) c.hex_digit-2.ensures c.hex_digit-3.ensures) (inked_both _ _ _ _ _ _ _ _ c.put_byte-low.ensures c.put_byte-2.ensures), omega arith)
