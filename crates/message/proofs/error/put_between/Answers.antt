-- `message::error::put_between` meets its contract: three texts in a row.
use Rattle.buffer.proofs.Inking.{inked_three}
use native.Mathlib.Omega.{arith}
use Rattle.message.proofs.error.put_between.Goals as goal

pub put-requires : goal.put-requires
put-requires c =
    omega arith

pub returns : goal.returns
returns c =
    inked_three _ _ _ _ _ _ _ _ _ _ _ c.put-start.ensures c.put-end.ensures c.put.ensures
