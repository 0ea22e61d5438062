-- `message::debug::put_word` meets its contract: whoever writes the bytes that are left has written them all.
use Rattle.message.proofs.Debugging.{arrives, goes_on_lem}
use native.Mathlib.Omega.{arith}
use Rattle.message.proofs.debug.put_word.Goals as goal

pub loop-byte-preserved : goal.loop-byte-preserved
loop-byte-preserved c =
    goes_on_lem _ _ _ _ _ _ c.loop-byte.invariant _ _ (omega arith) c.put_debug-end.ensures.0 c.put_debug-end.ensures.1

pub returns : goal.returns
returns c = arrives _ _ _ _ _ _ c.loop-byte.invariant (omega arith)
