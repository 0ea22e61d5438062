-- `shell::fault::show_dashed` meets its contract: what is put together is the dashes and the text.
use native.Mathlib.Omega.{arith}
use Rattle.shell.proofs.Faults.{dashed_put}
use Rattle.shell.proofs.fault.show_dashed.Goals as goal

pub returns : goal.returns
returns c =
    rw (dashed_put c.args.dashes _ c.args.text.now _ _ _ (omega arith) (c.fill.ensures.after (λ y e. e)) c.push-end.ensures) at c.show_message.ensures
