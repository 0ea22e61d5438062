-- `shell::handler::handler_of` meets its contract: by the head of the first frame.
use mathlib.Core.Path.{sym}
use native.Mathlib.Omega.{arith}
use Rattle.buffer.specs.Numbers.{Bytes}
use Rattle.image.proofs.HeadBytes.{node_bytes}
use Rattle.shell.proofs.Handlers.{handler_there, handler_lacking, handler_none}
use borrow.Enum.Refused.{opened}
use Rattle.shell.proofs.handler.handler_of.Goals as goal

pub returns-in_default : goal.returns-in_default
returns-in_default c =
    handler_none c.args.frames.now _ (sym c.head_of.ensures) (opened c.in_default.in_default-own.keys2)

pub returns-then-handler-eq0 : goal.returns-then-handler-eq0
returns-then-handler-eq0 c =
    handler_lacking c.args.frames.now _ _ _ (sym c.in-Node.ensures) (omega arith)

pub overflow_cast-result : goal.overflow_cast-result
unfolding Bytes
overflow_cast-result c =
    let h = node_bytes c.args.frames.now _ _ _ (sym c.in-Node.ensures) (λ i. (c.type_inv.frames i).fits) in omega arith

pub returns : goal.returns
returns c =
    handler_there c.args.frames.now _ _ _ (sym c.in-Node.ensures) (λ z. omega arith)
