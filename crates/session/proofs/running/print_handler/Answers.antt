-- `session::running::print_handler` meets its contract: the head stands right before the report.
use lib.ListN.{take}
use Prim.Native.Nat.{ℕ}
use mathlib.Core.List.{List}
use Prim.Native.Nat.{◌+◌}
use mathlib.Core.Path.{ap, sym, ◌∙◌}
use Rattle.session.proofs.Runs.{handler_frame}
use Rattle.session.proofs.running.print_handler.Goals as goal

pub returns : goal.returns
returns c =
    let e = ap (λ (x : List ℕ). take (3 + c.args.size) x) c.put_head.ensures ∙ handler_frame c.args.text.now c.args.size c.requires.0 c.requires.1 c.args.handler in
    rw (sym e) c.print_first.ensures
