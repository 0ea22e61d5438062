-- `shell::fault::show_no_handler` meets its contract: the words joined are what stands after the first space.
use mathlib.Core.Path.{sym, ◌∙◌}
use native.Mathlib.Omega.{arith}
use lib.Seq.{length-take-le}
use Rattle.shell.proofs.Faults.{joined_short, path_joined}
use Rattle.shell.proofs.fault.show_no_handler.Goals as goal

pub slice_bounds-rest-end : goal.slice_bounds-rest-end
slice_bounds-rest-end c =
    sym (length-take-le _ _ (omega arith))

pub show_message-requires : goal.show_message-requires
show_message-requires c =
    joined_short _ _ c.put_path-end.result c.rest.ensures (omega arith)

pub returns : goal.returns
returns c =
    rw (c.rest.ensures ∙ path_joined c.args.path.now _ _ _ c.put_path-end.ensures.0 (omega arith)) at c.show_message.ensures
