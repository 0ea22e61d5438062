-- `lookup::node::find_node` meets its contract: the node, and where its subtree ends.
use mathlib.Core.Path.{◌∙◌}
use Rattle.lookup.proofs.Parts.{find_none, find_some}
use Rattle.lookup.proofs.node.find_node.Goals as goal

pub returns-in_err-start : goal.returns-in_err-start
returns-in_err-start c = c.from_residual.ensures ∙ find_none c.args.image.now c.args.depth c.args.name.now _ c.seek.ensures c.in_err-start.was

pub returns : goal.returns
returns c =
    find_some c.args.image.now c.args.depth c.args.name.now _ c.seek.ensures _ _ c.in_ok-start.was c.subtree_end.ensures
