-- `lookup::node::subtree_end` meets its contract: the node's head tells where the search for the end begins.
use Rattle.lookup.proofs.Parts.{end_none, node_fits, end_by_lem}
use Rattle.lookup.specs.Nodes.{or_end}
use native.Mathlib.Omega.{arith}
use mathlib.Core.Path.{sym, ap, ◌∙◌}
use borrow.Enum.Refused.{opened}
use Rattle.lookup.proofs.node.subtree_end.Goals as goal

pub returns-in_default : goal.returns-in_default
returns-in_default c =
    end_none c.args.image.now c.args.start c.args.depth _ c.head_at.ensures (opened c.in_default.in_default-own.keys2)

pub overflow_add-later : goal.overflow_add-later
overflow_add-later c =
    omega (arith, node_fits c.args.image.now c.args.start c.args.depth _ _ _ (sym c.in-Node.is ∙ c.head_at.ensures))

pub returns-in_default-seek : goal.returns-in_default-seek
returns-in_default-seek c =
    let e = end_by_lem c.args.image.now c.args.start c.args.depth _ _ _ (sym c.in-Node.is ∙ c.head_at.ensures) _ c.seek.ensures in
    sym (ap (or_end c.args.image.now) c.in_default-seek.is) ∙ e

pub returns : goal.returns
returns c =
    let e = end_by_lem c.args.image.now c.args.start c.args.depth _ _ _ (sym c.in-Node.is ∙ c.head_at.ensures) _ c.seek.ensures in
    sym (ap (or_end c.args.image.now) c.in-Some.is) ∙ e
