-- `tree::walk::node_step` meets its contract: the first rule that is broken decides; a node that follows is passed.
use Rattle.tree.proofs.Walks.{too_deep, too_many, node_decides, step_refused, step_taken}
use native.Mathlib.Omega.{arith}
use mathlib.Core.Path.{sym, ◌∙◌}
use mathlib.Core.Bool.{true, false}
use Rattle.tree.proofs.walk.node_step.Goals as goal

pub returns-then-walk-depth : goal.returns-then-walk-depth
returns-then-walk-depth c =
    λ h ds u. step_refused _ _ (too_deep c.args.image.now _ c.requires.1 _ h _ ds u c.if-walk-depth.true)

pub returns-then-walk-ge256 : goal.returns-then-walk-ge256
returns-then-walk-ge256 c =
    λ h ds u. step_refused _ _ (too_many c.args.image.now _ c.requires.1 _ h _ ds u c.if-walk-depth.false c.if-walk-ge256.true)

pub returns-then-not-rises_at : goal.returns-then-not-rises_at
returns-then-not-rises_at c =
    λ h ds u.
    let rises = sym c.if-not-rises_at.true ∙ c.rises_at.ensures in
    step_refused _ _ (node_decides c.args.image.now _ c.requires.1 _ h _ ds u c.if-walk-depth.false (omega arith) false rises)

pub returns : goal.returns
returns c =
    λ h ds u.
    let rises = sym c.if-not-rises_at.false ∙ c.rises_at.ensures in
    step_taken _ _ _ c.after_node.ensures (node_decides c.args.image.now _ c.requires.1 _ h _ ds u c.if-walk-depth.false (omega arith) true rises)
