-- `tree::walk::rises_at` meets its contract: there is no sibling before, or the two names are compared.
use Rattle.tree.proofs.Walks.{compared, rises_first, rises_after}
use mathlib.Core.Path.{◌∙◌}
use Rattle.tree.proofs.walk.rises_at.Goals as goal

pub returns-then-walk-depth : goal.returns-then-walk-depth
returns-then-walk-depth c =
    rises_first c.args.image.now c.args.walk c.requires.1 _ _ c.if-walk-depth.true

pub returns : goal.returns
returns c =
    compared _ _ _ _ _ c.is_lt.ensures c.compare.ensures c.name_at.ensures
    ∙ rises_after c.args.image.now c.args.walk c.requires.1 _ _ c.if-walk-depth.false
