-- `arguments::standing::Stage::keep` meets its contract: the frame stands after those that are kept.
use Rattle.arguments.proofs.Moves.{kept_after}
use mathlib.Core.Path.{refl}
use Rattle.arguments.specs.Inner.{held}
use Rattle.arguments.proofs.standing.Stage.keep.Goals as goal

pub returns : goal.returns
returns c =
    (λ o f. kept_after _ _ _ (held o f c.args.self) _ (c.requires) c.push.ensures, refl, refl)
