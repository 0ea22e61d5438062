-- `arguments::standing::Stage::at` meets its contract: only the progress is another.
use Rattle.arguments.proofs.Moves.{moved_on}
use mathlib.Core.Path.{refl}
use Rattle.arguments.specs.Inner.{held}
use Rattle.arguments.proofs.standing.Stage.at.Goals as goal

pub returns : goal.returns
returns c = (λ words image o f. moved_on words image (held o f c.args.self) c.args.progress c.requires, refl, refl)
