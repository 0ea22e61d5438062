-- `arguments::standing::Stage::with_option` meets its contract: the entry holds the key and the value that it was made of.
use Rattle.arguments.proofs.Moves.{option_moved}
use mathlib.Core.Path.{refl}
use Rattle.arguments.specs.Inner.{held}
use Rattle.arguments.proofs.standing.Stage.with_option.Goals as goal

pub returns : goal.returns
returns c =
    (λ f. option_moved _ _ c.args.source _ _ _ _ _ (held c.args.options.now f c.args.self) _ c.requires.0 c.requires.1 c.requires.2 c.requires.3 c.entry.ensures c.put-count.ensures.0, c.put-count.ensures.1, refl)
