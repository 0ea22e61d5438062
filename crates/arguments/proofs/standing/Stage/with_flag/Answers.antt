-- `arguments::standing::Stage::with_flag` meets its contract: the entry holds the key that it was made of, and no value.
use Rattle.arguments.proofs.Moves.{flag_moved}
use mathlib.Core.Path.{refl}
use Rattle.arguments.specs.Inner.{held}
use Rattle.arguments.proofs.standing.Stage.with_flag.Goals as goal

pub returns : goal.returns
returns c =
    (λ o. flag_moved _ _ c.args.source _ _ 0 0 _ (held o c.args.flags.now c.args.self) _ c.requires.0 c.requires.1 c.entry.ensures c.put-count.ensures.0, c.put-count.ensures.1, refl)
