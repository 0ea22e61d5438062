-- `image::limits::blocks_shown` meets its contract: what is left at every turn is tested as the whole is, and at the end it lies within the last block.
use mathlib.Core.Path.{◌≡◌}
use Rattle.image.proofs.Blocks.{Passed}
use Rattle.image.proofs.limits.blocks_shown.Given as goal

abbrev pub invariant-loop-block : goal.invariant-loop-block
invariant-loop-block l = Passed l.low l.t l.block-iterator.rest.now × (l.block-iterator.size ≡ l.size)
