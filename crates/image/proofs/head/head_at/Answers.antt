-- `image::head::head_at` meets its contract: the head of what stands from the place on.
use Rattle.image.specs.Reading.{head_first}
use mathlib.Core.Path.{ap, ◌∙◌}
use Rattle.image.proofs.head.head_at.Goals as goal

pub returns : goal.returns
returns c = c.head_of.ensures ∙ ap head_first c.rest.ensures
