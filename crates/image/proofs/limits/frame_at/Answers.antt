-- `image::limits::frame_at` meets its contract: the frame of what stands from the place on.
use Rattle.image.specs.Reading.{strict_first}
use mathlib.Core.Path.{ap, ◌∙◌}
use Rattle.image.proofs.limits.frame_at.Goals as goal

pub returns : goal.returns
returns c = c.frame_of.ensures ∙ ap strict_first c.rest.ensures
