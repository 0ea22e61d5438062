-- `buffer::order::same` meets its contract.
use mathlib.Core.Path.{◌∙◌}
use Rattle.buffer.proofs.Ordering.{same_pointwise}
use Rattle.buffer.proofs.order.same.Goals as goal

pub returns : goal.returns
returns c = c.eq.ensures ∙ same_pointwise c.args.a.now c.args.b.now
