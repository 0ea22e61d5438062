-- `buffer::order::compare` meets its contract.
use mathlib.Core.Path.{◌∙◌}
use Rattle.buffer.proofs.Ordering.{order_cmp}
use Rattle.buffer.proofs.order.compare.Goals as goal

pub returns : goal.returns
returns c = c.cmp.ensures ∙ order_cmp c.args.a.now c.args.b.now
