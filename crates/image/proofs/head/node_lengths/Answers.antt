-- `image::head::node_lengths` meets its contract: three length bytes, each after the text before it.
use Rattle.image.proofs.Heads.{span_least, node_lengths_are}
use native.Mathlib.Omega.{arith}
use Rattle.image.proofs.head.node_lengths.Goals as goal

pub overflow_add-result-3 : goal.overflow_add-result-3
overflow_add-result-3 c = omega (arith, rw (← c.other_of-other.ensures) at (span_least c.byte_at-usage.result))

pub returns : goal.returns
returns c =
    node_lengths_are _ _ _ _ _ _ c.byte_at-name.ensures.byte c.byte_at-description.ensures.byte c.byte_at-usage.ensures.byte c.other_of-other.ensures c.span_of.ensures
