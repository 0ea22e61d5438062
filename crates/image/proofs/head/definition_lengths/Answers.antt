-- `image::head::definition_lengths` meets its contract: three length bytes, each after the text before it.
use Rattle.image.proofs.Heads.{span_least, definition_lengths_are}
use native.Mathlib.Omega.{arith}
use Rattle.image.proofs.head.definition_lengths.Goals as goal

pub overflow_add-p-5 : goal.overflow_add-p-5
overflow_add-p-5 c = omega (arith, rw (← c.other_of-other.ensures) at (span_least c.byte_at-long.result))

pub overflow_add-result-3 : goal.overflow_add-result-3
overflow_add-result-3 c = omega (arith, rw (← c.other_of-other.ensures) at (span_least c.byte_at-long.result))

pub overflow_add-result-4 : goal.overflow_add-result-4
overflow_add-result-4 c = omega (arith, rw (← c.other_of-other.ensures) at (span_least c.byte_at-long.result))

pub returns : goal.returns
returns c =
    definition_lengths_are _ _ _ _ _ _ _ c.byte_at-name.ensures.byte c.byte_at-long.ensures.byte c.other_of-other.ensures c.span_of-span.ensures c.byte_at-description.ensures.byte
