-- `reader::walk::next_at` meets its contract: a frame ends within the image.
use Rattle.reader.proofs.Steps.{next_within}
use Rattle.reader.specs.Places.{size_first, next_place}
use native.Mathlib.Omega.{arith}
use mathlib.Core.Path.{refl, ap, ◌∙◌}
use Rattle.reader.proofs.walk.next_at.Goals as goal

pub overflow_add-result : goal.overflow_add-result
unfolding next_place
overflow_add-result c =
    let w = next_within c.args.image.now c.args.at in
    let e = c.size_of.ensures ∙ ap size_first c.head_at.ensures in
    omega (arith, w, e)

pub returns : goal.returns
unfolding next_place
returns c = rw (c.size_of.ensures, c.head_at.ensures) refl
