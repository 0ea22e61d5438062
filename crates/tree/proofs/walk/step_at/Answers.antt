-- `tree::walk::step_at` meets its contract: the frames that come next are the rest of the image.
use native.Mathlib.Omega.{arith}
use mathlib.Core.Path.{ap, ◌∙◌}
use lib.ListN.{length, length-drop}
use Rattle.tree.proofs.walk.step_at.Goals as goal

pub step_over-requires : goal.step_over-requires
step_over-requires c =
    let e = ap length c.rest.ensures ∙ length-drop c.args.walk.at c.args.image.now in
    (c.requires.0, omega (arith, e, c.requires.1, c.requires.2))

pub returns : goal.returns
returns c = c.step_over.ensures ∙ rw c.rest.ensures
