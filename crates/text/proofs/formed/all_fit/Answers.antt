-- `text::formed::all_fit` meets its contract. What was judged so far and what is left after the last three bytes give the answer for all.
use Rattle.text.proofs.Judging.{walk_turn, walk_end}
use mathlib.Core.Bool.{Bool, ◌&&◌}
use mathlib.Core.Path.{ap, ◌∙◌}
use native.Mathlib.Omega.{arith}
use Rattle.text.proofs.formed.all_fit.Goals as goal

pub loop-x-preserved : goal.loop-x-preserved
loop-x-preserved c =
    walk_turn c.args.s.now c.loop-x.c c.loop-x.b c.loop-x.a c.loop-x.x-index c.loop-x.fit _ (omega arith) c.fits-fit.ensures ∙ c.loop-x.invariant

pub returns : goal.returns
returns c =
    ap (λ (t : Bool). c.loop-x.fit && t) c.fits.ensures
    ∙ walk_end c.args.s.now c.loop-x.c c.loop-x.b c.loop-x.a c.loop-x.x-index c.loop-x.fit (omega arith)
    ∙ c.loop-x.invariant
