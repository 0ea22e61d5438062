-- `text::formed::pass` meets its contract. What was judged so far and what is left give the answer for all; place i of the text is place i - 3 of what is judged.
use Rattle.text.proofs.Judging.{pass_turn, pass_end}
use mathlib.Core.Path.{◌∙◌}
use native.Mathlib.Omega.{arith}
use Rattle.text.proofs.formed.pass.Goals as goal

pub loop-i-preserved : goal.loop-i-preserved
loop-i-preserved c =
    pass_turn c.args.s.now c.loop-i.i c.loop-i.fit _ (omega arith) (omega arith) c.fits-fit.ensures ∙ c.loop-i.invariant

pub returns : goal.returns
returns c = pass_end c.args.s.now c.loop-i.i c.loop-i.fit (omega arith) ∙ c.loop-i.invariant
