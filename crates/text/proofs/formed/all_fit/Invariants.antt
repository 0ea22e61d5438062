-- `text::formed::all_fit` meets its contract. What was judged so far and what is left after the last three bytes give the answer for all.
use Rattle.text.specs.Inner.{unfit}
use lib.Dec.{eqb}
use lib.ListN.{drop}
use mathlib.Core.Bool.{◌&&◌}
use mathlib.Core.Path.{◌≡◌}
use Rattle.text.proofs.formed.all_fit.Given as goal

abbrev pub invariant-loop-x : goal.invariant-loop-x
invariant-loop-x l = (l.fit && eqb (unfit l.c l.b l.a (drop l.x-index l.s)) 0) ≡ eqb (unfit 0 0 0 l.s) 0
