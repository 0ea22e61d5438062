-- `text::formed::pass` meets its contract. What was judged so far and what is left give the answer for all; place i of the text is place i - 3 of what is judged.
use Rattle.text.specs.Inner.{misfits_in}
use Rattle.buffer.specs.Greatest.{greatest}
use lib.Dec.{eqb}
use lib.ListN.{drop}
use mathlib.Core.Bool.{◌&&◌}
use mathlib.Core.Path.{◌≡◌}
use Prim.Native.Nat.{◌-◌}
use Rattle.text.proofs.formed.pass.Given as goal

abbrev pub invariant-loop-i : goal.invariant-loop-i
invariant-loop-i l = (l.fit && eqb (greatest (drop (l.i - 3) (misfits_in l.s))) 0) ≡ eqb (greatest (misfits_in l.s)) 0
