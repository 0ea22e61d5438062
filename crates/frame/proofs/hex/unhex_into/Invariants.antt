-- `frame::unhex_into` meets its contract. The loop's invariant: the first i bytes that the digits stand for stand in front of what out had after them.
use Rattle.frame.specs.Hex.{unhex}
use mathlib.Core.Path.{◌≡◌}
use mathlib.Core.List.{◌++◌}
use lib.ListN.{length, take, drop}
use Rattle.frame.proofs.hex.unhex_into.Given as goal

abbrev pub invariant-loop-i : goal.invariant-loop-i
invariant-loop-i l = (length l.out ≡ length l.initial.out) × (l.out ≡ take l.i (unhex l.digits) ++ drop l.i l.initial.out)
