-- `frame::hex_into` meets its contract. The loop's invariant: the digits of the first i bytes stand in front of what out had after them.
use Rattle.frame.specs.Hex.{hex_of}
use Prim.Native.Nat.{◌*◌}
use mathlib.Core.Path.{◌≡◌}
use mathlib.Core.List.{◌++◌}
use lib.ListN.{length, take, drop}
use Rattle.frame.proofs.hex.hex_into.Given as goal

abbrev pub invariant-loop-i : goal.invariant-loop-i
invariant-loop-i l = (length l.out ≡ length l.initial.out) × (l.out ≡ take (2 * l.i) (hex_of l.bytes) ++ drop (2 * l.i) l.initial.out)
