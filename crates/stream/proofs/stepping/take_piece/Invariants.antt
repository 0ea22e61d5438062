-- `stepping::take_piece` meets its contract.
use Rattle.stream.proofs.Steppings.{Step-on}
use Rattle.stream.specs.Held.{stand_of}
use Rattle.stream.specs.Moves.{take_some}
use Prim.Native.Nat.{◌-◌}
use lib.ListN.{length}
use Rattle.stream.proofs.stepping.take_piece.Given as goal

abbrev pub invariant-loop-took : goal.invariant-loop-took
invariant-loop-took l = Step-on l.piece (take_some (length l.initial.out - l.at) (stand_of l.initial.here l.initial.line l.initial.image l.initial.slots) l.piece) l.initial.out l.at l.line l.image l.slots l.out l.here l.printed l.took

abbrev pub decreases-loop-took : goal.decreases-loop-took
decreases-loop-took l = length l.piece - l.took
