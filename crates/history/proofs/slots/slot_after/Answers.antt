-- `history::slots::slot_after` meets its contract.
use native.Mathlib.Omega.{arith}
use Rattle.history.specs.Slots.{slot_after}
use Rattle.history.proofs.slots.slot_after.Goals as goal

pub returns : goal.returns
unfolding slot_after
returns c = omega arith
