-- `history::slots::place_of` meets its contract.
use native.Mathlib.Omega.{arith}
use Rattle.history.proofs.Turned.{after_below}
use Rattle.history.proofs.slots.place_of.Goals as goal

pub overflow_mul-result : goal.overflow_mul-result
overflow_mul-result c = let b = after_below c.args.slot c.args.after in omega arith
