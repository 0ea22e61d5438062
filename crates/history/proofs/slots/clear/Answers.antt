-- `history::slots::clear` meets its contract.
use Prim.Native.Nat.{◌-◌}
use native.Mathlib.Omega.{arith}
use Rattle.history.proofs.Layouts.{part_filled}
use Rattle.history.proofs.slots.clear.Goals as goal

pub returns : goal.returns
returns c =
    part_filled c.args.out.now _ c.args.at (c.args.end - c.args.at) (omega arith) (c.fill.ensures.after (λ y e. e))
