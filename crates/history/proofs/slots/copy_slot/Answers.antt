-- `history::slots::copy_slot` meets its contract.
use Prim.Native.Nat.{◌*◌}
use mathlib.Core.Path.{◌∙◌}
use Rattle.history.proofs.Closing.{slot_copied}
use Rattle.history.proofs.slots.copy_slot.Goals as goal

pub returns : goal.returns
returns c =
    c.copy_within.ensures.after ∙ slot_copied c.args.slots.now c.args.source (256 * c.args.target) c.requires.0 c.requires.1
