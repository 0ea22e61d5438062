-- `history::slots::store` meets its contract.
use native.Mathlib.Omega.{arith}
use Rattle.history.proofs.Layouts.{slot_stored}
use mathlib.Core.Path.{◌∙◌}
use Rattle.history.proofs.slots.store.Goals as goal

pub clear-requires : goal.clear-requires
clear-requires c =
    (omega arith, omega (arith, c.requires.1))

pub returns : goal.returns
returns c =
    c.clear.ensures ∙ slot_stored c.args.text.now c.args.slots.now _ _ c.args.at _ _ c.requires.0 c.requires.1 c.push_byte-start.ensures c.push-end.ensures
