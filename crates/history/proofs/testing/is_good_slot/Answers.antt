-- `history::testing::is_good_slot` meets its contract.
use mathlib.Core.Path.{◌∙◌}
use native.Mathlib.Omega.{arith}
use borrow.Author.Tests.{ne_eqb}
use Rattle.history.proofs.Passing.{entry_top, slot_stray, slot_clear}
use Rattle.history.proofs.testing.is_good_slot.Goals as goal

pub is_usable-requires : goal.is_usable-requires
is_usable-requires c =
    entry_top c.args.slots.now c.args.at _ _ _ (omega arith) c.greatest_byte.ensures c.if-greatest_byte-eq0.true c.top_of.ensures

pub returns-then-greatest_byte-eq0 : goal.returns-then-greatest_byte-eq0
returns-then-greatest_byte-eq0 c =
    slot_clear c.args.slots.now c.args.at _ _ c.byte_at-size.ensures.byte (omega arith) c.greatest_byte.ensures _ c.if-greatest_byte-eq0.true c.is_usable.ensures

pub returns-else-greatest_byte-eq0 : goal.returns-else-greatest_byte-eq0
returns-else-greatest_byte-eq0 c =
    ne_eqb _ _ c.if-greatest_byte-eq0.false ∙ slot_stray c.args.slots.now c.args.at _ _ c.byte_at-size.ensures.byte (omega arith) c.greatest_byte.ensures c.if-greatest_byte-eq0.false
