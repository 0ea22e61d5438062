-- `history::stepping::History::restored` meets its contract.
use Prim.Native.Nat.{◌+◌, ◌*◌}
use mathlib.Core.Path.{◌≡◌, sym, ◌∙◌}
use native.Mathlib.Omega.{arith}
use lib.ListN.{get_or}
use Rattle.buffer.specs.Numbers.{Bytes}
use Rattle.history.proofs.Saved.{wrong_length, read_bad, read_good}
use Rattle.history.proofs.stepping.History.restored.Goals as goal

pub returns-in_default : goal.returns-in_default
returns-in_default c =
    wrong_length c.args.bytes.now c.args.slots.now (λ e. omega arith)

pub returns-in_default-2 : goal.returns-in_default-2
returns-in_default-2 c =
    wrong_length c.args.bytes.now c.args.slots.now (λ e. omega arith)

pub returns-then-is_good : goal.returns-then-is_good
unfolding Bytes
returns-then-is_good c =
    let total : c.from-3.result ≡ get_or c.args.bytes.now 2 0 * 256 + get_or c.args.bytes.now 3 0 = omega arith in
    read_good c.args.bytes.now c.args.slots.now c.from.result c.from-2.result c.from-3.result c.from-4.result (omega arith) (λ i. omega (arith, (c.type_inv.bytes i).fits)) c.from.ensures c.from-2.ensures total c.from-4.ensures (sym c.is_good.ensures ∙ c.if-is_good.true)

pub returns-else-is_good : goal.returns-else-is_good
unfolding Bytes
returns-else-is_good c =
    let total : c.from-3.result ≡ get_or c.args.bytes.now 2 0 * 256 + get_or c.args.bytes.now 3 0 = omega arith in
    read_bad c.args.bytes.now c.args.slots.now c.from.result c.from-2.result c.from-3.result c.from-4.result (omega arith) (λ i. omega (arith, (c.type_inv.bytes i).fits)) c.from.ensures c.from-2.ensures total c.from-4.ensures (sym c.is_good.ensures ∙ c.if-is_good.false)
