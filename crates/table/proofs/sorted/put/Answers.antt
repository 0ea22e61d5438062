-- `table::sorted::put` meets its contract: one law for each way out.
use mathlib.Core.Path.{refl, ◌∙◌}
use native.Mathlib.Omega.{arith}
use lib.ListN.{length-set}
use Rattle.table.specs.Inner.{tabled}
use Rattle.table.proofs.Putting.{found_at, here_below, here_put, gap_low, gap_put, gap_full}
use Rattle.table.proofs.sorted.put.Goals as goal

pub offset_bounds-table-i : goal.offset_bounds-table-i
offset_bounds-table-i c =
    let f = found_at c.args.words.now c.args.image.now (tabled c.args.n c.args.table.now) _ _ _ _ c.key.ensures c.seek.ensures c.in-Ok.is in
    let h = here_below c.args.words.now c.args.image.now (tabled c.args.n c.args.table.now) c.requires.full c.args.e _ f in
    omega arith

pub bounds-table-i : goal.bounds-table-i
bounds-table-i c =
    let f = found_at c.args.words.now c.args.image.now (tabled c.args.n c.args.table.now) _ _ _ _ c.key.ensures c.seek.ensures c.in-Ok.is in
    let h = here_below c.args.words.now c.args.image.now (tabled c.args.n c.args.table.now) c.requires.full c.args.e _ f in
    omega arith

pub open_at-requires : goal.open_at-requires
open_at-requires c =
    let f = found_at c.args.words.now c.args.image.now (tabled c.args.n c.args.table.now) _ _ _ _ c.key.ensures c.seek.ensures c.in-Err.is in
    let h = gap_low c.args.words.now c.args.image.now (tabled c.args.n c.args.table.now) c.requires.full c.args.e _ f in
    (omega arith, omega arith)

pub returns-in-Err : goal.returns-in-Err
returns-in-Err c =
    let f = found_at c.args.words.now c.args.image.now (tabled c.args.n c.args.table.now) _ _ _ _ c.key.ensures c.seek.ensures c.in-Err.is in
    (gap_put c.args.words.now c.args.image.now (tabled c.args.n c.args.table.now) c.requires.full c.args.e _ f c.if-n-lt-CAPACITY.true _ refl c.open_at.ensures.1, record { few = omega arith; full = c.open_at.ensures.0 ∙ c.requires.full })

pub returns-in-Ok : goal.returns-in-Ok
returns-in-Ok c =
    let f = found_at c.args.words.now c.args.image.now (tabled c.args.n c.args.table.now) _ _ _ _ c.key.ensures c.seek.ensures c.in-Ok.is in
    (here_put c.args.words.now c.args.image.now (tabled c.args.n c.args.table.now) c.requires.full c.args.e _ f _ refl refl, record { few = c.requires.few; full = length-set c.args.table.now _ _ ∙ c.requires.full })

pub returns-in-Err-2 : goal.returns-in-Err-2
returns-in-Err-2 c =
    let f = found_at c.args.words.now c.args.image.now (tabled c.args.n c.args.table.now) _ _ _ _ c.key.ensures c.seek.ensures c.in-Err.is in
    (gap_full c.args.words.now c.args.image.now (tabled c.args.n c.args.table.now) c.requires.full c.args.e _ f c.if-n-lt-CAPACITY.false, c.requires)
