-- `report::pairs::pairs_size` meets its contract: what is counted and the frames of the pairs still to come make up the whole.
use Rattle.table.specs.Inner.{size_of}
use Rattle.report.proofs.Ahead.{count_end}
use Rattle.report.proofs.Tables.{pairs_end, pair_short, pair_counted, pairs_most}
use native.Mathlib.Omega.{arith}
use Prim.Native.Nat.{ℕ, ◌≤◌}
use lib.ListN.{length-take}
use Rattle.report.proofs.pairs.pairs_size.Goals as goal

pub size-size-requires : goal.size-size-requires
size-size-requires g c =
    pair_short c.args.words.now c.args.image.now _ _ _ c.key.ensures c.value.ensures

pub overflow_add-size : goal.overflow_add-size
overflow_add-size g c =
    let p = pair_counted g.P.PairFrame.frame c.args.words.now c.args.image.now c.args.pairs _ c.loop-e.e-index c.size-n.ensures.0 c.loop-e-test.true _ _ c.key.ensures c.value.ensures _ _ _ c.size-size.ensures c.loop-e.invariant in
    let m = pairs_most g.P.PairFrame.frame g.met.P.PairFrame.short c.args.words.now c.args.image.now c.args.pairs in
    omega arith

pub loop-e-preserved : goal.loop-e-preserved
loop-e-preserved g c =
    pair_counted g.P.PairFrame.frame c.args.words.now c.args.image.now c.args.pairs _ c.loop-e.e-index c.size-n.ensures.0 c.loop-e-test.true _ _ c.key.ensures c.value.ensures _ _ _ c.size-size.ensures c.loop-e.invariant

pub returns : goal.returns
returns g c =
    let h : size_of c.args.pairs ≤ c.loop-e.e-index = omega (arith, length-take {A = ℕ}) in
    let e = count_end _ _ _ (pairs_end g.P.PairFrame.frame c.args.words.now c.args.image.now c.args.pairs c.loop-e.e-index h) c.loop-e.invariant in
    let m = pairs_most g.P.PairFrame.frame g.met.P.PairFrame.short c.args.words.now c.args.image.now c.args.pairs in
    (e, omega arith)
