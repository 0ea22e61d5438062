-- `report::pairs::write_pairs` meets its contract: to write the pairs still to come where the code stands is to write them all.
use Rattle.table.specs.Inner.{size_of}
use Rattle.report.proofs.Ahead.{ahead_start, ahead_end}
use Rattle.report.proofs.Tables.{pairs_end, pair_short, pair_room, pair_lent, pair_written}
use native.Mathlib.Omega.{arith}
use Prim.Native.Nat.{ℕ, ◌≤◌}
use mathlib.Core.Path.{refl}
use lib.ListN.{length-take}
use Rattle.report.proofs.pairs.write_pairs.Goals as goal

pub loop-e-init : goal.loop-e-init
loop-e-init g c = ahead_start _ _ _ refl

pub write-o-requires : goal.write-o-requires
write-o-requires g c =
    record {
      key_len_bound = pair_short c.args.words.now c.args.image.now _ _ _ c.key.ensures c.value.ensures;
      value_in_bounds = pair_lent g.P.PairFrame.frame c.args.words.now c.args.image.now c.args.pairs _ c.loop-e.e-index c.size-n.ensures.0 c.loop-e-test.true _ _ c.key.ensures c.value.ensures c.args.out.now _ _ c.loop-e.invariant (c.requires);
    }

pub overflow_add-o : goal.overflow_add-o
overflow_add-o g c =
    let r = pair_room g.P.PairFrame.frame c.args.words.now c.args.image.now c.args.pairs _ c.loop-e.e-index c.size-n.ensures.0 c.loop-e-test.true _ _ c.key.ensures c.value.ensures c.args.out.now _ _ c.loop-e.invariant (c.requires) in
    omega (arith, r, c.write-o.ensures.count)

pub loop-e-preserved : goal.loop-e-preserved
loop-e-preserved g c =
    pair_written g.P.PairFrame.frame c.args.words.now c.args.image.now c.args.pairs _ c.loop-e.e-index c.size-n.ensures.0 c.loop-e-test.true _ _ c.key.ensures c.value.ensures c.args.out.now _ _ c.loop-e.invariant (c.requires) _ _ c.write-o.ensures

pub returns : goal.returns
returns g c =
    let h : size_of c.args.pairs ≤ c.loop-e.e-index = omega (arith, length-take {A = ℕ}) in
    ahead_end _ _ _ _ _ c.loop-e.invariant (pairs_end g.P.PairFrame.frame c.args.words.now c.args.image.now c.args.pairs c.loop-e.e-index h)
