-- `buffer::write::copy` meets its contract. The buffer holds the bytes passed, then its old ones.
use Rattle.buffer.proofs.Lending.{copy_step, copy_end}
use native.Mathlib.Omega.{arith}
use Prim.Native.Nat.{◌<◌}
use mathlib.Core.Path.{refl, ◌∙◌}
use lib.ListN.{length, length-set}
use Rattle.buffer.proofs.write.copy.Goals as goal

pub bounds-out-i : goal.bounds-out-i
bounds-out-i c = omega (arith, c.requires)

pub loop-i-preserved : goal.loop-i-preserved
loop-i-preserved c =
    let pre = c.requires in
    let loop = c.loop-i in
    let h : loop.i < length c.args.out.now = omega (arith, pre) in
    (simp length-set loop.invariant.0, rw loop.invariant.1 (copy_step c.args.src.now c.args.out.now loop.i (omega arith) h))

pub returns : goal.returns
returns c =
    record {
      count = refl;
      bytes = c.loop-i.invariant.1 ∙ copy_end c.args.src.now c.args.out.now c.loop-i.i (omega arith) (omega arith);
    }
