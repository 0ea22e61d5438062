-- `buffer::write::push` meets its contract.
use Rattle.buffer.proofs.Lending.{rest_written}
use native.Mathlib.Omega.{arith}
use Prim.Native.Nat.{ℕ, ◌+◌, ◌≤◌}
use mathlib.Core.Path.{ap}
use lib.ListN.{length}
use Rattle.buffer.proofs.write.push.Goals as goal

pub returns : goal.returns
returns c =
    let args = c.args in
    let pre = c.requires in
    let copy = c.copy in
    let h : args.at ≤ length args.out.now = omega (arith, pre) in
    record {
      place = ap (λ (n : ℕ). args.at + n) copy.ensures.count;
      bytes = rest_written _ _ _ _ h copy.ensures.bytes;
    }
