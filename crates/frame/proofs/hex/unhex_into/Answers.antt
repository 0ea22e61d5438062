-- `frame::unhex_into` meets its contract. The loop's invariant: the first i bytes that the digits stand for stand in front of what out had after them.
use Rattle.frame.proofs.Digits.{length_unhex, unhex_at}
use Rattle.frame.specs.Hex.{unhex}
use Rattle.buffer.proofs.Lending.{copy_step, copy_end}
use native.Mathlib.Omega.{arith}
use Prim.Native.Nat.{ℕ}
use mathlib.Core.Path.{◌≡◌, sym, ◌∙◌}
use mathlib.Core.List.{List}
use lib.ListN.{get_or, length-set}
use Rattle.frame.proofs.hex.unhex_into.Goals as goal

pub loop-i-preserved : goal.loop-i-preserved
loop-i-preserved c =
    let d : List ℕ = c.args.digits.now in
    let i : ℕ = c.loop-i.i in
    let l = length_unhex d in
    let e : c.pair_of.result ≡ get_or (unhex d) i 0 = c.pair_of.ensures ∙ sym (unhex_at d i (omega arith)) in
    (simp length-set c.loop-i.invariant.0, rw (c.loop-i.invariant.1, e) (copy_step (unhex d) c.args.out.now i (omega arith) (omega (arith, c.requires))))

pub returns : goal.returns
returns c =
    let d : List ℕ = c.args.digits.now in
    let l = length_unhex d in
    record {
      count = omega arith;
      bytes = c.loop-i.invariant.1 ∙ copy_end (unhex d) _ c.loop-i.i (omega arith) (omega arith);
    }
