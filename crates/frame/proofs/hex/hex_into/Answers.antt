-- `frame::hex_into` meets its contract. The loop's invariant: the digits of the first i bytes stand in front of what out had after them.
use Rattle.frame.proofs.Digits.{hex_step, length_hex_of}
use Rattle.frame.specs.Hex.{hex_of}
use Rattle.buffer.proofs.Lending.{copy_end}
use native.Mathlib.Omega.{arith}
use Prim.Native.Nat.{ℕ, ◌*◌}
use mathlib.Core.Path.{◌∙◌}
use mathlib.Core.List.{List}
use lib.ListN.{length-set}
use Rattle.frame.proofs.hex.hex_into.Goals as goal

pub bounds-out-i : goal.bounds-out-i
bounds-out-i c =
    omega (arith, c.requires, length_hex_of c.args.bytes.now)

pub bounds-out-i-in-loop-i : goal.bounds-out-i-in-loop-i
bounds-out-i-in-loop-i c =
    simp length-set (omega (arith, c.requires, length_hex_of c.args.bytes.now))

pub loop-i-preserved : goal.loop-i-preserved
loop-i-preserved c =
    let turn = hex_step c.args.bytes.now c.args.out.now c.loop-i.i _ _ (omega arith) c.requires c.hex_digit.ensures c.hex_digit-in-loop-i.ensures in
    (simp length-set c.loop-i.invariant.0, rw c.loop-i.invariant.1 turn)

pub returns : goal.returns
returns c =
    let b : List ℕ = c.args.bytes.now in
    let l = length_hex_of b in
    record {
      count = omega arith;
      bytes = c.loop-i.invariant.1 ∙ copy_end (hex_of b) _ (2 * c.loop-i.i) (omega arith) (omega arith);
    }
