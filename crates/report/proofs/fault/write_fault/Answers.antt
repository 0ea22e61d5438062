-- `report::write_fault` meets its contract: the kind, the two bytes of the length, the dashes and the text, each right after what is there.
use Rattle.report.proofs.Faults.{length_fault, fault_written}
use Rattle.report.proofs.Answers.{no_room, reported}
use native.Mathlib.Omega.{arith}
use Prim.Native.Nat.{ℕ}
use mathlib.Core.Path.{refl}
use lib.ListN.{length-replicate}
use Rattle.report.proofs.fault.write_fault.Goals as goal

pub returns-then-out-n : goal.returns-then-out-n
returns-then-out-n c =
    no_room _ c.args.out.now _ (length_fault c.args.dashes c.args.text.now) c.if-out-n.true

pub overflow_add-part : goal.overflow_add-part
overflow_add-part c =
    omega (arith, c.write_dashes.ensures.count, length-replicate {A = ℕ} c.args.dashes 0x2D, c.requires)

pub push-requires : goal.push-requires
push-requires c =
    omega (arith, c.write_dashes.ensures.count, length-replicate {A = ℕ} c.args.dashes 0x2D, c.if-out-n.false)

pub returns : goal.returns
returns c =
    let w = fault_written c.args.dashes _ c.args.text.now c.args.out.now refl c.if-out-n.false _ _ _ _ _ _ _ _ _ _ c.push_byte-high.ensures c.push_byte-low.ensures c.push_byte-start.ensures c.write_dashes.ensures c.push.ensures in
    reported _ c.args.out.now _ _ (length_fault c.args.dashes c.args.text.now) c.if-out-n.false w
