-- `frame::write_line` meets its contract: the length tested is that of the line, which is its digits and then LF.
use Rattle.frame.proofs.Lines.{length_house_line, line_pushed, write_short, write_whole}
use Rattle.frame.proofs.Digits.{length_hex_of}
use Rattle.frame.specs.House.{house_line}
use native.Mathlib.Omega.{arith}
use Prim.Native.Nat.{◌≤◌}
use mathlib.Core.Path.{refl, sym}
use lib.ListN.{length}
use Rattle.frame.proofs.house.write_line.Goals as goal

pub returns-then-out-needed : goal.returns-then-out-needed
returns-then-out-needed c =
    write_short c.args.bytes.now c.args.out.now _ _ c.if-out-needed.true (sym (length_house_line c.args.bytes.now)) refl

pub hex_into-at-requires : goal.hex_into-at-requires
hex_into-at-requires c = omega (arith, length_hex_of c.args.bytes.now)

pub push_byte-requires : goal.push_byte-requires
push_byte-requires c =
    omega (arith, length_hex_of c.args.bytes.now, c.hex_into-at.ensures.count)

pub returns : goal.returns
returns c =
    let l = length_house_line c.args.bytes.now in
    let h : length (house_line c.args.bytes.now) ≤ length c.args.out.now = omega arith in
    let written = line_pushed c.args.bytes.now c.args.out.now _ _ _ _ h c.hex_into-at.ensures c.push_byte.ensures in
    write_whole c.args.bytes.now c.args.out.now _ _ c.if-out-needed.false (sym l) written
