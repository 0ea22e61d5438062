-- `taking::take_bytes` meets its contract.
use Rattle.stream.proofs.Steppings.{early, held_ready, bytes_held, bytes_line}
use native.Mathlib.Omega.{arith}
use mathlib.Core.Path.{refl}
use Rattle.stream.proofs.taking.take_bytes.Goals as goal

pub hold-requires : goal.hold-requires
hold-requires c =
    (c.requires.0.ready.whole, c.requires.0.held)

pub returns-in_default : goal.returns-in_default
returns-in_default c =
    bytes_held c.args.stream c.args.line.now c.args.image.now c.args.slots.now c.requires.0 c.requires.1 c.args.bytes.now c.args.out.now c.args.at _ _ _ c.in_default.ensures _ (omega arith) refl _ c.reading.ensures

pub take_whole-done-requires : goal.take_whole-done-requires
take_whole-done-requires c =
    record { ready = held_ready c.args.stream c.args.line.now c.args.image.now c.args.slots.now c.requires.0 c.requires.1 c.args.bytes.now c.args.out.now c.args.at _ _ _ c.in-Some.ensures; lines_lt_last_line = (early c.args.stream c.args.line.now c.args.image.now c.args.slots.now c.requires.0 c.requires.1 c.args.bytes.now c.args.out.now c.args.at _ _ _ c.in-Some.ensures, c.requires.2) }

pub returns : goal.returns
returns c =
    bytes_line c.args.stream c.args.line.now c.args.image.now c.args.slots.now c.requires.0 c.requires.1 c.args.bytes.now c.args.out.now c.args.at _ _ _ c.in-Some.ensures refl _ _ _ _ _ c.take_whole-done.ensures
