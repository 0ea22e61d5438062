-- `parse::parser::tell` meets its contract: what is written is the fault or the report of what was judged.
use Prim.Native.Nat.{◌+◌, ◌<◌, ◌≤◌}
use mathlib.Core.Path.{sym, ap}
use native.Mathlib.Omega.{arith}
use lib.ListN.{length, take, length-take}
use lib.Seq.{length-take-le}
use Rattle.tree.specs.Trails.{image_part}
use Rattle.tree.proofs.Trails.{part_most}
use Rattle.arguments.specs.Inner.{found_of}
use Rattle.parse.specs.Inner.{fault_text}
use Rattle.parse.proofs.OutcomesTold.{text_short, fault_in, report_in, told_whole, untold}
use Rattle.parse.proofs.Lines.{told_same}
use Rattle.parse.specs.Answer.{told_in}
use Rattle.parse.proofs.parser.tell.Goals as goal

pub slice_bounds-node-count : goal.slice_bounds-node-count
slice_bounds-node-count c =
    omega arith

pub slice_bounds-node-start : goal.slice_bounds-node-start
slice_bounds-node-start c =
    omega arith

pub slice_bounds-node-end : goal.slice_bounds-node-end
slice_bounds-node-end c =
    omega arith

pub write_fault-requires : goal.write_fault-requires
write_fault-requires c =
    let m = part_most c.args.image.now c.args.judged.place in
    let t : length (fault_text c.args.words.now (image_part c.args.image.now c.args.judged.place) c.in-Err.fault) ≤ 32768 = text_short c.args.words.now (image_part c.args.image.now c.args.judged.place) c.in-Err.fault (omega arith) (omega arith) in
    let e = ap length c.text_of-text.ensures in
    omega arith

pub returns-in_err-length : goal.returns-in_err-length
unfolding told_in
returns-in_err-length c =
    told_same _ _ _ _ _ (fault_in c.args.words.now c.args.image.now c.args.rest.now c.args.judged c.in-Err.fault _ _ c.in-Err.is c.dashes_of.ensures.0 c.text_of-text.ensures) (untold _ _ _ _ c.write_fault.ensures c.in_err-length.field-0.0 _ c.from_residual.ensures.1 c.in_err-length.was)

pub returns-in-Err : goal.returns-in-Err
unfolding told_in
returns-in-Err c =
    rw c.refusal_of.ensures (told_same _ _ _ _ _ (fault_in c.args.words.now c.args.image.now c.args.rest.now c.args.judged c.in-Err.fault _ _ c.in-Err.is c.dashes_of.ensures.0 c.text_of-text.ensures) (told_whole _ _ _ _ c.write_fault.ensures _ c.in_ok-length.was))

pub slice_bounds-write_report-end : goal.slice_bounds-write_report-end
slice_bounds-write_report-end c =
    sym (length-take-le _ c.args.words.now c.requires.0.passed)

pub slice_bounds-write_report-end-2 : goal.slice_bounds-write_report-end-2
slice_bounds-write_report-end-2 c =
    sym (length-take-le _ c.args.rest.now c.requires.1)

pub write_report-requires : goal.write_report-requires
write_report-requires c =
    let g : length (take c.args.judged.place.at c.args.words.now) + length (take c.args.judged.scan.kept c.args.rest.now) < 0x8000000000000000 = rw (length-take, length-take) (omega arith) in
    let n = c.requires.5 c.in_default.is in
    (g, n.path, n.positionals)

pub returns-in_err-length-2 : goal.returns-in_err-length-2
unfolding found_of told_in
returns-in_err-length-2 c =
    told_same _ _ _ _ _ (report_in c.args.words.now c.args.image.now c.args.rest.now c.args.judged c.in_default.is) (untold _ _ _ _ c.write_report.ensures c.in_err-length-2.field-0.0 _ c.from_residual-in_err-length-2.ensures.1 c.in_err-length-2.was)

pub returns : goal.returns
unfolding found_of told_in
returns c =
    told_same _ _ _ _ _ (report_in c.args.words.now c.args.image.now c.args.rest.now c.args.judged c.in_default.is) (told_whole _ _ _ _ c.write_report.ensures _ c.in_ok-length-2.was)
