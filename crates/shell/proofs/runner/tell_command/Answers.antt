-- `shell::runner::tell_command` meets its contract: what is shown or written is that of the command that was judged.
use Prim.Native.Nat.{◌+◌, ◌≤◌, ◌<◌}
use mathlib.Core.Path.{sym, ◌∙◌}
use native.Mathlib.Omega.{arith}
use lib.ListN.{length-take, length, take}
use lib.Seq.{length-take-le}
use Rattle.arguments.specs.Inner.{found_of}
use Rattle.shell.proofs.WrittenAnswers.{said_same, said_shown, said_reported, unshown, unreported}
use Rattle.shell.proofs.JudgedCarried.{lacking_carried, handed_carried}
use Rattle.shell.proofs.runner.tell_command.Goals as goal

pub slice_bounds-path-end : goal.slice_bounds-path-end
slice_bounds-path-end c =
    sym (length-take-le _ c.args.words.now c.requires.0.passed)

pub show_no_handler-requires : goal.show_no_handler-requires
show_no_handler-requires c =
    let g : length (take c.args.judged.place.at c.args.words.now) ≤ 4096 = rw length-take (omega arith) in (g, c.requires.5.path)

pub returns-in_err-length : goal.returns-in_err-length
returns-in_err-length c =
    λ n q. said_same _ _ _ _ _ (lacking_carried c.args.words.now c.args.image.now c.args.rest.now c.args.judged n c.requires.4 (sym c.in_default.is ∙ q)) (unshown _ _ _ c.in_err-length.field-0.0 _ _ c.from_residual.ensures.1 c.in_err-length.was c.show_no_handler.ensures)

pub returns-in_default : goal.returns-in_default
returns-in_default c =
    λ n q. said_same _ _ _ _ _ (lacking_carried c.args.words.now c.args.image.now c.args.rest.now c.args.judged n c.requires.4 (sym c.in_default.is ∙ q)) (said_shown _ _ _ _ _ c.in_ok-length.was c.show_no_handler.ensures)

pub slice_bounds-write_report-count : goal.slice_bounds-write_report-count
slice_bounds-write_report-count c =
    omega arith

pub slice_bounds-write_report-start : goal.slice_bounds-write_report-start
slice_bounds-write_report-start c =
    omega arith

pub slice_bounds-write_report-end : goal.slice_bounds-write_report-end
slice_bounds-write_report-end c =
    omega arith

pub slice_bounds-write_report-end-2 : goal.slice_bounds-write_report-end-2
slice_bounds-write_report-end-2 c =
    sym (length-take-le _ c.args.rest.now c.requires.1)

pub write_report-requires : goal.write_report-requires
write_report-requires c =
    let g : length (take c.args.judged.place.at c.args.words.now) + length (take c.args.judged.scan.kept c.args.rest.now) < 0x8000000000000000 = rw (length-take, length-take) (omega arith) in
    (g, c.requires.5.path, c.requires.5.positionals)

pub returns-in_err-length-2 : goal.returns-in_err-length-2
unfolding found_of
returns-in_err-length-2 c =
    λ n q. said_same _ _ _ _ _ (handed_carried c.args.words.now c.args.image.now c.args.rest.now c.args.judged n c.requires.4 _ (sym c.in-Some.is ∙ q)) (unreported _ _ _ c.in_err-length-2.field-0.0 _ _ c.from_residual-in_err-length-2.ensures.1 c.in_err-length-2.was c.write_report.ensures)

pub returns : goal.returns
unfolding found_of
returns c =
    λ n q. said_same _ _ _ _ _ (handed_carried c.args.words.now c.args.image.now c.args.rest.now c.args.judged n c.requires.4 _ (sym c.in-Some.is ∙ q)) (said_reported _ _ _ _ _ c.in_ok-length-2.was c.write_report.ensures)
