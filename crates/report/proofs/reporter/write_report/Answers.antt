-- `report::write_report` meets its contract: one law for each way out.
use Rattle.report.proofs.Answers.{no_room, reported}
use Rattle.report.proofs.reporter.write_report.Goals as goal

pub returns-then-out-needed : goal.returns-then-out-needed
returns-then-out-needed c =
    no_room _ c.args.out.now _ c.report_size-needed.ensures c.if-out-needed.true

pub returns : goal.returns
returns c =
    reported _ c.args.out.now _ _ c.report_size-needed.ensures c.if-out-needed.false c.write_frames.ensures
