-- `report::reporter::report_size` meets its contract: the sizes of the four parts.
use Rattle.report.proofs.Reports.{report_length}
use native.Mathlib.Omega.{arith}
use Rattle.report.proofs.reporter.report_size.Goals as goal

pub returns : goal.returns
returns c =
    let l = report_length c.args.words.now c.args.image.now c.args.path.now c.args.options c.args.flags c.args.rest.now in
    omega (arith, l, c.words_size.ensures.0 0x11, c.words_size-2.ensures.0 0x14, c.pairs_size.ensures.0, c.pairs_size-2.ensures.0)
