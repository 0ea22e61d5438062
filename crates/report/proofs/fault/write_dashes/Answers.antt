-- `report::fault::write_dashes` meets its contract: the first bytes, so many, are dashes.
use Rattle.report.proofs.Faults.{dashes_written}
use Rattle.report.proofs.fault.write_dashes.Goals as goal

pub returns : goal.returns
returns c = dashes_written c.args.dashes c.args.out.now _ c.requires (c.fill.ensures.after (λ y e. e))
