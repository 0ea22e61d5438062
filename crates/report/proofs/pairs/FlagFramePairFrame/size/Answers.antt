-- `size` of `FlagFrame` meets its contract: a frame of the key.
use Rattle.report.specs.Report.{flag_frame}
use Rattle.report.proofs.pairs.FlagFramePairFrame.size.Goals as goal

pub returns : goal.returns
unfolding flag_frame
returns c = c.frame_size.ensures 0x13
