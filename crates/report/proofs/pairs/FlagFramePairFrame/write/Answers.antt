-- `write` of `FlagFrame` meets its contract: a frame of the key.
use Rattle.report.specs.Report.{flag_frame}
use Rattle.report.proofs.Tables.{flag_any}
use Rattle.report.proofs.pairs.FlagFramePairFrame.write.Goals as goal

pub write_frame-requires : goal.write_frame-requires
write_frame-requires c =
    (c.requires.key_len_bound.0, flag_any c.args.key.now c.args._value.now c.args.out.now c.requires.value_in_bounds _)

pub returns : goal.returns
unfolding flag_frame
returns c = c.write_frame.ensures
