-- `shell::runner::run` meets its contract: the words are those of the line, once it is trimmed.
use mathlib.Core.Path.{sym}
use native.Mathlib.Omega.{arith}
use lib.ListN.{length-take}
use lib.Seq.{length-take-le}
use Rattle.shell.proofs.Lines.{trimmed_splits}
use Rattle.shell.proofs.runner.run.Goals as goal

pub slice_bounds-run_words-end : goal.slice_bounds-run_words-end
slice_bounds-run_words-end c =
    sym (length-take-le _ _ (omega arith))

pub run_words-requires : goal.run_words-requires
run_words-requires c =
    (rw length-take (omega arith), trimmed_splits c.args.line.now _ _ c.trim.ensures c.split-n.ensures.2, c.split-n.ensures.3)
