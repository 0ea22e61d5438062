-- `arguments::arguments::read_args` meets its contract: the words still to come, from where the scan stands, lead where all of them lead.
use Prim.Native.Nat.{◌-◌}
use lib.ListN.{length}
use Rattle.table.specs.Inner.{Fit}
use Rattle.arguments.specs.Inner.{definitions_at, held}
use Rattle.arguments.proofs.Walks.{ArgsAt}
use Rattle.arguments.proofs.reading.read_args.Given as goal

abbrev pub invariant-loop-at : goal.invariant-loop-at
invariant-loop-at l =
    ArgsAt l.node.words.now l.node.image.now (definitions_at l.node.image.now l.node.from) l.start l.initial.rest l.rest (held l.options l.flags l.stage) l.at × Fit l.stage.options l.options × Fit l.stage.flags l.flags

abbrev pub decreases-loop-at : goal.decreases-loop-at
decreases-loop-at l = length l.node.words.now - l.at
