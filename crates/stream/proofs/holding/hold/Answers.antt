-- `holding::hold` meets its contract.
use Rattle.stream.proofs.Holdings.{hold_begins, hold_lf, hold_full, hold_goes, hold_ends}
use mathlib.Core.Path.{◌∙◌}
use lib.ListN.{length-set}
use Rattle.std.proofs.Common.{rules}
use Rattle.stream.proofs.holding.hold.Goals as goal
use Rattle.stream.proofs.holding.hold.Goals.{then-byte-eq10-via-then-byte-eq10, then-byte-eq10-via-else-byte-eq10+then-count-ge-LINE_ROOM}

pub loop-byte-init : goal.loop-byte-init
loop-byte-init c = hold_begins _ _ _ c.requires.0 c.requires.1

pub bounds-line-count : goal.bounds-line-count
bounds-line-count c = search rules

pub overflow_add-count : goal.overflow_add-count
overflow_add-count c = search rules

pub returns-then-byte-eq10 : goal.returns-then-byte-eq10
returns-then-byte-eq10 c =
    elim c.then-byte-eq10.branch [
      | then-byte-eq10-via-then-byte-eq10 w ↦ hold_lf _ _ _ _ _ _ c.loop-byte.invariant c.loop-byte-test.true w.if-byte-eq10.true
      | then-byte-eq10-via-else-byte-eq10+then-count-ge-LINE_ROOM w ↦ hold_full _ _ _ _ _ _ c.loop-byte.invariant c.loop-byte-test.true w.if-count-ge-LINE_ROOM.true
    ]

pub loop-byte-preserved : goal.loop-byte-preserved
loop-byte-preserved c =
    hold_goes _ _ _ _ _ _ c.loop-byte.invariant c.loop-byte-test.true c.if-byte-eq10.false c.if-count-ge-LINE_ROOM.false (length-set c.loop-byte.line c.loop-byte.count _ ∙ c.loop-byte.invariant.room)

pub returns : goal.returns
returns c = hold_ends _ _ _ _ _ _ c.loop-byte.invariant c.loop-byte-test.false
