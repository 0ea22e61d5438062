-- `stepping::take_piece` meets its contract.
use Rattle.stream.proofs.Steppings.{step_begins, step_busy, step_full, step_done, more_within, more_some, step_goes}
use native.Mathlib.Omega.{arith}
use mathlib.Core.Path.{sym, ◌∙◌}
use Rattle.std.proofs.Common.{rules}
use Rattle.stream.proofs.stepping.take_piece.Goals as goal
use Rattle.stream.proofs.stepping.take_piece.Goals.{then-is_busy-via-then-is_busy, then-is_busy-via-else-is_busy+then-out-printed-lt-KEY_ROOM}

pub loop-took-init : goal.loop-took-init
loop-took-init c = step_begins _ _ _ _ _ _ _ c.requires.0 c.requires.1

pub overflow_sub-out : goal.overflow_sub-out
overflow_sub-out c = search rules

pub returns-then-is_busy : goal.returns-then-is_busy
returns-then-is_busy c =
    elim c.then-is_busy.branch [
      | then-is_busy-via-then-is_busy w ↦ step_busy _ _ _ _ _ _ _ _ _ _ _ c.loop-took.invariant (sym c.is_busy.ensures ∙ w.if-is_busy.true)
      | then-is_busy-via-else-is_busy+then-out-printed-lt-KEY_ROOM w ↦ step_full _ _ _ _ _ _ _ _ _ _ _ c.loop-took.invariant w.if-out-printed-lt-KEY_ROOM.true
    ]

pub take_bytes-more-requires : goal.take_bytes-more-requires
take_bytes-more-requires c =
    (c.loop-took.invariant.sound, sym c.is_busy.ensures ∙ c.if-is_busy.false, omega arith)

pub overflow_add-took : goal.overflow_add-took
overflow_add-took c =
    let w = more_within _ _ _ _ _ _ _ _ _ _ _ c.loop-took.invariant (sym c.is_busy.ensures ∙ c.if-is_busy.false) c.if-out-printed-lt-KEY_ROOM.false _ c.rest.ensures _ _ _ _ _ c.take_bytes-more.ensures in omega arith

pub loop-took-smaller : goal.loop-took-smaller
loop-took-smaller c =
    let w = more_within _ _ _ _ _ _ _ _ _ _ _ c.loop-took.invariant (sym c.is_busy.ensures ∙ c.if-is_busy.false) c.if-out-printed-lt-KEY_ROOM.false _ c.rest.ensures _ _ _ _ _ c.take_bytes-more.ensures in
    let m = more_some _ _ _ _ _ _ _ _ _ _ _ c.loop-took.invariant (sym c.is_busy.ensures ∙ c.if-is_busy.false) c.if-out-printed-lt-KEY_ROOM.false _ c.rest.ensures _ _ _ _ _ c.take_bytes-more.ensures c.loop-took-test.true in omega arith

pub loop-took-preserved : goal.loop-took-preserved
loop-took-preserved c =
    step_goes _ _ _ _ _ _ _ _ _ _ _ c.loop-took.invariant (sym c.is_busy.ensures ∙ c.if-is_busy.false) c.if-out-printed-lt-KEY_ROOM.false _ c.rest.ensures _ _ _ _ _ c.take_bytes-more.ensures

pub returns : goal.returns
returns c = step_done _ _ _ _ _ _ _ _ _ _ _ c.loop-took.invariant c.loop-took-test.false
