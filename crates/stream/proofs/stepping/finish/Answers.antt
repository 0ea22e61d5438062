-- `stepping::finish` meets its contract.
use Rattle.stream.proofs.Steppings.{last_busy, last_none, last_bad}
use mathlib.Core.Path.{sym, ◌∙◌}
use Rattle.std.proofs.Common.{rules}
use Rattle.stream.proofs.stepping.finish.Goals as goal
use Rattle.stream.proofs.stepping.finish.Goals.{then-is_busy-via-then-is_busy, then-is_busy-via-else-is_busy+then-stream-eq0}

pub returns-then-is_busy : goal.returns-then-is_busy
returns-then-is_busy c =
    elim c.then-is_busy.branch [
      | then-is_busy-via-then-is_busy w ↦ last_busy _ _ (sym c.is_busy.ensures ∙ w.if-is_busy.true)
      | then-is_busy-via-else-is_busy+then-stream-eq0 w ↦ last_none _ _ (sym c.is_busy.ensures ∙ w.if-is_busy.false) w.if-stream-eq0.true
    ]

pub overflow_add-stream : goal.overflow_add-stream
overflow_add-stream c = search rules

pub returns : goal.returns
returns c =
    last_bad c.args.stream _ _ _ c.print_last.ensures (sym c.is_busy.ensures ∙ c.if-is_busy.false) c.if-stream-eq0.false
