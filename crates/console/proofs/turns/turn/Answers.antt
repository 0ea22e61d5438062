-- `turns::turn` meets its contract.
use Rattle.console.proofs.Turning.{next_within, lines_fit, turn_stops, turn_goes, turn_reads}
use native.Mathlib.Omega.{arith}
use mathlib.Core.Path.{sym, ap, ◌∙◌}
use lib.ListN.{drop}
use Rattle.console.proofs.turns.turn.Goals as goal

pub step-made-requires : goal.step-made-requires
step-made-requires c =
    c.requires.sound

pub overflow_add-next : goal.overflow_add-next
overflow_add-next c =
    let n = next_within _ _ _ _ _ _ c.requires _ (c.rest-piece.ensures ∙ ap (drop c.args.console.at) c.part.ensures) _ _ _ _ _ c.step-made.ensures in omega arith

pub returns-then-not-write_out : goal.returns-then-not-write_out
returns-then-not-write_out c =
    turn_stops _ _ _ _ _ _ c.requires _ (c.rest-piece.ensures ∙ ap (drop c.args.console.at) c.part.ensures) _ _ _ _ _ c.step-made.ensures _ c.stopped.ensures

pub returns-then-next-end : goal.returns-then-next-end
returns-then-next-end c =
    turn_goes _ _ _ _ _ _ c.requires _ (c.rest-piece.ensures ∙ ap (drop c.args.console.at) c.part.ensures) _ _ _ _ _ c.step-made.ensures

pub read_on-requires : goal.read_on-requires
read_on-requires c =
    (lines_fit _ _ _ _ c.step-made.ensures.sound (sym c.is_busy.ensures ∙ c.if-is_busy.false), omega arith)

pub returns : goal.returns
returns c =
    turn_reads _ _ _ _ _ _ c.requires _ (c.rest-piece.ensures ∙ ap (drop c.args.console.at) c.part.ensures) _ _ _ _ _ c.step-made.ensures c.if-next-end.false (sym c.is_busy.ensures ∙ c.if-is_busy.false) _ _ _ c.read_on.ensures
