-- `history::stepping::History::recall` meets its contract.
use mathlib.Core.Path.{◌∙◌}
use native.Mathlib.Omega.{arith}
use Rattle.history.proofs.Newest.{recall_past, recall_there}
use Rattle.history.proofs.stepping.History.recall.Goals as goal

pub returns-then-self-number : goal.returns-then-self-number
returns-then-self-number c =
    c.part.ensures ∙ recall_past c.args.self c.args.slots.now c.args.number c.if-self-number.true

pub returns : goal.returns
returns c =
    c.part-2.ensures ∙ recall_there c.args.self c.args.slots.now c.args.number (omega arith) _ _ c.place_of-at.ensures c.byte_at.ensures.byte (omega arith)
