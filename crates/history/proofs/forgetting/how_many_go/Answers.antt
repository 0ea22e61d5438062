-- `history::forgetting::how_many_go` meets its contract.
use Rattle.history.proofs.Forgotten.{as_read, first_alone, last_alone, come_together, one_goes, two_gone}
use Rattle.history.proofs.Journals.{count_held}
use Rattle.history.specs.Journal.{journal_of}
use mathlib.Core.Path.{sym, ◌∙◌}
use native.Mathlib.Omega.{arith}
use Rattle.history.proofs.forgetting.how_many_go.Goals as goal
use Rattle.history.proofs.forgetting.how_many_go.Goals.{else-k-gt0-via-then-k-gt0+then-next-history+else-same, else-k-gt0-via-then-k-gt0+else-next-history, else-k-gt0-via-else-k-gt0}

pub returns-then-same : goal.returns-then-same
returns-then-same c =
    let es = (journal_of c.args.history c.args.slots.now).entries in
    let n = count_held c.args.history c.args.slots.now in
    sym (two_gone c.args.k es (come_together c.args.k es (omega arith) (omega arith) (omega arith) ∙ sym (as_read c.recall.ensures c.recall-then-next-history.ensures) ∙ sym c.same.ensures ∙ c.if-same.true))

pub returns-else-k-gt0 : goal.returns-else-k-gt0
returns-else-k-gt0 c =
    let es = (journal_of c.args.history c.args.slots.now).entries in
    let n = count_held c.args.history c.args.slots.now in
    elim c.else-k-gt0.branch [
      | else-k-gt0-via-then-k-gt0+then-next-history+else-same w ↦ sym (one_goes c.args.k es (come_together c.args.k es (omega arith) (omega arith) (omega arith) ∙ sym (as_read w.recall.ensures w.recall-then-next-history.ensures) ∙ sym w.same.ensures ∙ w.if-same.false))
      | else-k-gt0-via-then-k-gt0+else-next-history w ↦ sym (one_goes c.args.k es (last_alone c.args.k es (omega arith) (omega arith)))
      | else-k-gt0-via-else-k-gt0 w ↦ sym (one_goes c.args.k es (first_alone c.args.k es (omega arith)))
    ]
