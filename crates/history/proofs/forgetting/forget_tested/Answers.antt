-- `history::forgetting::forget_tested` meets its contract.
use Rattle.history.proofs.Shortened.{forgets_past, forgets_gone}
use Rattle.history.proofs.Forgotten.{gone_few}
use Rattle.history.proofs.Journals.{count_held}
use Rattle.history.proofs.States.{good_has}
use Rattle.history.specs.Journal.{journal_of}
use native.Mathlib.Omega.{arith}
use Rattle.history.proofs.forgetting.forget_tested.Goals as goal

pub returns-then-history-k : goal.returns-then-history-k
returns-then-history-k c =
    forgets_past c.args.history c.args.slots.now c.args.k c.requires (omega arith)

pub how_many_go-gone-requires : goal.how_many_go-gone-requires
how_many_go-gone-requires c =
    let g = good_has c.args.history c.args.slots.now c.requires in
    (omega arith, g.counted)

pub overflow_add-end : goal.overflow_add-end
overflow_add-end c =
    let few = (good_has c.args.history c.args.slots.now c.requires).counted in
    omega arith

pub overflow_sub-start : goal.overflow_sub-start
overflow_sub-start c =
    let es = (journal_of c.args.history c.args.slots.now).entries in
    let n = count_held c.args.history c.args.slots.now in
    let g = (gone_few c.args.k es (omega arith)).2 in
    omega arith

pub returns : goal.returns
returns c =
    forgets_gone c.args.history c.args.slots.now c.args.k c.requires (omega arith) _ _ _ c.how_many_go-gone.ensures c.cut.ensures
