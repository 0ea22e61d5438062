-- `history::forgetting::forget` meets its contract.
use mathlib.Core.Path.{sym, ◌∙◌}
use Rattle.history.proofs.Shortened.{forgets_bad}
use Rattle.history.proofs.forgetting.forget.Goals as goal

pub returns-then-not-is_good : goal.returns-then-not-is_good
returns-then-not-is_good c =
    forgets_bad c.args.history c.args.slots.now c.args.k (sym c.is_good.ensures ∙ c.if-not-is_good.true)

pub forget_tested-requires : goal.forget_tested-requires
forget_tested-requires c =
    sym c.is_good.ensures ∙ c.if-not-is_good.false
