-- `tree::walk::flag_step` meets its contract: a flag that may follow is passed.
use Rattle.tree.proofs.Walks.{flag_rule, none_more, some_more, flag_more, step_refused, step_taken}
use mathlib.Core.Path.{◌∙◌}
use Rattle.tree.proofs.walk.flag_step.Goals as goal

pub returns-in_err-flags : goal.returns-in_err-flags
returns-in_err-flags c =
    λ image d n l ds. c.from_residual.ensures ∙ step_refused _ _ (flag_rule image _ c.requires.0 d n l ds ∙ none_more _ _ c.in_err-flags.ensures)

pub returns : goal.returns
returns c =
    λ image d n l ds.
    let more = some_more c.args.walk c.args.walk.flags _ c.in_ok-flags.ensures in
    step_taken _ _ _ (flag_more c.args.walk c.args.size _ more.1) (flag_rule image _ c.requires.0 d n l ds ∙ more.0)
