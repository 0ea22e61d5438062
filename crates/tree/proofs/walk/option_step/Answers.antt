-- `tree::walk::option_step` meets its contract: an option that may follow is passed.
use Rattle.tree.proofs.Walks.{option_rule, none_more, some_more, option_more, step_refused, step_taken}
use mathlib.Core.Path.{◌∙◌}
use Rattle.tree.proofs.walk.option_step.Goals as goal

pub returns-in_err-options : goal.returns-in_err-options
returns-in_err-options c =
    λ image q d n l ds. c.from_residual.ensures ∙ step_refused _ _ (option_rule image _ c.requires.0 q d n l ds ∙ none_more _ _ c.in_err-options.ensures)

pub returns : goal.returns
returns c =
    λ image q d n l ds.
    let more = some_more c.args.walk c.args.walk.options _ c.in_ok-options.ensures in
    step_taken _ _ _ (option_more c.args.walk c.args.size _ more.1) (option_rule image _ c.requires.0 q d n l ds ∙ more.0)
