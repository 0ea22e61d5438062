-- `history::stepping::History::fresh_in` meets its contract.
use Rattle.history.proofs.Layouts.{all_cleared}
use mathlib.Core.Path.{◌∙◌}
use Rattle.history.specs.Slots.{layout}
use Rattle.history.specs.Journal.{slots_of}
use Rattle.history.proofs.stepping.History.fresh_in.Goals as goal

pub returns : goal.returns
unfolding slots_of layout
returns c =
    record { state = c.fresh.ensures; bytes = c.clear.ensures ∙ all_cleared _ (c.requires) }
