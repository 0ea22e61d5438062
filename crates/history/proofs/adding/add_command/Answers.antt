-- `history::adding::add_command` meets its contract.
use Rattle.std.specs.Prelude.{Err}
use Rattle.history.proofs.Answers.{answer_bad, addition}
use Rattle.history.specs.declared.adding.AddRefusal.TheVariants.{BadState}
use mathlib.Core.Path.{refl, sym, ◌∙◌}
use Rattle.history.proofs.adding.add_command.Goals as goal

pub returns-then-not-is_good : goal.returns-then-not-is_good
returns-then-not-is_good c =
    addition c.args.history c.args.slots.now c.args.text.now (Err BadState) _ _ (answer_bad _ _ _ (sym c.is_good.ensures ∙ c.if-not-is_good.true)) refl refl

pub add_tested-requires : goal.add_tested-requires
add_tested-requires c =
    sym c.is_good.ensures ∙ c.if-not-is_good.false

pub returns : goal.returns
returns c = c.add_tested.ensures
