-- `settings::choice_of` meets its contract.
use native.Mathlib.Omega.{arith}
use Rattle.console.proofs.Words.{choice_unsaid, choice_many, choice_one}
use Rattle.console.proofs.settings.choice_of.Goals as goal

pub returns-in-0-to-1 : goal.returns-in-0-to-1
returns-in-0-to-1 c = choice_unsaid _ _ (omega arith)

pub returns-in-2 : goal.returns-in-2
returns-in-2 c = choice_one _ _ (omega arith) (omega arith) _ c.setting_of.ensures

pub returns-in_default : goal.returns-in_default
returns-in_default c = choice_many _ _ (omega arith)
