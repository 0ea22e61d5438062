-- `words::step::ordinary_at` meets its contract.
use Rattle.words.proofs.Runs.{ordinary_end, ordinary_is}
use mathlib.Core.Bool.{true, false}
use mathlib.Core.Path.{sym, ◌∙◌}
use Rattle.words.proofs.step.ordinary_at.Goals as goal

pub returns-then-line-at : goal.returns-then-line-at
returns-then-line-at c = sym (ordinary_end _ _ c.if-line-at.true)

pub returns-then-is_ordinary : goal.returns-then-is_ordinary
returns-then-is_ordinary c =
    sym (ordinary_is _ _ true c.if-line-at.false (sym c.is_ordinary.ensures ∙ c.if-is_ordinary.true))

pub returns : goal.returns
returns c =
    c.letter_at.ensures ∙ sym (ordinary_is _ _ false c.if-line-at.false (sym c.is_ordinary.ensures ∙ c.if-is_ordinary.false))
