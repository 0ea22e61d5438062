-- `settings::setting_of` meets its contract: a word that is neither of the two is refused.
use Rattle.console.proofs.Words.{set_rust, set_ecma, set_none}
use Rattle.buffer.specs.Ascii.{ascii}
use mathlib.Core.Path.{sym, ◌∙◌}
use Rattle.console.proofs.settings.setting_of.Goals as goal

pub returns-then-same : goal.returns-then-same
unfolding ascii
returns-then-same c = set_rust _ (sym c.same.ensures ∙ c.if-same.true)

pub returns-then-same-2 : goal.returns-then-same-2
unfolding ascii
returns-then-same-2 c =
    set_ecma _ (sym c.same.ensures ∙ c.if-same.false) (sym c.same-2.ensures ∙ c.if-same-2.true)

pub returns : goal.returns
unfolding ascii
returns c =
    set_none _ (sym c.same.ensures ∙ c.if-same.false) (sym c.same-2.ensures ∙ c.if-same-2.false)
