-- `editor::line::Editor::is_good_with` meets its contract.
use Rattle.buffer.proofs.Choices.{then_is, else_is}
use Rattle.editor.specs.Answer.{good_state}
use mathlib.Core.Path.{sym, ◌∙◌}
use Rattle.editor.proofs.line.Editor.is_good_with.Goals as goal

pub returns-then-is_good : goal.returns-then-is_good
unfolding good_state
returns-then-is_good c = c.is_good-then-is_good.ensures ∙ sym (then_is _ _ _ (sym c.is_good.ensures ∙ c.if-is_good.true))

pub returns-else-is_good : goal.returns-else-is_good
unfolding good_state
returns-else-is_good c = c.if-is_good.false ∙ sym (else_is _ _ _ (sym c.is_good.ensures ∙ c.if-is_good.false))
