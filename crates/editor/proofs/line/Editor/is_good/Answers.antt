-- `editor::line::Editor::is_good` meets its contract.
use Rattle.editor.specs.Line.{good_editor}
use Rattle.buffer.proofs.Choices.{then_is, else_is}
use mathlib.Core.Path.{sym, ◌∙◌}
use Rattle.editor.proofs.line.Editor.is_good.Goals as goal

pub returns-then-is_good_mode : goal.returns-then-is_good_mode
unfolding good_editor
returns-then-is_good_mode c = c.is_good_line.ensures ∙ sym (then_is _ _ _ (sym c.is_good_mode.ensures ∙ c.if-is_good_mode.true))

pub returns-else-is_good_mode : goal.returns-else-is_good_mode
unfolding good_editor
returns-else-is_good_mode c = c.if-is_good_mode.false ∙ sym (else_is _ _ _ (sym c.is_good_mode.ensures ∙ c.if-is_good_mode.false))
