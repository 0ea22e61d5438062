-- `state::saving::editor_in` meets its contract.
use mathlib.Core.Path.{ap, ◌∙◌}
use Rattle.editor.specs.Saved.{restored as restored_editor}
use Rattle.state.proofs.Savings.{part_editor}
use Rattle.state.proofs.saving.editor_in.Goals as goal

pub returns : goal.returns
returns c =
    c.restored.ensures ∙ ap restored_editor (part_editor c.args.state.now _ c.part.ensures)
