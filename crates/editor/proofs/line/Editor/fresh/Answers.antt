-- `editor::line::Editor::fresh` meets its contract.
use Rattle.editor.specs.Line.{padded, limit}
use Rattle.buffer.specs.Lend.{zeros}
use mathlib.Core.Path.{refl}
use Rattle.editor.proofs.line.Editor.fresh.Goals as goal

pub returns : goal.returns
unfolding padded limit zeros
returns c = refl
