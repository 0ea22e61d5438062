-- `editor::line::Editor::emptied` meets its contract.
use Rattle.editor.proofs.Lines.{editor}
use Rattle.editor.specs.Line.{holding}
use Rattle.editor.specs.declared.line.Editor.{Editor}
use mathlib.Core.Path.{ap}
use Rattle.editor.proofs.line.Editor.emptied.Goals as goal

pub returns : goal.returns
unfolding holding
returns c = ap (λ (x : Editor). editor x.line x.length x.cursor c.args.self.mode x.profile) c.fresh.ensures
