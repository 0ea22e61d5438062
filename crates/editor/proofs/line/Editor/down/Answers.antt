-- `editor::line::Editor::down` meets its contract.
use Rattle.editor.proofs.Turns.{down_recalls}
use Rattle.editor.proofs.line.Editor.down.Goals as goal

pub returns : goal.returns
returns c =
    down_recalls c.args.self c.args.history c.args.slots.now c.args.screen.now c.requires.0 c.next.result c.next.ensures _ _ c.args.prompt.now c.stepped.ensures
