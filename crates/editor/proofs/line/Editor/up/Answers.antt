-- `editor::line::Editor::up` meets its contract.
use Rattle.editor.proofs.Turns.{up_quiet, up_recalls}
use Rattle.editor.proofs.line.Editor.up.Goals as goal

pub returns-in-None : goal.returns-in-None
returns-in-None c =
    rw c.answers.ensures (up_quiet c.args.self c.args.history c.args.slots.now c.args.screen.now c.requires.0 _ c.previous-step.result c.previous-step.ensures c.in-None.is)

pub returns : goal.returns
returns c =
    up_recalls c.args.self c.args.history c.args.slots.now c.args.screen.now c.requires.0 _ _ c.args.prompt.now _ c.previous-step.result c.previous-step.ensures c.in_default.is c.stepped.ensures
