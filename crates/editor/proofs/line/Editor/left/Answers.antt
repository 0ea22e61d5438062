-- `editor::line::Editor::left` meets its contract.
use Rattle.editor.proofs.Turns.{left_quiet, left_shown}
use Rattle.editor.proofs.line.Editor.left.Goals as goal

pub returns-then-self-eq0 : goal.returns-then-self-eq0
returns-then-self-eq0 c =
    λ slots. rw c.answers.ensures (left_quiet c.args.self c.args.history slots c.args.screen.now c.requires c.if-self-eq0.true)

pub returns : goal.returns
returns c =
    λ slots. left_shown c.args.self c.args.history slots c.args.screen.now (c.requires) _ _ _ c.if-self-eq0.false c.moved-self.ensures c.show_arrow.ensures
