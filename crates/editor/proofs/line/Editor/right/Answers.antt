-- `editor::line::Editor::right` meets its contract.
use Rattle.editor.proofs.Turns.{right_quiet, right_shown}
use Rattle.editor.proofs.line.Editor.right.Goals as goal

pub returns-then-self : goal.returns-then-self
returns-then-self c =
    λ slots. rw c.answers.ensures (right_quiet c.args.self c.args.history slots c.args.screen.now c.requires c.if-self.true)

pub returns : goal.returns
returns c =
    λ slots. right_shown c.args.self c.args.history slots c.args.screen.now (c.requires) _ _ _ c.if-self.false c.moved-self.ensures c.show_arrow.ensures
