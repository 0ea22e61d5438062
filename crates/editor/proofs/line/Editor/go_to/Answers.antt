-- `editor::line::Editor::go_to` meets its contract.
use Rattle.editor.proofs.Turns.{go_quiet, go_shown}
use Rattle.editor.proofs.States.{moved_fits}
use Rattle.editor.proofs.line.Editor.go_to.Goals as goal

pub returns-then-self-place : goal.returns-then-self-place
returns-then-self-place c =
    λ slots. rw c.answers.ensures (go_quiet c.args.self c.args.history slots c.args.screen.now c.requires.0 _ c.args.place c.if-self-place.true)

pub redraw-requires : goal.redraw-requires
redraw-requires c =
    let f = moved_fits c.args.self _ _ c.requires.0 c.moved-self.ensures in (f.0, f.1, c.requires.1)

pub returns : goal.returns
returns c =
    λ slots. go_shown c.args.self c.args.history slots c.args.screen.now c.requires.0 _ _ _ c.args.prompt.now c.args.place c.if-self-place.false c.moved-self.ensures c.redraw.ensures
