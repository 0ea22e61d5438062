-- `editor::drawing::show_arrow` meets its contract.
use Rattle.editor.proofs.Showings.{shows_fits, shows_short}
use Rattle.editor.specs.Turns.{arrow}
use Rattle.buffer.proofs.Lending.{over_at_front}
use mathlib.Core.Path.{refl, ◌∙◌}
use Rattle.editor.proofs.drawing.show_arrow.Goals as goal

pub returns-then-screen-lt3 : goal.returns-then-screen-lt3
returns-then-screen-lt3 c =
    rw c.answers.ensures (shows_short (arrow c.args.byte) c.args.stays c.args.history c.args.goes c.args.history c.args.screen.now _ c.if-screen-lt3.true refl)

pub returns : goal.returns
returns c =
    rw c.answers-2.ensures (shows_fits (arrow c.args.byte) c.args.stays c.args.history c.args.goes c.args.history c.args.screen.now _ c.if-screen-lt3.false (c.push.ensures.bytes ∙ over_at_front _ _))
