-- `editor::drawing::redraw` meets its contract.
use Rattle.editor.specs.Line.{line_of, content}
use Rattle.editor.proofs.Lines.{within_limit, line_short}
use Rattle.editor.proofs.Showings.{told_as, redraw_fits, redraw_short}
use native.Mathlib.Omega.{arith}
use mathlib.Core.Path.{sym}
use lib.Seq.{length-take-le}
use Rattle.editor.proofs.drawing.redraw.Goals as goal

pub slice_bounds-shown_part-end : goal.slice_bounds-shown_part-end
slice_bounds-shown_part-end c =
    sym (length-take-le _ c.args.goes.line (omega (arith, c.requires.0, c.requires.1)))

pub returns-in-Ok : goal.returns-in-Ok
unfolding line_of
returns-in-Ok c =
    rw c.answers.ensures (redraw_fits c.args.prompt.now (content (line_of c.args.goes)) _ c.args.stays c.args.before c.args.goes c.args.history c.args.screen.now _ _ (told_as c.args.prompt.now _ (content (line_of c.args.goes)) _ c.args.screen.now _ _ _ c.shown_part-shown.ensures c.in-Ok.is c.clear_line_and_redraw.ensures))

pub returns-in-Err : goal.returns-in-Err
unfolding line_of
returns-in-Err c =
    let h = line_short c.args.goes 255 (within_limit _ c.requires.0) in
    rw c.answers-in-Err.ensures (redraw_short c.args.prompt.now (content (line_of c.args.goes)) _ c.args.stays c.args.before c.args.goes c.args.history c.args.screen.now _ _ (omega (arith, c.requires.2)) (told_as c.args.prompt.now _ (content (line_of c.args.goes)) _ c.args.screen.now _ _ _ c.shown_part-shown.ensures c.in-Err.is c.clear_line_and_redraw.ensures))
