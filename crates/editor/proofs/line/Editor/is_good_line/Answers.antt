-- `editor::line::Editor::is_good_line` meets its contract.
use Rattle.editor.proofs.Lines.{too_long, past_end, zeros_after}
use mathlib.Core.Path.{◌≡◌, sym}
use lib.ListN.{length}
use Rattle.editor.proofs.line.Editor.is_good_line.Goals as goal
use Rattle.editor.proofs.line.Editor.is_good_line.Goals.{then-self-gt-LIMIT-via-then-self-gt-LIMIT, then-self-gt-LIMIT-via-else-self-gt-LIMIT+then-self}

pub returns-then-self-gt-LIMIT : goal.returns-then-self-gt-LIMIT
returns-then-self-gt-LIMIT c =
    elim c.then-self-gt-LIMIT.branch [
      | then-self-gt-LIMIT-via-then-self-gt-LIMIT w ↦ sym (too_long c.args.self w.if-self-gt-LIMIT.true)
      | then-self-gt-LIMIT-via-else-self-gt-LIMIT+then-self w ↦ sym (past_end c.args.self w.if-self-gt-LIMIT.false w.if-self.true)
    ]

pub returns : goal.returns
returns c =
    let whole : length c.args.self.line ≡ 255 = c.well_formed.0.1.1.0.1.0.1 in
    zeros_after c.args.self _ c.well_formed.0.1.1.0.1.0.1 c.if-self-gt-LIMIT.false c.if-self.false (rw whole at c.greatest_byte.ensures)
