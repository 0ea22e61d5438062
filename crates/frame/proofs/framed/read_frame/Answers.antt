-- `frame::read_frame` meets its contract: `End` at the end, else the kind with what `long_text` reads after it.
use Rattle.frame.proofs.Frames.{first_end, first_at}
use mathlib.Core.Path.{sym}
use Rattle.frame.proofs.framed.read_frame.Goals as goal

pub returns-then-s-at : goal.returns-then-s-at
returns-then-s-at c = sym (first_end c.args.s.now c.args.at c.if-s-at.true)

pub returns-in_default : goal.returns-in_default
returns-in_default c =
    sym (first_at c.args.s.now c.args.at _ c.if-s-at.false (sym c.in_default.ensures))

pub returns : goal.returns
returns c =
    sym (first_at c.args.s.now c.args.at _ c.if-s-at.false (sym c.in-Some.ensures))
