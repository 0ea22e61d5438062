-- `session::printing::print_screen` meets its contract.
use Rattle.session.proofs.Printings.{screen_none, screen_some}
use Rattle.session.proofs.printing.print_screen.Goals as goal

pub returns-then-frame-le1 : goal.returns-then-frame-le1
returns-then-frame-le1 c =
    screen_none c.args.frame.now c.args.out.now c.args.at c.requires.1 c.if-frame-le1.true

pub returns : goal.returns
returns c =
    screen_some c.args.frame.now c.args.out.now _ c.args.at _ c.requires.1 c.if-frame-le1.false c.print.ensures
