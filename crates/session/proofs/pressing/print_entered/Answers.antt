-- `session::pressing::print_entered` meets its contract.
use Rattle.session.proofs.Turns.{feed_room, entered}
use Rattle.session.proofs.pressing.print_entered.Goals as goal

pub run_line-requires : goal.run_line-requires
run_line-requires c =
    (c.requires.0, c.requires.1, feed_room c.args.out.now _ _ c.requires.2 c.print-at.ensures)

pub returns : goal.returns
returns c =
    entered c.args.out.now _ _ c.requires.2 c.print-at.ensures _ _ _ _ c.run_line.ensures
