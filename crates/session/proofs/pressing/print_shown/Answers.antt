-- `session::pressing::print_shown` meets its contract: the kind and the bytes are the front of the buffer.
use Rattle.session.proofs.Turns.{shown_ready, shown_done}
use Rattle.session.proofs.pressing.print_shown.Goals as goal

pub print_screen-requires : goal.print_screen-requires
print_screen-requires c =
    shown_ready c.args.screen.now c.args.size c.requires.0 c.requires.1 c.args.out.now _ c.requires.2 c.part.ensures

pub returns : goal.returns
returns c =
    shown_done c.args.screen.now c.args.size c.requires.0 c.requires.1 c.args.out.now _ _ _ c.part.ensures c.print_screen.ensures
