-- `session::pressing::check_before` meets its contract.
use Rattle.session.proofs.Screens.{tested_before, untested}
use Rattle.session.proofs.pressing.check_before.Goals as goal

pub returns-in-13 : goal.returns-in-13
returns-in-13 c =
    tested_before c.args.byte c.args.image.now _ c.in-13.is c.check_tree.ensures

pub returns-in_default : goal.returns-in_default
returns-in_default c =
    untested c.args.byte c.args.image.now c.in_default.in_default-own.rest.1
