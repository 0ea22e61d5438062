-- `session::pressing::print_answer` meets its contract.
use mathlib.Core.Path.{refl, subst}
use Rattle.session.specs.Inner.{Within}
use Rattle.session.proofs.Turns.{tells_refused}
use Rattle.session.proofs.pressing.print_answer.Goals as goal

pub print_pressed-requires : goal.print_pressed-requires
print_pressed-requires c =
    (subst (Within c.args.image.now) c.in-Ok.is c.requires.0, c.requires.1, c.requires.2)

pub returns-in-Ok : goal.returns-in-Ok
returns-in-Ok c = rw c.in-Ok.is c.print_pressed.ensures

pub returns-in-Err : goal.returns-in-Err
returns-in-Err c =
    tells_refused _ c.args.image.now c.args.line.now c.args.screen.now c.args.out.now _ _ c.in-Err.is refl
