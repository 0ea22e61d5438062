-- `session::pressing::print_pressed` meets its contract: an answer of the editor at a time.
use mathlib.Core.Path.{refl, ap}
use Rattle.std.specs.Prelude.{Ok}
use Rattle.session.proofs.Turns.{within_shown, within_entered, tells_shown, tells_entered, tells_dropped}
use Rattle.session.proofs.pressing.print_pressed.Goals as goal

pub print_shown-requires : goal.print_shown-requires
print_shown-requires c =
    (within_shown _ c.args.image.now c.args.line.now c.args.screen.now c.args.out.now c.args.out.now _ c.requires.0 (ap Ok c.in-Shown.is), c.requires.1, c.requires.2)

pub print_entered-requires : goal.print_entered-requires
print_entered-requires c =
    let w = within_entered _ c.args.image.now c.args.line.now c.args.screen.now c.args.out.now c.args.out.now _ _ c.requires.0 (ap Ok c.in-Entered.is) c.part.ensures in
    (w.0, w.1, c.requires.2)

pub returns-in-Shown : goal.returns-in-Shown
returns-in-Shown c =
    tells_shown _ c.args.image.now c.args.line.now c.args.screen.now c.args.out.now _ _ _ (ap Ok c.in-Shown.is) c.print_shown.ensures

pub returns-in-Entered : goal.returns-in-Entered
returns-in-Entered c =
    tells_entered _ c.args.image.now c.args.line.now c.args.screen.now c.args.out.now _ _ _ _ (ap Ok c.in-Entered.is) c.part.ensures c.print_entered.ensures

pub returns-in-Dropped : goal.returns-in-Dropped
returns-in-Dropped c =
    tells_dropped _ c.args.image.now c.args.line.now c.args.screen.now c.args.out.now _ (ap Ok c.in-Dropped.is) refl
