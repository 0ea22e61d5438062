-- `session::press` meets its contract.
use mathlib.Core.Path.{refl, sym, ap, ◌∙◌}
use Rattle.session.specs.Calls.{tree_before}
use Rattle.session.proofs.Turns.{press_short, press_refused}
use Rattle.session.proofs.pressing.press.Goals as goal

pub returns-then-out-lt-KEY_ROOM : goal.returns-then-out-lt-KEY_ROOM
returns-then-out-lt-KEY_ROOM c =
    press_short c.args.session c.args.image.now c.args.slots.now c.args.byte c.args.out.now c.if-out-lt-KEY_ROOM.true

pub returns-in-Err : goal.returns-in-Err
returns-in-Err c =
    press_refused c.args.session c.args.image.now c.args.slots.now c.args.byte c.args.out.now _ c.part.ensures _ _ c.check_before.ensures c.in-Err.is c.if-out-lt-KEY_ROOM.false

pub press_with-requires : goal.press_with-requires
press_with-requires c =
    (ap (tree_before c.args.byte) (sym c.part.ensures) ∙ sym c.in_default.ensures, refl, refl, c.if-out-lt-KEY_ROOM.false)

pub returns : goal.returns
returns c = c.press_with.ensures
