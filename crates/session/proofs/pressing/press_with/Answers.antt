-- `session::pressing::press_with` meets its contract: what the editor answered is printed.
use Rattle.buffer.specs.Ascii.{ascii}
use Rattle.session.specs.Prints.{prompt}
use Rattle.session.proofs.Turns.{press_ready, press_done}
use lib.ListN.{length-set}
use native.Mathlib.Omega.{arith}
use Rattle.session.proofs.pressing.press_with.Goals as goal

pub slice_bounds-key-count : goal.slice_bounds-key-count
slice_bounds-key-count c =
    omega (arith, length-set c.args.screen.now 0 0x22, c.requires.2)

pub slice_bounds-key-start : goal.slice_bounds-key-start
slice_bounds-key-start c =
    omega (arith, length-set c.args.screen.now 0 0x22, c.requires.2)

pub print_answer-requires : goal.print_answer-requires
unfolding prompt ascii
print_answer-requires c =
    let r = press_ready c.args.session c.args.slots.now c.args.line.now c.args.screen.now _ _ _ _ _ c.requires.1 c.requires.2 c.key-key.ensures c.args.image.now _ c.requires.0 c.part-tree.ensures in
    (r.0, r.1, c.requires.3)

pub returns : goal.returns
unfolding prompt ascii
returns c =
    press_done c.args.session c.args.slots.now c.args.line.now c.args.screen.now _ _ _ _ _ c.requires.1 c.requires.2 c.key-key.ensures c.args.image.now _ c.args.out.now _ _ _ c.requires.0 c.requires.3 c.part-tree.ensures c.after.ensures c.print_answer.ensures
