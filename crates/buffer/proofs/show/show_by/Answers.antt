-- `buffer::show::show_by` meets its contract: what it measures is the text's length, and what it shows is the text.
use mathlib.Core.Path.{◌≡◌}
use lib.ListN.{length}
use native.Mathlib.Omega.{arith}
use Rattle.buffer.proofs.Inking.{shown, no_room}
use Rattle.buffer.proofs.show.show_by.Goals as goal

pub returns-then-out-needed : goal.returns-then-out-needed
returns-then-out-needed g c text puts =
    let m = (puts _ _ _ c.put-needed.ensures).place in
    let size : c.put-needed.result ≡ length text = omega arith in
    no_room text c.args.out.now _ size c.if-out-needed.true

pub returns : goal.returns
returns g c text puts =
    let m = (puts _ _ _ c.put-needed.ensures).place in
    let size : c.put-needed.result ≡ length text = omega arith in
    shown text c.args.out.now _ size _ _ c.if-out-needed.false (puts _ _ _ c.put.ensures)
