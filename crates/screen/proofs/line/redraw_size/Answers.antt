-- `screen::line::redraw_size` meets its contract: the sum stops at the greatest number.
use native.Mathlib.Omega.{arith}
use Prim.Native.Nat.{ℕ}
use mathlib.Core.Path.{ap}
use lib.ListN.{length}
use Rattle.screen.specs.Redraw.{move_back}
use Rattle.screen.proofs.Drawing.{redraw_length}
use Rattle.screen.proofs.line.redraw_size.Goals as goal

pub returns : goal.returns
returns c =
    let n = redraw_length c.args.prompt.now c.args.content.now c.args.cursor in
    let m = ap (λ (k : ℕ). length (move_back k)) c.beyond.ensures in
    omega (arith, c.saturating_add.ensures)
