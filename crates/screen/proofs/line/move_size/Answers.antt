-- `screen::line::move_size` meets its contract: ESC, `[` and `D` besides the digits, of which 64 bits allow at most 20.
use Rattle.screen.proofs.Drawing.{move_none, move_length, move_few}
use native.Mathlib.Omega.{arith}
use mathlib.Core.Path.{sym, ap}
use lib.ListN.{length}
use Rattle.screen.proofs.line.move_size.Goals as goal

pub returns-then-n-eq0 : goal.returns-then-n-eq0
returns-then-n-eq0 c = let l = ap length (move_none c.args.n c.if-n-eq0.true) in (sym l, omega arith)

pub overflow_add-result : goal.overflow_add-result
overflow_add-result c =
    let l = move_length c.args.n c.if-n-eq0.false in let f = move_few c.args.n c.ranges.n.fits in omega arith

pub returns : goal.returns
returns c =
    let l = move_length c.args.n c.if-n-eq0.false in let f = move_few c.args.n c.ranges.n.fits in (omega arith, omega arith)
