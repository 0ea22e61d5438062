-- `screen::line::push_move` meets its contract: nothing, or the three parts one after the other.
use Rattle.screen.proofs.Drawing.{move_length, pushed_none, pushed_move}
use native.Mathlib.Omega.{arith}
use Rattle.screen.proofs.line.push_move.Goals as goal

pub returns-then-n-eq0 : goal.returns-then-n-eq0
returns-then-n-eq0 c =
    pushed_none c.args.n c.args.out.now c.args.at c.if-n-eq0.true

pub push-digits-requires : goal.push-digits-requires
push-digits-requires c =
    let l = move_length c.args.n c.if-n-eq0.false in omega arith

pub push_decimal-end-requires : goal.push_decimal-end-requires
push_decimal-end-requires c =
    let l = move_length c.args.n c.if-n-eq0.false in omega arith

pub push_byte-requires : goal.push_byte-requires
push_byte-requires c =
    let l = move_length c.args.n c.if-n-eq0.false in omega arith

pub returns : goal.returns
returns c =
    pushed_move c.args.n c.args.out.now _ _ _ c.args.at _ _ _ c.if-n-eq0.false (c.requires) c.push-digits.ensures c.push_decimal-end.ensures c.push_byte.ensures
