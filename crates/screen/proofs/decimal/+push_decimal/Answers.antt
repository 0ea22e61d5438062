-- The last digit stands after those of the tenth.
use Rattle.std.proofs.Common.{arith}
use Rattle.screen.proofs.Numerals.{decimal_some, decimal_length, pushed_one, pushed_more}
use Rattle.screen.proofs.decimal.+push_decimal.Goals as goal

pub push_byte-requires : goal.push_byte-requires
push_byte-requires t c = let l = decimal_some c.args.n in omega arith

pub returns-then-n-lt10 : goal.returns-then-n-lt10
returns-then-n-lt10 t c = pushed_one _ _ _ _ _ c.if-n-lt10.true c.push_byte.ensures

pub push_decimal-last-requires : goal.push_decimal-last-requires
push_decimal-last-requires t c = let l = decimal_length c.args.n c.if-n-lt10.false in (omega arith, omega arith)

pub push_byte-requires-2 : goal.push_byte-requires-2
push_byte-requires-2 t c = let l = decimal_length c.args.n c.if-n-lt10.false in omega arith

pub returns : goal.returns
returns t c = pushed_more _ _ _ _ _ _ _ c.if-n-lt10.false c.requires c.push_decimal-last.ensures c.push_byte-2.ensures
