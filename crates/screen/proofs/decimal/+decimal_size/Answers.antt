-- A number below ten has one digit, any other one more than its tenth.
use Rattle.std.proofs.Common.{ap, sym, arith, length, ◌/◌}
use Rattle.screen.proofs.Numerals.{decimal_one, decimal_length, decimal_most}
use Rattle.screen.proofs.decimal.+decimal_size.Goals as goal

pub returns-then-n-lt10 : goal.returns-then-n-lt10
returns-then-n-lt10 t c = sym (ap length (decimal_one c.args.n c.if-n-lt10.true))

pub overflow_add-result : goal.overflow_add-result
overflow_add-result t c = let m = decimal_most 19 (c.args.n / 10) (omega arith) in omega arith

pub returns : goal.returns
returns t c = let l = decimal_length c.args.n c.if-n-lt10.false in omega arith
