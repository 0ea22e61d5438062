-- `turns::turns` meets its contract.
use Rattle.console.specs.Turns.{Ready}
use Rattle.console.proofs.turns.turns.Given as goal

abbrev pub invariant-loop : goal.invariant-loop
invariant-loop l = Ready l.console l.input l.line l.image l.slots l.out
