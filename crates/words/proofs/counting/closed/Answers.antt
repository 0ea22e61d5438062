-- `words::scan::closed` meets its contract.
use Rattle.words.proofs.OpenWords.{closed_none, closed_some}
use native.Mathlib.Omega.{arith}
use mathlib.Core.Path.{sym}
use Rattle.words.proofs.counting.closed.Goals as goal

pub returns-then-word-eq0 : goal.returns-then-word-eq0
returns-then-word-eq0 c = sym (closed_none _ _ c.if-word-eq0.true)

pub overflow_add-result : goal.overflow_add-result
overflow_add-result c = let e = closed_some c.args.done c.args.word c.if-word-eq0.false in omega (arith, c.requires, e)

pub overflow_add-result-2 : goal.overflow_add-result-2
overflow_add-result-2 c = let e = closed_some c.args.done c.args.word c.if-word-eq0.false in omega (arith, c.requires, e)

pub returns : goal.returns
returns c = sym (closed_some _ _ c.if-word-eq0.false)
