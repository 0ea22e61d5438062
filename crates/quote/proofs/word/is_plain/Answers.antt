-- `quote::word::is_plain` meets its contract: the characters still to come decide it as all of them do, and the first that is not quiet ends it.
use Rattle.quote.proofs.Showing.{quiet_fits, quiet_some, plain_turn, plain_stop, plain_end}
use native.Mathlib.Omega.{arith}
use mathlib.Core.Path.{sym, ◌∙◌}
use Rattle.quote.proofs.word.is_plain.Goals as goal

pub returns-in_default : goal.returns-in_default
returns-in_default c =
    sym (plain_stop c.args.word.now c.loop-at.at c.loop-at-test.true c.in_default.ensures) ∙ c.loop-at.invariant

pub overflow_add-at : goal.overflow_add-at
overflow_add-at c =
    let f = quiet_fits c.args.word.now c.loop-at.at _ c.in-Some.ensures in omega arith

pub loop-at-smaller : goal.loop-at-smaller
loop-at-smaller c =
    let f = quiet_fits c.args.word.now c.loop-at.at _ c.in-Some.ensures in omega (arith, f, quiet_some _ _ c.in-Some.ensures)

pub loop-at-preserved : goal.loop-at-preserved
loop-at-preserved c =
    plain_turn c.args.word.now c.loop-at.at _ c.in-Some.ensures ∙ c.loop-at.invariant

pub returns : goal.returns
returns c = sym (plain_end c.args.word.now _ c.loop-at-test.false) ∙ c.loop-at.invariant
