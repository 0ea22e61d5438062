-- `text::apart::run_end` meets its contract. The place reached and the length of the run there give the end of the run.
use Rattle.text.proofs.WhiteRuns.{seen_here, seen_end, sees_fits, run_turn, run_stop, run_none}
use native.Mathlib.Omega.{arith}
use mathlib.Core.Path.{sym}
use borrow.Author.Tests.{not-true, not-false}
use Rattle.text.proofs.apart.run_end.Goals as goal

pub returns-then-seen-is_white : goal.returns-then-seen-is_white
returns-then-seen-is_white c =
    let e = run_stop _ _ c.args.is_white _ (seen_here _ _ (sym c.in-Some.ensures)) (not-true _ c.if-seen-is_white.true) in omega (arith, c.loop-seen.invariant.1, e)

pub overflow_add-at : goal.overflow_add-at
overflow_add-at c = let f = sees_fits c.args.s.now c.loop-seen.at _ _ (seen_here _ _ (sym c.in-Some.ensures)) in omega arith

pub loop-seen-smaller : goal.loop-seen-smaller
loop-seen-smaller c = let f = sees_fits c.args.s.now c.loop-seen.at _ _ (seen_here _ _ (sym c.in-Some.ensures)) in omega arith

pub loop-seen-preserved : goal.loop-seen-preserved
loop-seen-preserved c =
    ((sees_fits c.args.s.now c.loop-seen.at _ _ (seen_here _ _ (sym c.in-Some.ensures))).1, run_turn _ _ _ _ _ _ (seen_here _ _ (sym c.in-Some.ensures)) (not-false _ c.if-seen-is_white.false) c.loop-seen.invariant.1)

pub returns : goal.returns
returns c =
    let e = run_none _ c.args.is_white (seen_end _ (sym c.in_default.ensures)) in omega (arith, c.loop-seen.invariant.1, e)
