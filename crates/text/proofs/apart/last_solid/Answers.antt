-- `text::apart::last_solid` meets its contract. The end found so far, or the last solid piece of what is left, gives the end.
use Rattle.text.proofs.WhiteRuns.{seen_here, seen_end, sees_fits, solid_length, solid_turn, white_turn, solid_none}
use native.Mathlib.Omega.{arith}
use mathlib.Core.Path.{sym}
use borrow.Author.Tests.{not-true, not-false}
use Rattle.text.proofs.apart.last_solid.Goals as goal

pub overflow_add-at : goal.overflow_add-at
overflow_add-at c = let f = sees_fits c.args.s.now c.loop-seen.at _ _ (seen_here _ _ (sym c.in-Some.ensures)) in omega arith

pub loop-seen-smaller-then-not-seen : goal.loop-seen-smaller-then-not-seen
loop-seen-smaller-then-not-seen c = let f = sees_fits c.args.s.now c.loop-seen.at _ _ (seen_here _ _ (sym c.in-Some.ensures)) in omega arith

pub loop-seen-preserved-then-not-seen : goal.loop-seen-preserved-then-not-seen
loop-seen-preserved-then-not-seen c =
    ((sees_fits c.args.s.now c.loop-seen.at _ _ (seen_here _ _ (sym c.in-Some.ensures))).1, solid_turn _ _ _ _ _ _ (seen_here _ _ (sym c.in-Some.ensures)) (not-true _ c.if-not-seen.true) c.loop-seen.invariant.1)

pub loop-seen-smaller : goal.loop-seen-smaller
loop-seen-smaller c = let f = sees_fits c.args.s.now c.loop-seen.at _ _ (seen_here _ _ (sym c.in-Some.ensures)) in omega arith

pub loop-seen-preserved : goal.loop-seen-preserved
loop-seen-preserved c =
    ((sees_fits c.args.s.now c.loop-seen.at _ _ (seen_here _ _ (sym c.in-Some.ensures))).1, white_turn _ _ _ _ _ _ (seen_here _ _ (sym c.in-Some.ensures)) (not-false _ c.if-not-seen.false) c.loop-seen.invariant.1)

pub returns : goal.returns
unfolding solid_length
returns c =
    rw (solid_none _ (seen_end _ (sym c.in_default.ensures))) at c.loop-seen.invariant.1
