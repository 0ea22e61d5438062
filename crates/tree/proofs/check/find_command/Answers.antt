-- `tree::check::find_command` meets its contract: what is left at every turn is judged as the whole image is, and the words are followed on the way.
use mathlib.Core.Path.{refl, sym, ◌∙◌}
use native.Mathlib.Omega.{arith}
use Rattle.tree.proofs.Items.{goes_on_lem, stops, sets_out, arrives, check_long, check_judged}
use Rattle.tree.proofs.Trails.{follows_start, follows_end, follows_turn, found_good}
use Rattle.tree.proofs.check.find_command.Goals as goal

pub returns-then-image-gt-IMAGE_LIMIT : goal.returns-then-image-gt-IMAGE_LIMIT
returns-then-image-gt-IMAGE_LIMIT c =
    sym (check_long c.args.image.now (omega arith))

pub loop-walk-init : goal.loop-walk-init
loop-walk-init c =
    (sets_out _ _ c.start-walk.ensures, follows_start c.args.words.now c.args.image.now _ _ c.start-walk.ensures c.start-trail.ensures, rw c.start-trail.ensures refl)

pub step_at-requires : goal.step_at-requires
step_at-requires c =
    (c.loop-walk.invariant.0.sound, omega arith, c.loop-walk.invariant.0.within)

pub returns-in_default : goal.returns-in_default
returns-in_default c =
    sym (stops _ _ _ c.loop-walk.invariant.0 _ refl c.in_default.ensures c.loop-walk-test.true ∙ check_judged _ (omega arith))

pub after-trail-requires : goal.after-trail-requires
after-trail-requires c =
    (c.requires, omega arith, c.loop-walk-test.true, c.loop-walk.invariant.2)

pub overflow_add-n : goal.overflow_add-n
overflow_add-n c =
    omega (arith, c.loop-walk.invariant.0.count, c.loop-walk.invariant.0.within)

pub loop-walk-smaller : goal.loop-walk-smaller
loop-walk-smaller c =
    let t = goes_on_lem _ _ _ c.loop-walk.invariant.0 _ refl _ c.in-Some.ensures in omega (arith, t.0, t.1.within)

pub loop-walk-preserved : goal.loop-walk-preserved
loop-walk-preserved c =
    ((goes_on_lem _ _ _ c.loop-walk.invariant.0 _ refl _ c.in-Some.ensures).1, follows_turn c.args.words.now c.args.image.now c.loop-walk.walk _ c.loop-walk.trail _ _ refl c.in-Some.ensures c.after-trail.ensures.0 c.loop-walk.invariant.1, c.after-trail.ensures.1)

pub returns : goal.returns
returns c =
    found_good _ _ c.loop-walk.trail _ c.found.ensures (arrives _ _ _ c.loop-walk.invariant.0 c.loop-walk-test.false ∙ check_judged _ (omega arith)) (follows_end c.args.words.now c.args.image.now _ _ c.loop-walk-test.false c.loop-walk.invariant.1)
