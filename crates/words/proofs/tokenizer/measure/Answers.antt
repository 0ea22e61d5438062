-- `words::tokenizer::measure` meets its contract. The scan stands in its line: `Standing`.
use Rattle.words.proofs.Standing.{standing_start, standing_turn, measured_whole, measured_broken}
use Rattle.words.proofs.OpenWords.{step_less}
use native.Mathlib.Omega.{arith}
use Rattle.std.proofs.lemmas.Result.{err_from_is_err_and}
use mathlib.Core.Path.{sym}
use Rattle.words.proofs.tokenizer.measure.Goals as goal

pub loop-scan-init : goal.loop-scan-init
loop-scan-init c = rw c.start-scan.ensures (standing_start _)

pub step_of-requires : goal.step_of-requires
step_of-requires c = c.loop-scan-test.true

pub returns-in_err-step : goal.returns-in_err-step
returns-in_err-step c =
    let p = err_from_is_err_and c.from_residual.result c.from_residual.ensures.1 in
    rw (p.1, p.2) (sym (measured_broken _ _ c.loop-scan.invariant c.loop-scan-test.true c.in_err-step.ensures.1 _ c.in_err-step.ensures.0))

pub advance-scan-requires : goal.advance-scan-requires
advance-scan-requires c =
    let r = c.in_ok-step.ensures in
    (c.loop-scan.invariant.cost, omega (arith, r.fits, c.requires))

pub loop-scan-smaller : goal.loop-scan-smaller
loop-scan-smaller c =
    let r = c.in_ok-step.ensures in
    step_less c.args.line.now c.loop-scan.scan _ _ _ c.advance-scan.ensures r.some r.fits

pub loop-scan-preserved : goal.loop-scan-preserved
loop-scan-preserved c =
    rw c.advance-scan.ensures (standing_turn _ _ _ _ c.loop-scan.invariant c.in_ok-step.ensures)

pub closed-requires : goal.closed-requires
closed-requires c =
    omega (arith, c.loop-scan.invariant.cost, c.loop-scan.invariant.inside, c.requires)

pub returns : goal.returns
returns c =
    rw c.closed.ensures (sym (measured_whole _ _ c.loop-scan.invariant c.loop-scan-test.false))
