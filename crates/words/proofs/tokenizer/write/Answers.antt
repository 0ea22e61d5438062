-- `words::tokenizer::write` meets its contract. The scan stands in its line, and what it has read lies in the buffer: `Laid`.
use Rattle.words.proofs.Laying.{laid_start, laid_turn, laid_whole, step_room, end_room}
use Rattle.words.proofs.Standing.{prefix_ends}
use Rattle.words.proofs.OpenWords.{step_less, closed_least}
use native.Mathlib.Omega.{arith}
use mathlib.Core.Path.{refl, ◌∙◌}
use Rattle.words.proofs.tokenizer.write.Goals as goal

pub loop-scan-init : goal.loop-scan-init
loop-scan-init c = (refl, rw c.start-scan.ensures (laid_start _ _))

pub step_of-requires : goal.step_of-requires
step_of-requires c = c.loop-scan-test.true

pub returns-in_default : goal.returns-in_default
returns-in_default c =
    let e = prefix_ends c.args.line.now c.loop-scan.scan c.loop-scan.invariant.1.standing c.loop-scan-test.true c.in_default.ensures.1 in
    absurd (omega (arith, e, c.requires.line_value, c.loop-scan-test.true))

pub put-requires : goal.put-requires
put-requires c =
    let r = c.in-Ok.ensures in
    let k = step_room c.args.line.now c.args.out.now _ c.loop-scan.scan _ _ c.loop-scan.invariant.1 r c.requires.line_in_bounds in
    let w = closed_least c.loop-scan.scan.done c.loop-scan.scan.word in
    record {
      n_nonzero = (r.some, r.fits);
      word_le_frames_limit = (omega (arith, w, c.loop-scan.invariant.1.standing.cost, c.loop-scan.invariant.1.standing.inside, c.requires.line_len_bound), omega (arith, k, c.loop-scan.invariant.0));
    }

pub advance-scan-requires : goal.advance-scan-requires
advance-scan-requires c =
    let r = c.in-Ok.ensures in
    (c.loop-scan.invariant.1.standing.cost, omega (arith, r.fits, c.requires.line_len_bound))

pub loop-scan-smaller : goal.loop-scan-smaller
loop-scan-smaller c =
    let r = c.in-Ok.ensures in
    step_less c.args.line.now c.loop-scan.scan _ c.in-Ok.step.role _ c.advance-scan.ensures r.some r.fits

pub loop-scan-preserved : goal.loop-scan-preserved
loop-scan-preserved c =
    let r = c.in-Ok.ensures in
    (c.put.auto.out ∙ c.loop-scan.invariant.0, rw (c.advance-scan.ensures, c.put.ensures) (laid_turn _ _ _ _ _ _ c.loop-scan.invariant.1 r c.requires.line_in_bounds))

pub end_word-requires : goal.end_word-requires
end_word-requires c =
    let r = end_room c.args.line.now c.args.out.now _ c.loop-scan.scan c.loop-scan.invariant.1 c.loop-scan-test.false c.requires.line_in_bounds in
    let w = closed_least c.loop-scan.scan.done c.loop-scan.scan.word in
    (omega (arith, r, c.loop-scan.invariant.0), omega (arith, w, c.loop-scan.invariant.1.standing.cost, c.loop-scan.invariant.1.standing.inside, c.requires.line_len_bound))

pub closed-requires : goal.closed-requires
closed-requires c =
    omega (arith, c.loop-scan.invariant.1.standing.cost, c.loop-scan.invariant.1.standing.inside, c.requires.line_len_bound)

pub returns : goal.returns
returns c =
    laid_whole _ _ _ _ c.loop-scan.invariant.1 c.loop-scan-test.false c.requires.line_in_bounds _ _ c.end_word.ensures c.closed.ensures
