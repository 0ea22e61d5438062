-- `words::step::ordinary_end` meets its contract. What is passed is a run, inside quotes or not.
use Rattle.words.proofs.Runs.{run_start, run_ordinary, ordinary_told, ordinary_fits, ordinary_some}
use native.Mathlib.Omega.{arith}
use Rattle.words.proofs.step.ordinary_end.Goals as goal

pub loop-n-init : goal.loop-n-init
loop-n-init c = (c.requires, λ quotes. run_start _ _ quotes c.requires)

pub overflow_add-at : goal.overflow_add-at
overflow_add-at c =
    let f = ordinary_fits c.args.line.now c.loop-n.at _ c.in-Some.ensures in omega arith

pub loop-n-smaller : goal.loop-n-smaller
loop-n-smaller c =
    let f = ordinary_fits c.args.line.now c.loop-n.at _ c.in-Some.ensures in
    let g = ordinary_some c.args.line.now c.loop-n.at _ c.in-Some.ensures in omega arith

pub loop-n-preserved : goal.loop-n-preserved
loop-n-preserved c =
    (ordinary_fits c.args.line.now c.loop-n.at _ c.in-Some.ensures, λ quotes. run_ordinary _ _ quotes _ _ (c.loop-n.invariant.1 quotes) (ordinary_told c.args.line.now c.loop-n.at _ c.in-Some.ensures))

pub returns : goal.returns
returns c = c.loop-n.invariant.1
