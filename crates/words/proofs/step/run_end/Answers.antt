-- `words::step::run_end` meets its contract. What is passed is a run; it stops where the next character is not taken.
use Rattle.words.proofs.Runs.{run_on, run_one, run_stop, run_other}
use Rattle.text.proofs.Prefix.{no_character, codes_stop, codes_end}
use Rattle.text.proofs.Pieces.{character_some, character_fits}
use native.Mathlib.Omega.{arith}
use mathlib.Core.Path.{sym}
use lib.ListN.{drop}
use Rattle.words.proofs.step.run_end.Goals as goal

pub loop-at-init : goal.loop-at-init
loop-at-init c = c.ordinary_end-at.ensures _

pub returns-in_default : goal.returns-in_default
returns-in_default c =
    record { reached = c.loop-at.invariant; stops = run_stop _ _ (codes_stop _ _ (sym c.decode.ensures) (no_character _ c.in_default.not-Character)) }

pub returns-in_default-role_of : goal.returns-in_default-role_of
returns-in_default-role_of c =
    record {
      reached = c.loop-at.invariant;
      stops = run_other c.args.line.now _ c.loop-at.at _ _ _ (sym c.in-Character.ensures) (sym c.role_of.ensures) c.in_default-role_of.not-Take;
    }

pub overflow_add-at : goal.overflow_add-at
overflow_add-at c =
    let f = character_fits c.args.line.now c.loop-at.at _ _ (sym c.in-Character.ensures) in omega arith

pub ordinary_end-at-requires-in-loop-at : goal.ordinary_end-at-requires-in-loop-at
ordinary_end-at-requires-in-loop-at c =
    character_fits c.args.line.now c.loop-at.at _ _ (sym c.in-Character.ensures)

pub loop-at-smaller : goal.loop-at-smaller
loop-at-smaller c =
    let g = character_some (drop c.loop-at.at c.args.line.now) _ _ (sym c.in-Character.ensures) in
    let r = c.ordinary_end-at-in-loop-at.ensures c.args.quotes in
    omega (arith, g, r.onward, r.fits)

pub loop-at-preserved : goal.loop-at-preserved
loop-at-preserved c =
    run_on _ _ _ _ _ c.loop-at.invariant (run_on _ _ _ _ _ (run_one _ _ _ _ _ (sym c.in-Character.ensures) (sym c.in-Take.ensures)) (c.ordinary_end-at-in-loop-at.ensures _))

pub returns : goal.returns
returns c = record { reached = c.loop-at.invariant; stops = run_stop _ _ (codes_end _ _ c.loop-at-test.false) }
