-- `words::step::step_of` meets its contract.
use Rattle.words.proofs.Runs.{reading_character, reading_on}
use Rattle.text.proofs.Prefix.{no_character, codes_stop}
use Rattle.text.proofs.Pieces.{character_fits}
use native.Mathlib.Omega.{arith}
use mathlib.Core.Path.{refl, sym}
use Rattle.words.proofs.step.step_of.Goals as goal

pub returns-in_default : goal.returns-in_default
returns-in_default c = (refl, codes_stop _ _ (sym c.decode.ensures) (no_character _ c.in_default.not-Character))

pub returns-in_default-role : goal.returns-in_default-role
returns-in_default-role c =
    reading_character _ _ _ _ _ (sym c.in-Character.ensures) (sym c.role_of-role.ensures)

pub overflow_add-at : goal.overflow_add-at
overflow_add-at c =
    let f = character_fits c.args.line.now c.args.scan.at _ _ (sym c.in-Character.ensures) in omega arith

pub run_end-requires : goal.run_end-requires
run_end-requires c =
    character_fits c.args.line.now c.args.scan.at _ _ (sym c.in-Character.ensures)

pub returns : goal.returns
returns c =
    rw c.in-Take.is
    (reading_on _ _ _ _ (reading_character _ _ _ _ _ (sym c.in-Character.ensures) (sym c.in-Take.ensures)) c.run_end.ensures)
