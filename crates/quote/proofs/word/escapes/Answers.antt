-- `quote::word::escapes` meets its contract: what is counted and what is still to come make up the whole count, and what is still to come is well-formed.
use Rattle.quote.proofs.Showing.{specials_more, specials_same, specials_none, formed_on}
use Rattle.text.proofs.Pieces.{character_some, character_fits}
use Rattle.text.proofs.Prefix.{codes_end, prefix_turn}
use native.Mathlib.Omega.{arith}
use mathlib.Core.Path.{sym, ◌∙◌}
use lib.ListN.{drop}
use Rattle.text.proofs.Prefix.{no_character}
use Rattle.quote.proofs.word.escapes.Goals.{then-is_special, else-is_special}
use Rattle.quote.proofs.word.escapes.Goals as goal

pub loop-at-init : goal.loop-at-init
loop-at-init c = (omega arith, omega arith, omega arith, omega (arith, c.requires))

pub returns-in_default : goal.returns-in_default
returns-in_default c =
    absurd (formed_on c.args.word.now c.loop-at.at _ c.loop-at.invariant.3 (sym c.decode.ensures) (no_character _ c.in_default.not-Character) c.loop-at-test.true)

pub overflow_add-n : goal.overflow_add-n
overflow_add-n c = omega (arith, c.loop-at.invariant)

pub overflow_add-at : goal.overflow_add-at
overflow_add-at c =
    let f = character_fits c.args.word.now c.loop-at.at _ _ (sym c.in-Character.ensures) in omega arith

pub loop-at-smaller : goal.loop-at-smaller
loop-at-smaller c =
    let f = character_fits c.args.word.now c.loop-at.at _ _ (sym c.in-Character.ensures) in
    let g = character_some (drop c.loop-at.at c.args.word.now) _ _ (sym c.in-Character.ensures) in omega arith

pub loop-at-preserved : goal.loop-at-preserved
loop-at-preserved c =
    let d = sym c.in-Character.ensures in
    let f = character_fits c.args.word.now c.loop-at.at _ _ d in
    let g = character_some (drop c.loop-at.at c.args.word.now) _ _ d in
    let w = prefix_turn c.args.word.now c.loop-at.at _ _ _ d c.loop-at.invariant.3 in
    elim c.if-is_special.branch [
      | then-is_special v ↦
          let m = specials_more c.args.word.now c.loop-at.at _ _ d (sym c.is_special.ensures ∙ v.if-is_special.true) in
          (f, omega arith, omega arith, w)
      | else-is_special v ↦
          let m = specials_same c.args.word.now c.loop-at.at _ _ d (sym c.is_special.ensures ∙ v.if-is_special.false) in
          (f, omega arith, omega arith, w)
    ]

pub returns : goal.returns
returns c =
    let z = specials_none _ (codes_end c.args.word.now c.loop-at.at c.loop-at-test.false) in (omega (arith, z, c.loop-at.invariant), omega (arith, c.loop-at.invariant))
