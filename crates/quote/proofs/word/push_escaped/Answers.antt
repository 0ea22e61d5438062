-- `quote::word::push_escaped` meets its contract: each character is a write right after those before it.
use Rattle.quote.proofs.Laying.{laying_start, laying_end, character_room, character_turn}
use Rattle.quote.proofs.Showing.{escaped_none, formed_on}
use Rattle.text.proofs.Pieces.{character_some, character_fits}
use Rattle.text.proofs.Prefix.{codes_end, prefix_turn}
use native.Mathlib.Omega.{arith}
use mathlib.Core.Path.{refl, sym, ◌∙◌}
use lib.ListN.{drop}
use Rattle.text.proofs.Prefix.{no_character}
use Rattle.quote.proofs.word.push_escaped.Goals as goal

pub loop-at-init : goal.loop-at-init
loop-at-init c = (refl, laying_start _ _ _ _ refl, omega (arith, c.requires.word_value))

pub returns-in_default : goal.returns-in_default
returns-in_default c =
    absurd (formed_on c.args.word.now c.loop-at.at _ c.loop-at.invariant.2 (sym c.decode.ensures) (no_character _ c.in_default.not-Character) c.loop-at-test.true)

pub overflow_add-end : goal.overflow_add-end
overflow_add-end c =
    let f = character_fits c.args.word.now c.loop-at.at _ _ (sym c.in-Character.ensures) in omega arith

pub slice_bounds-push_character-end : goal.slice_bounds-push_character-end
slice_bounds-push_character-end c =
    let f = character_fits c.args.word.now c.loop-at.at _ _ (sym c.in-Character.ensures) in omega arith

pub push_character-o-requires : goal.push_character-o-requires
push_character-o-requires c =
    let r = character_room c.args.word.now c.args.out.now _ _ c.loop-at.at _ _ _ c.loop-at.invariant.1 (sym c.in-Character.ensures) c.requires.word_in_bounds in omega (arith, r, c.loop-at.invariant.0)

pub loop-at-smaller : goal.loop-at-smaller
loop-at-smaller c =
    let f = character_fits c.args.word.now c.loop-at.at _ _ (sym c.in-Character.ensures) in
    let g = character_some (drop c.loop-at.at c.args.word.now) _ _ (sym c.in-Character.ensures) in omega arith

pub loop-at-preserved : goal.loop-at-preserved
loop-at-preserved c = (
  c.push_character-o.auto.out ∙ c.loop-at.invariant.0,
  character_turn c.args.word.now c.args.out.now _ _ c.loop-at.at _ _ _ c.loop-at.invariant.1 (sym c.in-Character.ensures) c.requires.word_in_bounds _ _ c.push_character-o.ensures,
  prefix_turn c.args.word.now c.loop-at.at _ _ _ (sym c.in-Character.ensures) c.loop-at.invariant.2,
)

pub returns : goal.returns
returns c =
    laying_end _ _ _ _ _ _ c.loop-at.invariant.1 (escaped_none _ (codes_end c.args.word.now _ c.loop-at-test.false))
