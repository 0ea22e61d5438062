-- `arguments::standing::Stage::word` meets its contract: a value where one is waited for, else an argument; a fault stays.
use Prim.Native.Nat.{◌+◌}
use mathlib.Core.Path.{refl, sym, ap}
use native.Mathlib.Omega.{arith}
use Rattle.frame.proofs.Series.{word_within}
use Rattle.table.specs.Inner.{part_of}
use Rattle.arguments.specs.Inner.{definitions_at, stored, held}
use Rattle.arguments.specs.Arguments.{Stand, word_step}
use Rattle.arguments.specs.declared.standing.Progress.TheVariants.{Going}
use Rattle.arguments.proofs.Steps.{stand_by_lem, key_small, fault_stays}
use Rattle.arguments.proofs.Walks.{stepped_as, moved_stepped}
use Rattle.arguments.proofs.Moves.{fit_as}
use Rattle.arguments.proofs.standing.Stage.word.Goals as goal

pub argument-requires : goal.argument-requires
argument-requires c =
    record { word_there = c.requires.word_there; argument_asks = (c.requires.word_asks.0, c.in-Going.is, c.requires.word_asks.1, c.requires.word_asks.2, c.requires.word_asks.3) }

pub overflow_add-value : goal.overflow_add-value
overflow_add-value c =
    let h = word_within c.args.node.words.now c.args.at c.requires.word_there.0.0 c.args.bytes c.requires.word_there.0.1 in
    omega arith

pub with_option-requires : goal.with_option-requires
with_option-requires c =
    let k = key_small _ _ c.in-Waiting.is c.requires.word_asks.0.small in
    let h = word_within c.args.node.words.now c.args.at c.requires.word_there.0.0 c.args.bytes c.requires.word_there.0.1 in
    (k.0, k.1, omega arith, omega arith, c.requires.word_asks.2)

pub returns-in-Going : goal.returns-in-Going
returns-in-Going c =
    (stepped_as _ _ _ _ _ _ _ _ _ _ c.argument.ensures.0 refl (sym (ap (λ (a : Stand). word_step stored (definitions_at c.args.node.image.now c.args.node.from) a (part_of c.args.node.words.now (c.args.at + 3) c.args.bytes)) (stand_by_lem c.args.node.words.now c.args.node.image.now c.args.rest.now (held c.args.options.now c.args.flags.now c.args.self) Going c.in-Going.is))), c.argument.ensures.1, c.argument.ensures.2)

pub returns-in-Waiting : goal.returns-in-Waiting
returns-in-Waiting c =
    (moved_stepped c.args.node.words.now c.args.node.image.now c.args.rest.now (held c.args.options.now c.args.flags.now c.args.self) _ _ _ _ c.requires.word_asks.0 (c.with_option.ensures.0 _) (sym (ap (λ (a : Stand). word_step stored (definitions_at c.args.node.image.now c.args.node.from) a (part_of c.args.node.words.now (c.args.at + 3) c.args.bytes)) (stand_by_lem c.args.node.words.now c.args.node.image.now c.args.rest.now (held c.args.options.now c.args.flags.now c.args.self) _ c.in-Waiting.is))), c.with_option.ensures.1, fit_as _ _ _ c.with_option.ensures.2 c.requires.word_asks.3)

pub returns-in_default : goal.returns-in_default
returns-in_default c =
    (moved_stepped c.args.node.words.now c.args.node.image.now c.args.rest.now (held c.args.options.now c.args.flags.now c.args.self) _ _ _ _ c.requires.word_asks.0 (fault_stays c.args.node.words.now c.args.node.image.now (held c.args.options.now c.args.flags.now c.args.self) (λ a. word_step stored (definitions_at c.args.node.image.now c.args.node.from) a (part_of c.args.node.words.now (c.args.at + 3) c.args.bytes)) (λ t. refl) (λ t. refl) c.in_default.in_default-own.keys3) refl, c.requires.word_asks.2, c.requires.word_asks.3)
