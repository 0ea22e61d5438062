-- `arguments::standing::Stage::short` meets its contract: a flag, an option that waits, or a fault, by what the character means.
use mathlib.Core.Path.{refl, ap, ◌∙◌}
use Rattle.std.specs.Prelude.{Some}
use Rattle.arguments.specs.Inner.{means_of, stored, held, definitions_at}
use Rattle.arguments.specs.Arguments.{short_step}
use Rattle.arguments.proofs.Steps.{name_small, fault_stays, short_flag, short_option, short_unknown, short_missing}
use Rattle.arguments.proofs.Moves.{fit_as}
use Rattle.arguments.proofs.standing.Stage.short.Goals as goal

pub with_flag-requires : goal.with_flag-requires
with_flag-requires c =
    let k = name_small _ _ (c.in-Some-Flag.is ∙ ap Some c.in-Some-Flag.field-0-is) c.meaning_by_short.ensures.1 in (k.0, k.1, c.requires.1)

pub at-requires : goal.at-requires
at-requires c = name_small _ _ (c.in-Some-Option.is ∙ ap Some c.in-Some-Option.field-0-is) c.meaning_by_short.ensures.1

pub returns-in-Some-Flag : goal.returns-in-Some-Flag
returns-in-Some-Flag c =
    (λ o. short_flag c.args.node.words.now c.args.node.image.now (held o c.args.flags.now c.args.self) _ _ c.args.code c.meaning_by_short.result c.in-Some-Flag.name.start c.in-Some-Flag.name.length c.in-Going.is c.meaning_by_short.ensures.0 (ap (means_of c.args.node.image.now) (c.in-Some-Flag.is ∙ ap Some c.in-Some-Flag.field-0-is)) (c.with_flag.ensures.0 o), c.with_flag.ensures.1, c.with_flag.ensures.2)

pub returns-in-Some-Option : goal.returns-in-Some-Option
returns-in-Some-Option c =
    (λ o. short_option c.args.node.words.now c.args.node.image.now (held o c.args.flags.now c.args.self) _ _ c.args.code c.meaning_by_short.result c.in-Some-Option.name c.args.place c.args.length c.in-Going.is c.meaning_by_short.ensures.0 (ap (means_of c.args.node.image.now) (c.in-Some-Option.is ∙ ap Some c.in-Some-Option.field-0-is)) c.requires.0 (c.at.ensures.0 _ _ o _), fit_as _ _ _ c.at.ensures.2 c.requires.1, c.at.ensures.1)

pub returns-in-None : goal.returns-in-None
returns-in-None c =
    (λ o. short_unknown c.args.node.words.now c.args.node.image.now (held o c.args.flags.now c.args.self) _ _ c.args.code c.meaning_by_short.result c.args.place c.args.length c.in-Going.is c.meaning_by_short.ensures.0 (ap (means_of c.args.node.image.now) c.in-None.is) c.requires.0 (c.at-in-None.ensures.0 _ _ o _), fit_as _ _ _ c.at-in-None.ensures.2 c.requires.1, c.at-in-None.ensures.1)

pub returns-in-Waiting : goal.returns-in-Waiting
returns-in-Waiting c =
    (λ o. short_missing c.args.node.words.now c.args.node.image.now (held o c.args.flags.now c.args.self) _ _ c.args.code _ _ _ c.in-Waiting.is (c.at-in-Waiting.ensures.0 _ _ o _), fit_as _ _ _ c.at-in-Waiting.ensures.2 c.requires.1, c.at-in-Waiting.ensures.1)

pub returns-in_default : goal.returns-in_default
returns-in_default c =
    (λ o. fault_stays c.args.node.words.now c.args.node.image.now (held o c.args.flags.now c.args.self) (λ a. short_step stored (definitions_at c.args.node.image.now c.args.node.from) a c.args.code) (λ t. refl) (λ t. refl) c.in_default.in_default-own.keys3, c.requires.1, refl)
