-- `parse::judging::verdict_of` meets its contract: the progress of the scan, and what is required, decide.
use mathlib.Core.Path.{◌∙◌}
use Rattle.arguments.specs.Inner.{definitions_at}
use Rattle.parse.proofs.Judgements.{required_decides, verdict_going, verdict_by}
use Rattle.parse.proofs.judging.verdict_of.Goals as goal

pub returns-in-Going : goal.returns-in-Going
returns-in-Going c =
    λ path rest.
    required_decides c.args.words.now c.args.node.now path _ c.validate_required_options.result c.map_err.result c.map_err.ensures.cases
    ∙ verdict_going c.args.words.now c.args.node.now c.args.scan (definitions_at c.args.node.now c.args.from) path rest _ c.in-Going.is c.validate_required_options.ensures

pub returns-in-Waiting : goal.returns-in-Waiting
returns-in-Waiting c =
    λ path rest. verdict_by c.args.words.now c.args.node.now c.args.scan (definitions_at c.args.node.now c.args.from) path rest _ c.in-Waiting.is

pub returns-in-UnknownOption : goal.returns-in-UnknownOption
returns-in-UnknownOption c =
    λ path rest. verdict_by c.args.words.now c.args.node.now c.args.scan (definitions_at c.args.node.now c.args.from) path rest _ c.in-UnknownOption.is

pub returns-in-MissingValue : goal.returns-in-MissingValue
returns-in-MissingValue c =
    λ path rest. verdict_by c.args.words.now c.args.node.now c.args.scan (definitions_at c.args.node.now c.args.from) path rest _ c.in-MissingValue.is
