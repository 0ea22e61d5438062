-- `parse::judging::judge_arguments` meets its contract: a node stands there, and the verdict is that on the words left over.
use mathlib.Core.Path.{refl, sym}
use Rattle.parse.proofs.Definitions.{start_after, no_node_first}
use Rattle.parse.proofs.Judgements.{arguments_judged}
use Rattle.std.proofs.Common.{rules}
use borrow.Enum.Refused.{opened}
use Rattle.parse.proofs.judging.judge_arguments.Goals as goal

pub returns-in_default : goal.returns-in_default
returns-in_default c =
    absurd (no_node_first _ _ (sym c.head_of.ensures) (opened c.in_default.in_default-own.keys2) c.requires.4)

pub parse_args-scan-requires : goal.parse_args-scan-requires
parse_args-scan-requires c =
    (search rules, search rules, c.requires.5.later)

pub returns : goal.returns
returns c =
    λ to d. arguments_judged c.args.words.now c.args.image.now c.args.rest.now _ c.args.place to _ _ d refl (start_after _ _ _ _ (sym c.in-Node.ensures)) c.parse_args-scan.ensures c.verdict_of.ensures c.requires.2 c.requires.5
