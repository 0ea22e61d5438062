-- `parse::parser::parse_command` meets its contract: what is told is what was judged.
use native.Mathlib.Omega.{arith}
use Rattle.buffer.specs.Numbers.{Bytes}
use Rattle.parse.proofs.Judgements.{good_short}
use Rattle.parse.proofs.Lines.{told_same}
use Rattle.parse.proofs.parser.parse_command.Goals as goal

pub tell-requires : goal.tell-requires
unfolding Bytes
tell-requires c =
    (c.judge-judged.ensures.within, c.judge-judged.ensures.kept, omega arith, omega arith, good_short c.args.image.now (λ i. (c.type_inv.image i).fits) c.requires.2, c.judge-judged.ensures.lent)

pub returns : goal.returns
returns c =
    told_same _ _ _ _ _ c.judge-judged.ensures.outcome c.tell.ensures
