-- `help::show::put_usage` meets its contract: nothing, or three texts in a row.
use Rattle.help.proofs.NodeHelp.{take_most, usage_none, usage_some, usage_short}
use Rattle.buffer.proofs.Inking.{inked_nothing, inked_three, inked_as}
use Rattle.buffer.specs.Ascii.{ascii}
use native.Mathlib.Omega.{arith}
use lib.ListN.{drop}
use Rattle.help.proofs.show.put_usage.Goals as goal

pub returns-in_default : goal.returns-in_default
returns-in_default c = (inked_nothing _ _ _ (usage_none _ _ c.in_default.is), omega arith)

pub put-end-requires : goal.put-end-requires
put-end-requires c =
    let m = take_most c.in-Some.n _ (drop c.args.from c.args.s.now) c.part.ensures in
    let k = usage_short _ _ _ c.in-Some.is c.requires.0 in omega arith

pub put-requires : goal.put-requires
put-requires c =
    let m = take_most c.in-Some.n _ (drop c.args.from c.args.s.now) c.part.ensures in
    let k = usage_short _ _ _ c.in-Some.is c.requires.0 in omega arith

pub returns : goal.returns
unfolding ascii
returns c =
    let m = take_most c.in-Some.n _ (drop c.args.from c.args.s.now) c.part.ensures in
    let k = usage_short _ _ _ c.in-Some.is c.requires.0 in (inked_as _ _ _ _ _ _ (usage_some _ c.in-Some.n (drop c.args.from c.args.s.now) _ c.in-Some.is c.part.ensures) (inked_three (ascii "Usage: ") _ (ascii "\n") _ _ _ _ _ _ _ _ c.put-usage.ensures c.put-end.ensures c.put.ensures), omega arith)
