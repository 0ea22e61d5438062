-- `frame::first_bad` meets its contract.
use Rattle.std.proofs.Common.{rules}
use borrow.Author.Tests.{tests}
use Rattle.std.proofs.lemmas.Iterator.{IsFirst-from_position, YieldsList-from_slice}
use Rattle.frame.proofs.Digits.{Bad, Fine, bad_found}
use Rattle.frame.proofs.hex.first_bad.Goals as goal

pub returns : goal.returns
returns c =
    bad_found c.args.digits.now _
    (IsFirst-from_position _ _ _ Bad Fine c.position.ensures.ran (YieldsList-from_slice c.args.digits.now cc) (λ x q k. search (rules, tests)) (λ x q k. search (rules, tests)))
