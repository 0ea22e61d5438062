-- `buffer::maximum::pass` meets its contract.
use Rattle.std.proofs.Common.{rules, ◌≡◌, max}
use mathlib.Core.Path.{◌∙◌}
use native.Mathlib.Omega.{arith}
use Rattle.std.specs.List.{fold}
use Rattle.buffer.proofs.Greatest.{greatest_fold}
use Rattle.buffer.proofs.maximum.pass.Goals as goal

pub returns : goal.returns
returns c =
    let e : c.fold.result ≡ fold max 0 c.args.s.now = search rules in
    e ∙ greatest_fold c.args.s.now 0 ∙ omega arith
