-- `arguments::form::before_equals` meets its contract: the place of the first `=`, or the end.
use mathlib.Core.Path.{◌≡◌, ◌∙◌}
use native.Mathlib.Omega.{arith}
use Rattle.arguments.specs.Forms.{before_equals}
use Rattle.arguments.proofs.Equals.{equals_found, equals_within}
use Rattle.std.proofs.Common.{rules, tests}
use Rattle.std.proofs.lemmas.Iterator.{YieldsList-from_slice}
use Rattle.std.proofs.lemmas.Iterator.Search.{position_from_yields_List}
use Rattle.arguments.proofs.form.before_equals.Goals as goal

pub returns : goal.returns
returns c =
    let e : c.unwrap_or.result ≡ before_equals c.args.s.now =
    c.unwrap_or.ensures
    ∙ equals_found c.args.s.now _
    (position_from_yields_List _ _ _ _ c.position.ensures.ran (YieldsList-from_slice c.args.s.now cc) (λ x b q k. search (rules, tests))) in
    (e, omega (arith, equals_within c.args.s.now))
