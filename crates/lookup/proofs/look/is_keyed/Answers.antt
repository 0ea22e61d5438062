-- `lookup::look::is_keyed` meets its contract: the name decides, then the long if there is one.
use Rattle.lookup.proofs.Looks.{same_part, keyed_name, keyed_none, keyed_long}
use mathlib.Core.Path.{refl, sym, ◌∙◌}
use Rattle.lookup.proofs.look.is_keyed.Goals as goal

pub returns-then-same : goal.returns-then-same
returns-then-same c = keyed_name _ _ _ (same_part _ _ _ _ _ c.same.ensures c.part.ensures c.if-same.true)

pub returns-in-Some : goal.returns-in-Some
returns-in-Some c =
    let long = keyed_long _ _ _ _ _ (same_part _ _ _ _ _ c.same.ensures c.part.ensures c.if-same.false) c.in-Some.is in
    sym (same_part _ _ _ _ _ c.same-in-Some.ensures c.part-in-Some.ensures refl) ∙ long

pub returns-in-None : goal.returns-in-None
returns-in-None c =
    keyed_none _ _ _ _ (same_part _ _ _ _ _ c.same.ensures c.part.ensures c.if-same.false) c.in-None.is
