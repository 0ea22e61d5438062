-- `rows::list::put_titled` meets its contract: a list with no rows has no title.
use native.Mathlib.Omega.{arith}
use mathlib.Core.Path.{◌≡◌, sym, ◌∙◌}
use Rattle.rows.proofs.Lists.{titled_none, titled_some}
use Rattle.buffer.proofs.Inking.{inked_nothing, inked_both, inked_as}
use Rattle.rows.proofs.list.put_titled.Goals as goal

pub returns-then-rows_size-eq0 : goal.returns-then-rows_size-eq0
returns-then-rows_size-eq0 c =
    let z : c.rows_size.result ≡ 0 = omega arith in
    (inked_nothing _ _ _ (titled_none _ _ (sym c.rows_size.ensures ∙ z)), omega arith)

pub returns : goal.returns
returns c =
    (inked_as _ _ _ _ _ _ (titled_some _ _ (λ z. c.if-rows_size-eq0.false (c.rows_size.ensures ∙ z))) (inked_both _ _ _ _ _ _ _ _ c.put-first.ensures c.put_rows.ensures.inked), omega arith)
