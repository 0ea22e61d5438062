-- `buffer::order::same_throughout` meets its contract: the fold over both, which are as long as one another.
use Rattle.std.proofs.Common.{rules, tests, ◌&&◌, Bool, ℕ}
use Rattle.std.proofs.lemmas.Iterator.{YieldsList-from_slice, YieldsList-from_zip}
use Rattle.std.proofs.lemmas.Iterator.Consumers.{fold_from_yields_List}
use mathlib.Core.Path.{sym, ◌∙◌}
use lib.Dec.{eqb}
use borrow.Author.Tests.{ne_eqb}
use Rattle.buffer.proofs.Ordering.{same_folded, same_lengths}
use Rattle.buffer.proofs.order.same_throughout.Goals as goal

pub returns-then-a-b : goal.returns-then-a-b
returns-then-a-b c =
    fold_from_yields_List _ (λ (t : Bool) (p : ℕ × ℕ). t && eqb p.0 p.1) _ _ c.fold.ensures.ran (YieldsList-from_zip (YieldsList-from_slice c.args.a.now cc) (YieldsList-from_slice c.args.b.now cc)) (λ a x b q k. search (rules, tests))
    ∙ same_folded c.args.a.now c.args.b.now c.if-a-b.true

pub returns-else-a-b : goal.returns-else-a-b
returns-else-a-b c = ne_eqb _ _ c.if-a-b.false ∙ sym (same_lengths _ _ c.if-a-b.false)
