-- `history::adding::is_new` meets its contract.
use Rattle.history.specs.Journal.{journal_of}
use Rattle.history.proofs.Newest.{blank_not_new, first_new, other_new}
use mathlib.Core.Path.{sym, ap, ◌∙◌}
use mathlib.Core.Bool.{not}
use mathlib.Core.List.{List}
use Prim.Native.Nat.{ℕ}
use borrow.Author.Tests.{eq-eqb}
use Rattle.buffer.specs.Compare.{same_bytes}
use native.Mathlib.Omega.{arith}
use Rattle.history.proofs.adding.is_new.Goals as goal

pub returns-else-not-is_blank : goal.returns-else-not-is_blank
returns-else-not-is_blank c =
    ap not c.if-not-is_blank.false ∙ sym (blank_not_new c.args.text.now (journal_of c.args.history c.args.slots.now).entries (sym c.is_blank.ensures ∙ c.if-not-is_blank.false))

pub returns-then-history-eq0 : goal.returns-then-history-eq0
returns-then-history-eq0 c =
    eq-eqb _ _ c.if-history-eq0.true ∙ sym (first_new c.args.history c.args.slots.now c.args.text.now (sym c.is_blank.ensures ∙ c.if-not-is_blank.true) c.if-history-eq0.true)

pub returns-else-history-eq0 : goal.returns-else-history-eq0
returns-else-history-eq0 c =
    ap not (c.same.ensures ∙ ap (λ (e : List ℕ). same_bytes e c.args.text.now) c.recall.ensures) ∙ sym (other_new c.args.history c.args.slots.now c.args.text.now (sym c.is_blank.ensures ∙ c.if-not-is_blank.true) (omega arith))
