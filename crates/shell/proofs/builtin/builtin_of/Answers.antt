-- `shell::builtin::builtin_of` meets its contract: the tests in their order.
use mathlib.Core.Path.{sym, ◌∙◌}
use Rattle.buffer.proofs.Choices.{then_is, else_is}
use Rattle.buffer.specs.Ascii.{ascii}
use Rattle.shell.specs.Lines.{builtin_of}
use Rattle.shell.proofs.builtin.builtin_of.Goals as goal
use Rattle.shell.proofs.builtin.builtin_of.Goals.{then-same-2-via-then-same-2, then-same-2-via-else-same-2+then-same-3}

pub returns-then-same : goal.returns-then-same
unfolding builtin_of ascii
returns-then-same c = sym (then_is _ _ _ (sym c.same.ensures ∙ c.if-same.true))

pub returns-then-same-2 : goal.returns-then-same-2
unfolding builtin_of ascii
returns-then-same-2 c =
    let e = sym c.same.ensures ∙ c.if-same.false in
    elim c.then-same-2.branch [
      | then-same-2-via-then-same-2 w ↦ sym (else_is _ _ _ e ∙ then_is _ _ _ (sym c.same-2.ensures ∙ w.if-same-2.true))
      | then-same-2-via-else-same-2+then-same-3 w ↦
          sym (else_is _ _ _ e ∙ else_is _ _ _ (sym c.same-2.ensures ∙ w.if-same-2.false) ∙ then_is _ _ _ (sym w.same-else-same-2.ensures ∙ w.if-same-3.true))
    ]

pub returns-then-same-4 : goal.returns-then-same-4
unfolding builtin_of ascii
returns-then-same-4 c =
    sym (else_is _ _ _ (sym c.same.ensures ∙ c.if-same.false) ∙ else_is _ _ _ (sym c.same-2.ensures ∙ c.if-same-2.false) ∙ else_is _ _ _ (sym c.same-else-same-2.ensures ∙ c.if-same-3.false) ∙ then_is _ _ _ (sym c.same-3.ensures ∙ c.if-same-4.true))

pub returns : goal.returns
unfolding builtin_of ascii
returns c =
    sym (else_is _ _ _ (sym c.same.ensures ∙ c.if-same.false) ∙ else_is _ _ _ (sym c.same-2.ensures ∙ c.if-same-2.false) ∙ else_is _ _ _ (sym c.same-else-same-2.ensures ∙ c.if-same-3.false) ∙ else_is _ _ _ (sym c.same-3.ensures ∙ c.if-same-4.false))
