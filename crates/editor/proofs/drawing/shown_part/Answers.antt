-- `editor::drawing::shown_part` meets its contract.
use Rattle.buffer.proofs.Choices.{then_is, else_is}
use Rattle.editor.specs.Line.{content}
use Rattle.text.specs.Decoding.{well_formed}
use borrow.Author.Tests.{eq-eqb, ne_eqb}
use mathlib.Core.Path.{sym, ◌∙◌}
use Rattle.editor.proofs.drawing.shown_part.Goals as goal

pub returns-then-well_formed_prefix-line : goal.returns-then-well_formed_prefix-line
unfolding content well_formed
returns-then-well_formed_prefix-line c = sym (then_is _ _ _ (eq-eqb _ _ (sym c.well_formed_prefix.ensures ∙ c.if-well_formed_prefix-line.true)))

pub returns : goal.returns
unfolding content well_formed
returns c = sym (else_is _ _ _ (ne_eqb _ _ (λ e. c.if-well_formed_prefix-line.false (c.well_formed_prefix.ensures ∙ e))))
