-- `text::apart::next_word` meets its contract.
use Rattle.text.proofs.Splits.{next_past, next_none, next_is}
use mathlib.Core.Path.{sym}
use Rattle.text.proofs.apart.next_word.Goals as goal

pub returns-then-s-at : goal.returns-then-s-at
returns-then-s-at c = sym (next_past _ _ c.if-s-at.true)

pub returns-then-s-start : goal.returns-then-s-start
returns-then-s-start c = sym (next_none _ _ _ c.run_end-start.ensures c.if-s-start.true)

pub returns : goal.returns
returns c = sym (next_is _ _ _ c.run_end-start.ensures _ c.if-s-start.false c.run_end-end.ensures)
