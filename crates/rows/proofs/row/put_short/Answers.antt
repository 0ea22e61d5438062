-- `rows::row::put_short` meets its contract: nothing, or a dash, the short and what stands after it.
use Rattle.rows.proofs.OneRow.{short_none, short_some}
use Rattle.buffer.proofs.Inking.{inked_nothing, inked_as, counts_as, counts_1, counts_2, counts_3, inked_three}
use Rattle.buffer.specs.Ascii.{ascii}
use mathlib.Core.Path.{sym}
use mathlib.Core.List.{[], ◌∷◌}
use Rattle.rows.proofs.row.put_short.Goals as goal

pub returns-then-short-eq0 : goal.returns-then-short-eq0
returns-then-short-eq0 c = inked_nothing _ _ _ (short_none _ _ c.if-short-eq0.true)

pub put-dash-requires : goal.put-dash-requires
unfolding ascii
put-dash-requires c =
    counts_1 (ascii "-") (c.args.short ∷ []) c.args.tail.now _ (counts_as _ _ c.args.at (short_some _ _ c.if-short-eq0.false) c.requires.1)

pub put_byte-end-requires : goal.put_byte-end-requires
unfolding ascii
put_byte-end-requires c =
    counts_2 (ascii "-") (c.args.short ∷ []) c.args.tail.now _ (counts_as _ _ c.args.at (short_some _ _ c.if-short-eq0.false) c.requires.1) _ _ _ c.put-dash.ensures

pub put-requires : goal.put-requires
unfolding ascii
put-requires c =
    counts_3 (ascii "-") (c.args.short ∷ []) c.args.tail.now _ (counts_as _ _ c.args.at (short_some _ _ c.if-short-eq0.false) c.requires.1) _ _ _ _ _ c.put-dash.ensures c.put_byte-end.ensures

pub returns : goal.returns
unfolding ascii
returns c =
    inked_as _ _ _ _ _ _ (sym (short_some _ _ c.if-short-eq0.false)) (inked_three (ascii "-") _ _ _ _ _ _ _ _ _ _ c.put-dash.ensures c.put_byte-end.ensures c.put.ensures)
