-- `rows::row::put_label` meets its contract: by whether there is a long and a short.
use mathlib.Core.Path.{refl, sym}
use Rattle.rows.proofs.OneRow.{label_long, label_name, label_short}
use Rattle.buffer.proofs.Inking.{inked_as, counts_as, counts_1, counts_2, counts_3, inked_three}
use Rattle.rows.specs.Rows.{short_then}
use Rattle.buffer.specs.Ascii.{ascii}
use Rattle.rows.proofs.row.put_label.Goals as goal

pub put_short-comma-requires : goal.put_short-comma-requires
unfolding ascii
put_short-comma-requires c =
    (c.requires.p_bound.2, counts_1 (short_then c.args.short (ascii ", ")) (ascii "--") _ _ (counts_as _ _ c.args.at (label_long c.args.s.now c.args.p c.args.short c.args.texts _ _ c.in-Some.is refl) c.requires.countable))

pub put-long-requires : goal.put-long-requires
unfolding ascii
put-long-requires c =
    counts_2 (short_then c.args.short (ascii ", ")) (ascii "--") _ _ (counts_as _ _ c.args.at (label_long c.args.s.now c.args.p c.args.short c.args.texts _ _ c.in-Some.is refl) c.requires.countable) _ _ _ c.put_short-comma.ensures

pub put-requires : goal.put-requires
unfolding ascii
put-requires c =
    counts_3 (short_then c.args.short (ascii ", ")) (ascii "--") _ _ (counts_as _ _ c.args.at (label_long c.args.s.now c.args.p c.args.short c.args.texts _ _ c.in-Some.is c.part.ensures) c.requires.countable) _ _ _ _ _ c.put_short-comma.ensures c.put-long.ensures

pub returns-in-Some : goal.returns-in-Some
unfolding ascii
returns-in-Some c =
    inked_as _ _ _ _ _ _ (sym (label_long c.args.s.now c.args.p c.args.short c.args.texts _ _ c.in-Some.is c.part.ensures)) (inked_three _ (ascii "--") _ _ _ _ _ _ _ _ _ c.put_short-comma.ensures c.put-long.ensures c.put.ensures)

pub put-requires-then-short-eq0 : goal.put-requires-then-short-eq0
put-requires-then-short-eq0 c =
    counts_as _ _ c.args.at (label_name c.args.s.now c.args.p c.args.short c.args.texts _ c.in_default.is c.if-short-eq0.true c.part-then-short-eq0.ensures) c.requires.countable

pub returns-then-short-eq0 : goal.returns-then-short-eq0
returns-then-short-eq0 c =
    inked_as _ _ _ _ _ _ (sym (label_name c.args.s.now c.args.p c.args.short c.args.texts _ c.in_default.is c.if-short-eq0.true c.part-then-short-eq0.ensures)) c.put-then-short-eq0.ensures

pub put_short-requires : goal.put_short-requires
put_short-requires c =
    (c.requires.p_bound.2, counts_as _ _ c.args.at (label_short c.args.s.now c.args.p c.args.short c.args.texts c.in_default.is c.if-short-eq0.false) c.requires.countable)

pub returns : goal.returns
returns c =
    inked_as _ _ _ _ _ _ (sym (label_short c.args.s.now c.args.p c.args.short c.args.texts c.in_default.is c.if-short-eq0.false)) c.put_short.ensures
