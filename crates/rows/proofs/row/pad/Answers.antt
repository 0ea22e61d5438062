-- `rows::row::pad` meets its contract: as many of twenty spaces as are missing.
use Rattle.rows.proofs.OneRow.{blanks_none, blanks_some, blanks_length}
use Rattle.buffer.proofs.Inking.{inked_nothing, inked_as, counts_as}
use mathlib.Core.Path.{sym, ap, ◌∙◌}
use lib.ListN.{length}
use Rattle.rows.proofs.row.pad.Goals as goal

pub returns-then-width-used : goal.returns-then-width-used
returns-then-width-used c = inked_nothing _ _ _ (sym (blanks_none _ _ c.if-width-used.true))

pub slice_bounds-put-end : goal.slice_bounds-put-end
slice_bounds-put-end c =
    sym (ap length (blanks_some c.args.width c.args.used c.requires.0) ∙ blanks_length c.args.width c.args.used)

pub put-requires : goal.put-requires
put-requires c =
    counts_as _ _ c.args.at (sym (blanks_some c.args.width c.args.used c.requires.0)) c.requires.1

pub returns : goal.returns
returns c =
    inked_as _ _ _ _ _ _ (blanks_some c.args.width c.args.used c.requires.0) c.put.ensures
