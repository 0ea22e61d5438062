-- `quote::quote` meets its contract: one law for each way out.
use Rattle.quote.proofs.Answers.{line_size_tells, bad_word_lem, too_long, no_room, a_line}
use native.Mathlib.Omega.{arith}
use mathlib.Core.Path.{sym, ◌∙◌}
use Rattle.quote.proofs.quoter.quote.Goals as goal

pub returns-then-needed-gt-LINE_LIMIT : goal.returns-then-needed-gt-LINE_LIMIT
returns-then-needed-gt-LINE_LIMIT c =
    too_long c.args.words.now c.args.out.now _ (line_size_tells _ _ (sym c.in-Ok.is ∙ c.measure.ensures)) _ c.if-needed-gt-LINE_LIMIT.true (omega (arith, c.told_length.ensures))

pub returns-then-out-needed : goal.returns-then-out-needed
returns-then-out-needed c =
    no_room c.args.words.now c.args.out.now _ (line_size_tells _ _ (sym c.in-Ok.is ∙ c.measure.ensures)) c.if-needed-gt-LINE_LIMIT.false c.if-out-needed.true

pub write-requires : goal.write-requires
write-requires c =
    let t = line_size_tells c.args.words.now _ (sym c.in-Ok.is ∙ c.measure.ensures) in
    record { fine = t.all_good; words_in_bounds = omega (arith, t.size, c.if-out-needed.false) }

pub returns-in-Err : goal.returns-in-Err
returns-in-Err c =
    bad_word_lem c.args.words.now c.args.out.now _ (line_size_tells _ _ (sym c.in-Err.is ∙ c.measure.ensures))

pub returns-else-out-needed : goal.returns-else-out-needed
returns-else-out-needed c =
    a_line c.args.words.now c.args.out.now _ (line_size_tells _ _ (sym c.in-Ok.is ∙ c.measure.ensures)) _ c.if-needed-gt-LINE_LIMIT.false c.if-out-needed.false c.write.ensures
