-- `words::tokenizer::split_measured` meets its contract.
use Rattle.words.proofs.Answers.{measured_tells, ill_formed_lem, no_room, all_words}
use native.Mathlib.Omega.{arith}
use mathlib.Core.Path.{sym, ◌∙◌}
use Rattle.words.proofs.tokenizer.split_measured.Goals as goal

pub returns-then-out-needed : goal.returns-then-out-needed
returns-then-out-needed c =
    no_room _ _ _ (c.requires) (measured_tells _ _ (sym c.in-Ok.is ∙ c.measure.ensures)) c.if-out-needed.true

pub write-requires : goal.write-requires
write-requires c =
    let t = measured_tells c.args.line.now _ (sym c.in-Ok.is ∙ c.measure.ensures) in
    record { line_len_bound = c.requires; line_value = t.0; line_in_bounds = omega (arith, t.1, c.if-out-needed.false) }

pub returns-in-Err : goal.returns-in-Err
returns-in-Err c =
    ill_formed_lem _ _ _ (c.requires) (measured_tells _ _ (sym c.in-Err.is ∙ c.measure.ensures))

pub returns-else-out-needed : goal.returns-else-out-needed
returns-else-out-needed c =
    let t = measured_tells c.args.line.now _ (sym c.in-Ok.is ∙ c.measure.ensures) in
    all_words _ _ _ (c.requires) (t.0, c.write.ensures.count) _ (omega (arith, t.1, c.write.ensures.count, c.if-out-needed.false)) c.write.ensures.bytes
