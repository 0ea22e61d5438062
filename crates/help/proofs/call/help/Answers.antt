-- `help::call::help` meets its contract: one law for each refusal, in their order.
use native.Mathlib.Omega.{arith}
use mathlib.Core.Path.{sym, ◌∙◌}
use Rattle.std.proofs.lemmas.Result.{err_from_is_err_and}
use Rattle.help.proofs.Answers.{bad_tree_lem, too_long, ill_formed_lem, answered}
use Rattle.help.proofs.call.help.Goals as goal

pub returns-in_err-check_tree : goal.returns-in_err-check_tree
returns-in_err-check_tree c =
    let p = err_from_is_err_and c.from_residual.result c.from_residual.ensures.1 in
    rw (p.1, p.2) (bad_tree_lem _ _ _ _ (sym c.check_tree.ensures ∙ c.in_err-check_tree.was))

pub returns-then-line-gt-LINE_LIMIT : goal.returns-then-line-gt-LINE_LIMIT
returns-then-line-gt-LINE_LIMIT c =
    too_long _ _ _ (sym c.check_tree.ensures ∙ c.in_ok-check_tree.was) _ (omega arith) c.told_length.ensures

pub returns-then-place-line : goal.returns-then-place-line
returns-then-place-line c =
    ill_formed_lem _ _ _ (sym c.check_tree.ensures ∙ c.in_ok-check_tree.was) (omega arith) _ c.well_formed_prefix-place.ensures c.if-place-line.true

pub reply-requires : goal.reply-requires
reply-requires c =
    (sym c.check_tree.ensures ∙ c.in_ok-check_tree.was, omega arith)

pub returns : goal.returns
returns c =
    answered _ _ _ (sym c.check_tree.ensures ∙ c.in_ok-check_tree.was) (omega arith) _ _ _ c.well_formed_prefix-place.ensures c.if-place-line.false c.reply.ensures
