-- `shell::runner::run_words` meets its contract: one law for each refusal, in their order.
use Rattle.std.proofs.lemmas.Result.{err_from_is_err_and}
use native.Mathlib.Omega.{arith}
use Rattle.text.proofs.Prefix.{prefix_fits}
use Rattle.shell.specs.Inner.{Splits}
use Rattle.shell.proofs.WrittenAnswers.{said_shown, unshown}
use Rattle.shell.proofs.Lines.{bad_tree_lem, too_long, ill_formed_lem, well_formed_lem}
use Rattle.shell.proofs.runner.run_words.Goals as goal

pub returns-in_err-found : goal.returns-in_err-found
returns-in_err-found c =
    let p = err_from_is_err_and c.from_residual.result c.from_residual.ensures.1 in
    rw (p.1, p.2) (bad_tree_lem c.args.image.now c.args.line.now _ _ c.in_err-found.ensures)

pub returns-then-line-gt-LINE_LIMIT : goal.returns-then-line-gt-LINE_LIMIT
returns-then-line-gt-LINE_LIMIT c =
    too_long c.args.image.now c.args.line.now _ c.in_ok-found.ensures.0 _ (omega arith) c.told_length.ensures

pub returns-in_err-length : goal.returns-in_err-length
returns-in_err-length c =
    ill_formed_lem c.args.image.now c.args.line.now _ c.in_ok-found.ensures.0 (omega arith) _ _ _ c.well_formed_prefix.ensures c.if-well_formed_prefix-line.true (unshown _ _ _ c.in_err-length.field-0.0 _ _ c.from_residual-in_err-length.ensures.1 c.in_err-length.was c.show_ill_formed.ensures)

pub returns-then-well_formed_prefix-line : goal.returns-then-well_formed_prefix-line
returns-then-well_formed_prefix-line c =
    ill_formed_lem c.args.image.now c.args.line.now _ c.in_ok-found.ensures.0 (omega arith) _ _ _ c.well_formed_prefix.ensures c.if-well_formed_prefix-line.true (said_shown _ _ _ _ _ c.in_ok-length.was c.show_ill_formed.ensures)

pub handle_builtin_commands-requires : goal.handle_builtin_commands-requires
unfolding Splits
handle_builtin_commands-requires c =
    let p = prefix_fits c.args.line.now in record { good = c.in_ok-found.ensures.0; short = omega arith; whole = omega arith; room = c.requires.0; split = c.requires.1 (omega arith) (omega arith); well = c.requires.2; leads = c.in_ok-found.ensures.1 }

pub returns : goal.returns
returns c =
    well_formed_lem c.args.image.now c.args.line.now _ c.in_ok-found.ensures.0 (omega arith) _ _ _ c.well_formed_prefix.ensures c.if-well_formed_prefix-line.false c.handle_builtin_commands.ensures
