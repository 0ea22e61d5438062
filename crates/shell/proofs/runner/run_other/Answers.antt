-- `shell::runner::run_other` meets its contract: the tests in their order.
use mathlib.Core.Path.{sym, ap, ◌∙◌}
use native.Mathlib.Omega.{arith}
use lib.ListN.{length-drop, length}
use Rattle.tree.specs.Images.{frames_of}
use Rattle.buffer.specs.Ascii.{ascii}
use Rattle.shell.proofs.WrittenAnswers.{said_same, said_nothing}
use Rattle.shell.proofs.Lines.{begins_is, other_help, other_blank, other_command}
use Rattle.shell.proofs.runner.run_other.Goals as goal

pub help_for-requires : goal.help_for-requires
help_for-requires c =
    let e = ap length c.rest.ensures ∙ length-drop 5 c.args.line.now in (c.requires.good, omega arith)

pub returns-then-same : goal.returns-then-same
unfolding ascii
returns-then-same c =
    said_same _ _ _ _ _ (other_help c.args.line.now (frames_of c.args.image.now) _ (begins_is c.args.line.now _ _ c.part.ensures c.same.ensures ∙ c.if-same.true) c.rest.ensures) c.help_for.ensures

pub returns-then-is_blank : goal.returns-then-is_blank
unfolding ascii
returns-then-is_blank c =
    said_same _ _ _ _ _ (other_blank c.args.line.now (frames_of c.args.image.now) (begins_is c.args.line.now _ _ c.part.ensures c.same.ensures ∙ c.if-same.false) (sym c.is_blank.ensures ∙ c.if-is_blank.true)) (said_nothing _)

pub execute_command-requires : goal.execute_command-requires
execute_command-requires c =
    (c.requires.room, c.requires.good, c.requires.leads, c.requires.well)

pub returns : goal.returns
unfolding ascii
returns c =
    said_same _ _ _ _ _ (other_command c.args.line.now (frames_of c.args.image.now) _ (begins_is c.args.line.now _ _ c.part.ensures c.same.ensures ∙ c.if-same.false) (sym c.is_blank.ensures ∙ c.if-is_blank.false) c.requires.split) c.execute_command.ensures
