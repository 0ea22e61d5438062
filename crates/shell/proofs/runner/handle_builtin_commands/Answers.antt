-- `shell::runner::handle_builtin_commands` meets its contract: one law for each builtin.
use Rattle.buffer.specs.Numbers.{Bytes}
use Rattle.tree.specs.Images.{frames_of}
use Rattle.help.proofs.Answers.{tree_short}
use Rattle.shell.proofs.WrittenAnswers.{said_same, said_shown, unshown}
use Rattle.shell.proofs.Lines.{builtin_is}
use Rattle.shell.proofs.runner.handle_builtin_commands.Goals as goal

pub show_available_commands-requires : goal.show_available_commands-requires
unfolding Bytes
show_available_commands-requires c =
    tree_short c.args.image.now (λ i. (c.type_inv.image i).fits) c.requires.good

pub run_other-requires : goal.run_other-requires
run_other-requires c = c.requires

pub returns-in_err-length-in-Help : goal.returns-in_err-length-in-Help
returns-in_err-length-in-Help c =
    said_same _ _ _ _ _ (builtin_is c.args.line.now (frames_of c.args.image.now) _ _ _ c.trim-trimmed.ensures c.builtin_of.ensures c.in-Help.is) (unshown _ _ _ c.in_err-length-in-Help.field-0.0 _ _ c.from_residual.ensures.1 c.in_err-length-in-Help.was c.show_available_commands.ensures)

pub returns-in_ok-length-in-Help : goal.returns-in_ok-length-in-Help
returns-in_ok-length-in-Help c =
    said_same _ _ _ _ _ (builtin_is c.args.line.now (frames_of c.args.image.now) _ _ _ c.trim-trimmed.ensures c.builtin_of.ensures c.in-Help.is) (said_shown _ _ _ _ _ c.in_ok-length-in-Help.was c.show_available_commands.ensures)

pub returns-in_err-show_goodbye-in-Exit : goal.returns-in_err-show_goodbye-in-Exit
returns-in_err-show_goodbye-in-Exit c =
    said_same _ _ _ _ _ (builtin_is c.args.line.now (frames_of c.args.image.now) _ _ _ c.trim-trimmed.ensures c.builtin_of.ensures c.in-Exit.is) (unshown _ _ _ c.in_err-show_goodbye-in-Exit.field-0.0 _ _ c.from_residual-in_err-show_goodbye-in-Exit.ensures.1 c.in_err-show_goodbye-in-Exit.was c.show_goodbye.ensures)

pub returns-in_ok-show_goodbye-in-Exit : goal.returns-in_ok-show_goodbye-in-Exit
returns-in_ok-show_goodbye-in-Exit c =
    said_same _ _ _ _ _ (builtin_is c.args.line.now (frames_of c.args.image.now) _ _ _ c.trim-trimmed.ensures c.builtin_of.ensures c.in-Exit.is) (said_shown _ _ _ _ _ c.in_ok-show_goodbye-in-Exit.was c.show_goodbye.ensures)

pub returns-in_err-length-in-Clear : goal.returns-in_err-length-in-Clear
returns-in_err-length-in-Clear c =
    said_same _ _ _ _ _ (builtin_is c.args.line.now (frames_of c.args.image.now) _ _ _ c.trim-trimmed.ensures c.builtin_of.ensures c.in-Clear.is) (unshown _ _ _ c.in_err-length-in-Clear.field-0.0 _ _ c.from_residual-in_err-length-in-Clear.ensures.1 c.in_err-length-in-Clear.was c.show_clear.ensures)

pub returns-in_ok-length-in-Clear : goal.returns-in_ok-length-in-Clear
returns-in_ok-length-in-Clear c =
    said_same _ _ _ _ _ (builtin_is c.args.line.now (frames_of c.args.image.now) _ _ _ c.trim-trimmed.ensures c.builtin_of.ensures c.in-Clear.is) (said_shown _ _ _ _ _ c.in_ok-length-in-Clear.was c.show_clear.ensures)

pub returns-in-None : goal.returns-in-None
returns-in-None c =
    said_same _ _ _ _ _ (builtin_is c.args.line.now (frames_of c.args.image.now) _ _ _ c.trim-trimmed.ensures c.builtin_of.ensures c.in-None.is) c.run_other.ensures
