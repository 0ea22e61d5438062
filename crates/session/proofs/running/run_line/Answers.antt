-- `session::running::run_line` meets its contract.
use Rattle.std.proofs.Common.{rules}
use Rattle.session.proofs.running.run_line.Goals as goal

pub run_in-requires : goal.run_in-requires
run_in-requires c =
    (c.requires.0, c.requires.1, search rules, c.requires.2)
