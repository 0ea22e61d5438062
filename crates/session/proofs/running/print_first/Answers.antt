-- `session::running::print_first` meets its contract.
use lib.Seq.{length-take-le}
use mathlib.Core.Path.{sym}
use native.Mathlib.Omega.{arith}
use Rattle.session.proofs.running.print_first.Goals as goal

pub slice_bounds-print-end : goal.slice_bounds-print-end
slice_bounds-print-end c =
    sym (length-take-le c.args.size c.args.text.now c.requires.0)

pub print-requires : goal.print-requires
print-requires c =
    omega (arith, length-take-le c.args.size c.args.text.now c.requires.0, c.requires.1)
