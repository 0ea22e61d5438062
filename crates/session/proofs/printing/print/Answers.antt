-- `session::printing::print` meets its contract: there is room for the line, and it is written at its place.
use Rattle.session.proofs.Printings.{print_never, print_count, print_told}
use Rattle.std.proofs.Common.{rules}
use Rattle.session.proofs.printing.print.Goals as goal

pub returns-in_default : goal.returns-in_default
returns-in_default c =
    absurd (print_never c.args.frame.now c.args.out.now _ c.args.at _ _ (c.requires) c.write_line.ensures c.in_default.is)

pub overflow_add-result : goal.overflow_add-result
overflow_add-result c =
    let e = print_count c.args.frame.now c.args.out.now _ c.args.at _ _ (c.requires) c.write_line.ensures c.in-Ok.is in search rules

pub returns : goal.returns
returns c =
    print_told c.args.frame.now c.args.out.now _ c.args.at _ _ (c.requires) c.write_line.ensures c.in-Ok.is
