-- `taking::refuse_at` meets its contract.
use Rattle.stream.proofs.Takings.{room_lent, refuse_fits, refuse_made}
use Rattle.std.proofs.Common.{rules}
use Rattle.stream.proofs.taking.refuse_at.Goals as goal

pub print_last-n-requires : goal.print_last-n-requires
print_last-n-requires c = room_lent c.args.out.now c.args.at c.requires

pub overflow_add-result : goal.overflow_add-result
overflow_add-result c =
    let f = refuse_fits c.args.session c.args.number c.args.out.now c.args.at c.requires _ _ c.print_last-n.ensures (search rules) in search rules

pub returns : goal.returns
returns c =
    refuse_made c.args.session c.args.number c.args.out.now c.args.at c.requires _ _ c.print_last-n.ensures (search rules) _ c.stopped.ensures
