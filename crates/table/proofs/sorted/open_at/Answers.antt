-- `table::sorted::open_at` meets its contract: the elements from the place on are shifted (law `shifted_opened`).
use Rattle.table.proofs.Shifting.{shifted_opened}
use Rattle.table.proofs.sorted.open_at.Goals as goal

pub returns : goal.returns
returns c = shifted_opened c.args.place c.args.e c.args.table.now c.args.n _ c.requires.0 c.requires.1 c.shift.ensures
