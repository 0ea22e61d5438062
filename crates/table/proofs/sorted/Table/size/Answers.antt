-- `table::Table::size` meets its contract: the array has 64 elements, whatever the count says.
use Rattle.table.proofs.TableMaps.{size_is}
use native.Mathlib.Omega.{arith}
use Rattle.table.proofs.sorted.Table.size.Goals as goal

pub returns : goal.returns
returns c =
    let n = size_is c.args.self c.well_formed.0.1.1.1.0.1.0.1 in
    (omega arith, omega arith)
