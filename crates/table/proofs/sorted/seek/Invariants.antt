-- `table::sorted::seek` meets its contract. The keys passed are less: what is found in the rest is found in the whole.
use Rattle.table.specs.Inner.{tabled, map_of, seek_from}
use mathlib.Core.Path.{◌≡◌}
use lib.ListN.{drop, length}
use Rattle.table.proofs.sorted.seek.Given as goal

abbrev pub invariant-loop-i : goal.invariant-loop-i
invariant-loop-i l =
    seek_from l.i l.wanted (drop l.i (map_of l.words l.image (tabled (length l.entries) l.entries)))
    ≡ seek_from 0 l.wanted (map_of l.words l.image (tabled (length l.entries) l.entries))
