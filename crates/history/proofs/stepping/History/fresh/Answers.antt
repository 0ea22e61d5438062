-- `history::stepping::History::fresh` meets its contract.
use mathlib.Core.Path.{refl}
use Rattle.history.specs.Entries.{total}
use Rattle.history.specs.Journal.{record_of}
use Rattle.history.proofs.stepping.History.fresh.Goals as goal

pub returns : goal.returns
unfolding record_of total
returns c = refl
