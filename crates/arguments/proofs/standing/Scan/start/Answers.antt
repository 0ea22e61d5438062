-- `arguments::standing::Scan::start` meets its contract: nothing is found yet.
use mathlib.Core.Path.{refl}
use Rattle.arguments.proofs.Moves.{stand_starts, apt_starts}
use Rattle.arguments.proofs.standing.Scan.start.Goals as goal

pub returns : goal.returns
returns c =
    (λ words image rest. (stand_starts words image rest _ _ (c.empty.ensures words image) (c.empty-2.ensures words image), apt_starts words image rest _ _), refl)
