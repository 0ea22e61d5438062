-- `turns::turns` meets its contract.
use Rattle.console.proofs.Turning.{begins}
use Rattle.console.proofs.turns.turns.Goals as goal

pub loop-init : goal.loop-init
loop-init c =
    let r = begins _ _ _ _ _ _ c.requires.0 c.requires.1 c.requires.2 c.requires.3 c.requires.4 in rw c.start-console.ensures r
