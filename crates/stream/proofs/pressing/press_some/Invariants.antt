-- `pressing::press_some` meets its contract.
use Rattle.stream.proofs.Pressings.{Goes_on, ahead}
use Rattle.stream.proofs.pressing.press_some.Given as goal

abbrev pub invariant-loop-k : goal.invariant-loop-k
invariant-loop-k l = Goes_on l.line l.image l.keys (ahead l.initial.here l.line l.image l.initial.slots l.initial.out l.next l.keys l.at) l.initial.out l.at l.slots l.out l.here l.k l.printed
