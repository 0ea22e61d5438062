-- `holding::hold` meets its contract.
use Rattle.stream.proofs.Holdings.{Passing}
use Rattle.stream.proofs.holding.hold.Given as goal

abbrev pub invariant-loop-byte : goal.invariant-loop-byte
invariant-loop-byte l = Passing l.initial.line l.held l.bytes l.line l.count l.byte-index
