-- `input::each_line` ends: each turn hands on a line, and its end is passed.
use lib.ListN.{length}
use denote.Param.Always.{always_mut}
use Rattle.replay.proofs.input.each_line.Given as goal

abbrev pub invariant-loop-left : goal.invariant-loop-left
invariant-loop-left g l = always_mut g.F.FnMut l.initial.visit → always_mut g.F.FnMut l.visit

abbrev pub decreases-loop-left : goal.decreases-loop-left
decreases-loop-left g l = length l.left
