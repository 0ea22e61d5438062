-- `stream::blank::blank_line` meets its contract.
use Rattle.buffer.specs.Lend.{zeros}
use lib.ListN.{length-replicate}
use Prim.Native.Nat.{ℕ}
use mathlib.Core.Path.{refl}
use Rattle.stream.proofs.blank.blank_line.Goals as goal

pub returns : goal.returns
unfolding zeros
returns c = (refl, length-replicate {A = ℕ} 1026 0)
