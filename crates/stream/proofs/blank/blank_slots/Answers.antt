-- `stream::blank::blank_slots` meets its contract.
use Rattle.buffer.specs.Lend.{zeros}
use Rattle.history.proofs.Journals.{none_zeros}
use mathlib.Core.Path.{sym}
use Rattle.stream.proofs.blank.blank_slots.Goals as goal

pub returns : goal.returns
unfolding zeros
returns c = sym none_zeros
