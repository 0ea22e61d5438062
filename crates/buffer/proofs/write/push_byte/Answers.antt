-- `buffer::write::push_byte` meets its contract.
use Rattle.buffer.proofs.Lending.{over_at_byte}
use mathlib.Core.Path.{refl}
use Rattle.buffer.proofs.write.push_byte.Goals as goal

pub returns : goal.returns
returns c = record { place = refl; bytes = over_at_byte _ _ _ c.requires }
