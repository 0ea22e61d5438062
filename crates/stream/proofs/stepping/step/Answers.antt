-- `stepping::step` meets its contract.
use Rattle.stream.proofs.Steppings.{step_whole, step_starts}
use mathlib.Core.List.{[]}
use Rattle.stream.proofs.stepping.step.Goals as goal

pub resume_keys-first-requires : goal.resume_keys-first-requires
resume_keys-first-requires c = c.requires

pub take_piece-requires : goal.take_piece-requires
take_piece-requires c =
    (c.resume_keys-first.ensures.sound, step_starts _ [] _ _ _ _ _ _ _ c.resume_keys-first.ensures)

pub returns : goal.returns
returns c =
    step_whole _ _ _ _ _ _ _ _ _ c.resume_keys-first.ensures _ _ _ _ _ c.take_piece.ensures
