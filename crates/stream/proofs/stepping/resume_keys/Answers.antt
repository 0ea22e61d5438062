-- `stepping::resume_keys` meets its contract.
use Rattle.stream.proofs.Steppings.{resume_over, resume_reading, resume_waiting}
use native.Mathlib.Omega.{arith}
use Rattle.stream.proofs.stepping.resume_keys.Goals as goal
use Rattle.stream.proofs.stepping.resume_keys.Goals.{then-stream-via-then-stream, then-stream-via-else-stream+then-stream-2}

pub returns-then-stream : goal.returns-then-stream
returns-then-stream c =
    elim c.then-stream.branch [
      | then-stream-via-then-stream w ↦ resume_over _ _ _ _ c.requires _ w.if-stream.true
      | then-stream-via-else-stream+then-stream-2 w ↦ resume_reading _ _ _ _ c.requires _ w.if-stream.false w.if-stream-2.true
    ]

pub press_some-requires : goal.press_some-requires
press_some-requires c =
    record { ready = c.requires.ready; next_le_keys = (omega arith, c.requires.keys, omega arith) }

pub returns : goal.returns
returns c =
    resume_waiting _ _ _ _ c.requires _ c.if-stream.false c.if-stream-2.false _ _ _ c.press_some.ensures
