-- `taking::press_keys` meets its contract.
use Rattle.stream.proofs.Takings.{put_whole, put_keys}
use native.Mathlib.Omega.{arith}
use Rattle.std.proofs.Common.{rules}
use Rattle.stream.proofs.taking.press_keys.Goals as goal

pub copy-n-requires : goal.copy-n-requires
copy-n-requires c =
    search rules

pub press_some-requires : goal.press_some-requires
press_some-requires c =
    record { ready = record { holds = c.requires.ready.holds; whole = put_whole _ _ _ _ c.copy-n.ensures c.requires.keys_len_bound.0 c.requires.ready.whole; room = c.requires.ready.room; slot = c.requires.ready.slot }; next_le_keys = (omega arith, omega arith, c.requires.keys_len_bound.1) }

pub returns : goal.returns
returns c =
    rw (put_keys _ _ _ _ c.copy-n.ensures c.requires.keys_len_bound.0 c.requires.ready.whole) at c.press_some.ensures
