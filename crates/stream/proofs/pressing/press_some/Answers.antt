-- `pressing::press_some` meets its contract.
use Rattle.stream.proofs.Pressings.{keys_begin, keys_wait, keys_go, keys_end, keys_done}
use native.Mathlib.Omega.{arith}
use Rattle.std.proofs.Common.{rules}
use Rattle.stream.proofs.pressing.press_some.Goals as goal

pub loop-k-init : goal.loop-k-init
loop-k-init c = keys_begin _ _ _ _ _ _ _ _ c.requires.ready c.requires.next_le_keys.0 c.requires.next_le_keys.2

pub overflow_sub-out : goal.overflow_sub-out
overflow_sub-out c = search rules

pub returns-then-out-printed-lt-KEY_ROOM : goal.returns-then-out-printed-lt-KEY_ROOM
returns-then-out-printed-lt-KEY_ROOM c =
    keys_wait _ _ _ _ _ _ _ _ _ _ _ c.loop-k.invariant c.requires.next_le_keys.1 c.loop-k-test.true _ c.waiting.ensures c.if-out-printed-lt-KEY_ROOM.true

pub bounds-line-k : goal.bounds-line-k
bounds-line-k c =
    search rules

pub press_at-key-requires : goal.press_at-key-requires
press_at-key-requires c =
    (c.loop-k.invariant.ready.holds, omega arith)

pub returns-then-key : goal.returns-then-key
returns-then-key c =
    keys_end _ _ _ _ _ _ _ _ _ _ _ c.loop-k.invariant c.requires.next_le_keys.1 c.loop-k-test.true c.if-out-printed-lt-KEY_ROOM.false _ _ _ c.press_at-key.ensures c.if-key.true _ c.stopped.ensures

pub loop-k-preserved : goal.loop-k-preserved
loop-k-preserved c =
    keys_go _ _ _ _ _ _ _ _ _ _ _ c.loop-k.invariant c.requires.next_le_keys.1 c.loop-k-test.true c.if-out-printed-lt-KEY_ROOM.false _ _ _ c.press_at-key.ensures c.if-key.false

pub returns : goal.returns
returns c = keys_done _ _ _ _ _ _ _ _ _ _ _ c.loop-k.invariant c.requires.next_le_keys.1 c.loop-k-test.false _ c.settled.ensures
