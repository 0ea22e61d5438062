-- `message::debug::put_word` meets its contract: whoever writes the bytes that are left has written them all.
use Rattle.message.proofs.Debugging.{OnWord}
use Rattle.message.proofs.debug.put_word.Given as goal

abbrev pub invariant-loop-byte : goal.invariant-loop-byte
invariant-loop-byte l = OnWord l.word l.initial.out l.at l.out l.byte-index l.end
