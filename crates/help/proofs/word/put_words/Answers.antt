-- `help::word::put_words` meets its contract: whoever writes the words that are left has written them all.
use Rattle.help.proofs.SpacedWords.{stops, word_here, word_counts, goes_on_lem}
use Rattle.buffer.specs.Ascii.{ascii}
use native.Mathlib.Omega.{arith}
use Rattle.help.proofs.word.put_words.Goals as goal

pub put-space-requires : goal.put-space-requires
put-space-requires c =
    let t = word_here _ _ _ _ _ _ c.loop-word.invariant _ c.next_word.ensures _ c.in-Some.is in let k = t.fits in let r = t.room in omega (arith, c.requires)

pub put-end-requires : goal.put-end-requires
unfolding ascii
put-end-requires c =
    word_counts _ _ _ _ _ _ c.loop-word.invariant _ c.next_word.ensures _ c.in-Some.is _ _ _ c.of.ensures c.put-space.ensures c.requires

pub loop-word-smaller : goal.loop-word-smaller
loop-word-smaller c =
    let t = word_here _ _ _ _ _ _ c.loop-word.invariant _ c.next_word.ensures _ c.in-Some.is in let k = t.fits in let m = t.on in omega arith

pub loop-word-preserved : goal.loop-word-preserved
unfolding ascii
loop-word-preserved c =
    goes_on_lem _ _ _ _ _ _ c.loop-word.invariant _ c.next_word.ensures _ c.in-Some.is _ _ _ _ _ c.of.ensures c.put-space.ensures c.put-end.ensures

pub returns : goal.returns
returns c = stops _ _ _ _ _ _ c.loop-word.invariant _ c.next_word.ensures c.in_default.is
