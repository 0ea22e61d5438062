-- `quote::quoter::push_word` meets its contract: the space is one write, and the word the write right after it.
use Rattle.quote.proofs.Counting.{gap_none, gap_some}
use Rattle.quote.specs.Shown.{shown}
use Rattle.buffer.proofs.Writing.{pushed_both}
use native.Mathlib.Omega.{arith}
use Prim.Native.Nat.{◌+◌, ◌≤◌}
use mathlib.Core.List.{[], ◌∷◌}
use lib.ListN.{length}
use Rattle.quote.proofs.quoter.push_word.Goals as goal

pub push_shown-requires : goal.push_shown-requires
push_shown-requires c =
    record { word_value = c.requires.word_value; word_in_bounds = rw (gap_none c.args.n c.if-n-eq0.true) at c.requires.word_in_bounds }

pub returns-then-n-eq0 : goal.returns-then-n-eq0
returns-then-n-eq0 c =
    rw (gap_none c.args.n c.if-n-eq0.true) c.push_shown.ensures

pub push_byte-next-requires : goal.push_byte-next-requires
push_byte-next-requires c =
    let r : c.args.at + length (0x20 ∷ shown c.args.word.now) ≤ length c.args.out.now = rw (gap_some c.args.n c.if-n-eq0.false) at c.requires.word_in_bounds in omega arith

pub push_shown-requires-2 : goal.push_shown-requires-2
push_shown-requires-2 c =
    let r : c.args.at + length (0x20 ∷ shown c.args.word.now) ≤ length c.args.out.now = rw (gap_some c.args.n c.if-n-eq0.false) at c.requires.word_in_bounds in
    record { word_value = c.requires.word_value; word_in_bounds = omega (arith, r, c.push_byte-next.ensures.place) }

pub returns : goal.returns
returns c =
    let r : c.args.at + length (0x20 ∷ shown c.args.word.now) ≤ length c.args.out.now = rw (gap_some c.args.n c.if-n-eq0.false) at c.requires.word_in_bounds in
    let k : c.args.at + 1 ≤ length c.args.out.now = omega arith in
    rw (gap_some c.args.n c.if-n-eq0.false) (pushed_both (0x20 ∷ []) (shown c.args.word.now) _ _ _ _ _ _ k c.push_byte-next.ensures c.push_shown-2.ensures)
