-- `words::tokenizer::end_word` meets its contract.
use Rattle.words.proofs.OpenWords.{closed_some, headed_none, headed_some}
use Rattle.buffer.proofs.Numbers.{number_two}
use Rattle.buffer.proofs.Writing.{pushed_both}
use native.Mathlib.Omega.{arith}
use Prim.Native.Nat.{ℕ, ◌+◌, ◌≤◌, ◌/◌, ◌%◌}
use mathlib.Core.Path.{sym}
use mathlib.Core.List.{[], ◌∷◌}
use lib.ListN.{length}
use Rattle.words.proofs.tokenizer.end_word.Goals as goal

pub returns-then-word-eq0 : goal.returns-then-word-eq0
returns-then-word-eq0 c = sym (headed_none _ _ _ c.if-word-eq0.true)

pub push_byte-high-requires : goal.push_byte-high-requires
push_byte-high-requires c =
    let e = closed_some c.args.done c.args.word c.if-word-eq0.false in omega (arith, c.requires.0, e)

pub push_byte-low-requires : goal.push_byte-low-requires
push_byte-low-requires c =
    let e = closed_some c.args.done c.args.word c.if-word-eq0.false in omega (arith, c.requires.0, e, c.push_byte-high.ensures.place)

pub push_byte-requires : goal.push_byte-requires
push_byte-requires c =
    let e = closed_some c.args.done c.args.word c.if-word-eq0.false in
    omega (arith, c.requires.0, e, c.push_byte-high.ensures.place, c.push_byte-low.ensures.place)

pub returns : goal.returns
returns c =
    let word : ℕ = c.args.word in
    let e = closed_some c.args.done word c.if-word-eq0.false in
    let one : c.args.done + 1 ≤ length c.args.out.now = omega (arith, c.requires.0, e) in
    let two : c.args.done + 2 ≤ length c.args.out.now = omega (arith, c.requires.0, e) in
    let kind = pushed_both (0x14 ∷ []) (word / 256 ∷ []) _ _ _ _ _ _ one c.push_byte-high.ensures c.push_byte-low.ensures in
    let head = pushed_both (0x14 ∷ word / 256 ∷ []) (word % 256 ∷ []) _ _ _ _ _ _ two kind c.push_byte.ensures in
    rw (headed_some c.args.done word c.args.out.now c.if-word-eq0.false, number_two word) head.bytes
