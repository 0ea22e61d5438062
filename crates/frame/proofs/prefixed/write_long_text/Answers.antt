-- `frame::write_long_text` meets its contract: three writes, each right after the one before, are the write of the text after its length.
use Rattle.buffer.proofs.Writing.{pushed_both, pushed_front}
use Rattle.frame.proofs.Texts.{length_text_of, text_two}
use native.Mathlib.Omega.{arith}
use Prim.Native.Nat.{ℕ, ◌+◌, ◌≤◌, ◌/◌, ◌%◌}
use mathlib.Core.List.{[], ◌∷◌, ◌++◌}
use lib.ListN.{length}
use Rattle.frame.proofs.prefixed.write_long_text.Goals as goal

pub push_byte-low-requires : goal.push_byte-low-requires
push_byte-low-requires c =
    omega (arith, c.requires, length_text_of 2 c.args.t.now)

pub push_byte-at-requires : goal.push_byte-at-requires
push_byte-at-requires c =
    omega (arith, c.requires, length_text_of 2 c.args.t.now, c.push_byte-low.ensures.place)

pub push-requires : goal.push-requires
push-requires c =
    omega (arith, c.requires, length_text_of 2 c.args.t.now, c.push_byte-low.ensures.place, c.push_byte-at.ensures.place)

pub returns : goal.returns
returns c =
    let n : ℕ = length c.args.t.now in
    let h : 0 + 1 ≤ length c.args.out.now = omega (arith, c.requires, length_text_of 2 c.args.t.now) in
    let k : 0 + 2 ≤ length c.args.out.now = omega (arith, c.requires, length_text_of 2 c.args.t.now) in
    let front = pushed_both (n / 256 ∷ []) (n % 256 ∷ []) _ _ _ 0 _ _ h c.push_byte-low.ensures c.push_byte-at.ensures in
    rw (text_two c.args.t.now) (pushed_front _ _ _ _ (pushed_both ((n / 256 ∷ []) ++ (n % 256 ∷ [])) _ _ _ _ 0 _ _ k front c.push.ensures))
