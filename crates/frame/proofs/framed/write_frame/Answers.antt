-- `frame::write_frame` meets its contract: the kind is one write, and the long text, written at the front of the rest, the write right after it.
use Rattle.frame.specs.Framed.{frame_of}
use Rattle.frame.specs.Text.{text_of}
use Rattle.frame.proofs.Texts.{length_text_of}
use Rattle.buffer.proofs.Writing.{pushed_both, pushed_front, rest_pushed, rest_room}
use Rattle.frame.proofs.Frames.{length_frame_of}
use native.Mathlib.Omega.{arith}
use Prim.Native.Nat.{ℕ, ◌+◌, ◌≤◌}
use mathlib.Core.List.{List, [], ◌∷◌}
use lib.ListN.{length}
use Rattle.frame.proofs.framed.write_frame.Goals as goal

pub push_byte-at-requires : goal.push_byte-at-requires
push_byte-at-requires c =
    omega (arith, c.requires, length_frame_of c.args.kind c.args.t.now)

pub slice_bounds-write_long_text-start : goal.slice_bounds-write_long_text-start
slice_bounds-write_long_text-start c =
    omega (arith, c.requires, length_frame_of c.args.kind c.args.t.now, c.push_byte-at.ensures.place)

pub slice_bounds-write_long_text-count : goal.slice_bounds-write_long_text-count
slice_bounds-write_long_text-count c =
    omega (arith, c.requires, length_frame_of c.args.kind c.args.t.now, c.push_byte-at.ensures.place)

pub write_long_text-requires : goal.write_long_text-requires
write_long_text-requires c =
    let t : List ℕ = c.args.t.now in
    let mid : List ℕ = c.push_byte-at.new.out in
    let h : c.push_byte-at.result + length (text_of 2 t) ≤ length mid = omega (arith, c.requires, length_frame_of c.args.kind t, length_text_of 2 t, c.push_byte-at.ensures.place) in
    (omega (arith, c.requires), rest_room (text_of 2 t) mid c.push_byte-at.result h)

pub overflow_add-result : goal.overflow_add-result
overflow_add-result c =
    omega (arith, c.requires, length_frame_of c.args.kind c.args.t.now, length_text_of 2 c.args.t.now, c.push_byte-at.ensures.place, c.write_long_text.ensures.count)

pub returns : goal.returns
unfolding frame_of
returns c =
    let mid : List ℕ = c.push_byte-at.new.out in
    let h : 0 + 1 ≤ length c.args.out.now = omega (arith, c.requires, length_frame_of c.args.kind c.args.t.now) in
    let k : c.push_byte-at.result ≤ length mid = omega (arith, c.push_byte-at.ensures.place) in
    let rest = rest_pushed (text_of 2 c.args.t.now) mid _ c.push_byte-at.result _ k c.write_long_text.ensures in
    pushed_front _ _ _ _ (pushed_both (c.args.kind ∷ []) (text_of 2 c.args.t.now) _ _ _ 0 _ _ h c.push_byte-at.ensures rest)
