-- `tree::growing::add_frame` meets its contract: no room, a rule broken, bytes after the frame, or the frame added.
use Rattle.tree.proofs.OneFrameMore.{room_told, walk_sound, refused_room, refused_rule, refused_end, added}
use native.Mathlib.Omega.{arith}
use Prim.Native.Nat.{ℕ}
use lib.ListN.{length-map}
use mathlib.Core.Path.{sym, ◌∙◌}
use Rattle.tree.proofs.growing.add_frame.Goals as goal

pub returns-then-not-has_room : goal.returns-then-not-has_room
returns-then-not-has_room c =
    refused_room _ c.args.bytes.now c.args.buffer.now (sym c.has_room.ensures ∙ c.if-not-has_room.true)

pub step_over-requires : goal.step_over-requires
step_over-requires c =
    let room = room_told _ _ _ (sym c.has_room.ensures ∙ c.if-not-has_room.false) in
    (walk_sound c.args.walk (length-map c.args.walk.names (λ (x : ℕ). x) ∙ c.well_formed.0.1.1.1.0.1.0.1) room.deep, room.short)

pub returns-in_err-next : goal.returns-in_err-next
returns-in_err-next c =
    rw c.from_residual.ensures (refused_rule _ c.args.bytes.now c.args.buffer.now (sym c.has_room.ensures ∙ c.if-not-has_room.false) c.in_err-next.ensures)

pub overflow_add-at : goal.overflow_add-at
overflow_add-at c =
    let room = room_told _ _ _ (sym c.has_room.ensures ∙ c.if-not-has_room.false) in omega (arith, room.short)

pub returns-then-next-at : goal.returns-then-next-at
returns-then-next-at c =
    refused_end _ c.args.bytes.now c.args.buffer.now (sym c.has_room.ensures ∙ c.if-not-has_room.false) _ c.in_ok-next.ensures (λ e. omega (arith, e, c.if-next-at.true))

pub push-requires : goal.push-requires
push-requires c =
    let room = room_told _ _ _ (sym c.has_room.ensures ∙ c.if-not-has_room.false) in omega (arith, room.fits)

pub returns : goal.returns
returns c =
    added _ c.args.bytes.now c.args.buffer.now (sym c.has_room.ensures ∙ c.if-not-has_room.false) _ c.in_ok-next.ensures (omega (arith, c.if-next-at.false)) _ c.push.ensures.bytes
