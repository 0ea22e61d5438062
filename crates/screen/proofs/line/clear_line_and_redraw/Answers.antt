-- `screen::clear_line_and_redraw` meets its contract: one law for each way out.
use Rattle.screen.specs.Redraw.{move_back}
use Rattle.screen.proofs.Drawing.{no_room, room, enough, shown, pushed_redraw}
use native.Mathlib.Omega.{arith}
use Prim.Native.Nat.{◌^◌, ℕ, ◌<◌}
use mathlib.Core.Path.{ap}
use lib.ListN.{length}
use Rattle.screen.proofs.line.clear_line_and_redraw.Goals as goal

pub returns-then-out-needed : goal.returns-then-out-needed
returns-then-out-needed c =
    no_room c.args.prompt.now c.args.content.now c.args.cursor c.args.out.now _ c.redraw_size-needed.ensures c.if-out-needed.true

pub push-start-requires : goal.push-start-requires
push-start-requires c =
    let r = room c.args.prompt.now c.args.content.now c.args.cursor c.args.out.now _ c.redraw_size-needed.ensures (omega arith) c.if-out-needed.false in omega arith

pub push-text-requires : goal.push-text-requires
push-text-requires c =
    let r = room c.args.prompt.now c.args.content.now c.args.cursor c.args.out.now _ c.redraw_size-needed.ensures (omega arith) c.if-out-needed.false in omega arith

pub push-end-requires : goal.push-end-requires
push-end-requires c =
    let r = room c.args.prompt.now c.args.content.now c.args.cursor c.args.out.now _ c.redraw_size-needed.ensures (omega arith) c.if-out-needed.false in omega arith

pub push_move-requires : goal.push_move-requires
push_move-requires c =
    let r = room c.args.prompt.now c.args.content.now c.args.cursor c.args.out.now _ c.redraw_size-needed.ensures (omega arith) c.if-out-needed.false in
    let m = ap (λ (n : ℕ). length (move_back n)) c.beyond.ensures in
    omega arith

pub returns : goal.returns
returns c =
    let h : length c.args.out.now < 2 ^ 63 = omega arith in
    let f = enough c.args.prompt.now c.args.content.now c.args.cursor c.args.out.now _ c.redraw_size-needed.ensures h c.if-out-needed.false in
    let w = pushed_redraw c.args.prompt.now c.args.content.now c.args.cursor c.args.out.now _ _ _ _ _ _ _ _ _ c.beyond.ensures (omega arith) c.push-start.ensures c.push-text.ensures c.push-end.ensures c.push_move.ensures in
    shown c.args.prompt.now c.args.content.now c.args.cursor c.args.out.now _ c.redraw_size-needed.ensures _ h c.if-out-needed.false w
