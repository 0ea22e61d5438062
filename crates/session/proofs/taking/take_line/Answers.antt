-- `session::take_line` meets its contract.
use Rattle.session.specs.Lines.{form_of}
use Rattle.session.specs.Calls.{took_by, image_by}
use mathlib.Core.Path.{sym, ap, ◌∙◌}
use Rattle.session.proofs.Takings.{line_late, line_narrow, line_small, line_refused, line_taken, form_none, read_form, read_some}
use Rattle.session.proofs.taking.take_line.Goals as goal

pub returns-then-session-ge-LAST_LINE : goal.returns-then-session-ge-LAST_LINE
returns-then-session-ge-LAST_LINE c =
    line_late c.args.session c.args.line.now c.args.image.now c.args.frame.now c.if-session-ge-LAST_LINE.true

pub returns-then-frame-lt-FRAME_ROOM : goal.returns-then-frame-lt-FRAME_ROOM
returns-then-frame-lt-FRAME_ROOM c =
    line_narrow c.args.session c.args.line.now c.args.image.now c.args.frame.now c.if-session-ge-LAST_LINE.false c.if-frame-lt-FRAME_ROOM.true

pub returns-then-image-lt-IMAGE_LIMIT : goal.returns-then-image-lt-IMAGE_LIMIT
returns-then-image-lt-IMAGE_LIMIT c =
    line_small c.args.session c.args.line.now c.args.image.now c.args.frame.now c.if-session-ge-LAST_LINE.false c.if-frame-lt-FRAME_ROOM.false c.if-image-lt-IMAGE_LIMIT.true

pub returns-in_default : goal.returns-in_default
returns-in_default c =
    line_refused c.args.session c.args.line.now c.args.image.now c.args.frame.now c.if-session-ge-LAST_LINE.false c.if-frame-lt-FRAME_ROOM.false c.if-image-lt-IMAGE_LIMIT.false _ _ c.read_line.ensures _ (form_none c.args.line.now c.args.frame.now c.if-frame-lt-FRAME_ROOM.false _ _ c.read_line.ensures c.in_default.not-Ok) c.refused.ensures

pub take_frame-requires : goal.take_frame-requires
take_frame-requires c =
    let some = read_some c.args.line.now c.args.frame.now c.if-frame-lt-FRAME_ROOM.false _ _ c.read_line.ensures _ c.in-Ok.is in
    (c.if-session-ge-LAST_LINE.false, rw c.part.ensures some)

pub returns : goal.returns
returns c =
    let form = read_form c.args.line.now c.args.frame.now c.if-frame-lt-FRAME_ROOM.false _ _ c.read_line.ensures _ c.in-Ok.is ∙ ap form_of (sym c.part.ensures) in
    line_taken c.args.session c.args.line.now c.args.image.now c.args.frame.now c.if-session-ge-LAST_LINE.false c.if-frame-lt-FRAME_ROOM.false c.if-image-lt-IMAGE_LIMIT.false _ _ c.read_line.ensures _ _
    (c.take_frame.ensures.0 ∙ ap (took_by c.args.session c.args.image.now) (sym form), c.take_frame.ensures.1 ∙ ap (image_by c.args.session c.args.image.now) (sym form))
