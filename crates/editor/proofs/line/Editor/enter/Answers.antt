-- `editor::line::Editor::enter` meets its contract.
use Rattle.editor.specs.Line.{line_of}
use Rattle.editor.proofs.Lines.{good_line_lem, length_of_lem, line_short}
use Rattle.editor.proofs.States.{good_parts}
use Rattle.editor.proofs.Fine.{content_formed}
use Rattle.editor.proofs.Enters.{enter_refused, enter_empty, enter_line, limit_above}
use Rattle.buffer.proofs.Lending.{over_at_front}
use native.Mathlib.Omega.{arith}
use mathlib.Core.Path.{◌∙◌}
use lib.Seq.{length-take-le}
use Rattle.editor.proofs.line.Editor.enter.Goals as goal

pub returns-then-screen-eq0 : goal.returns-then-screen-eq0
returns-then-screen-eq0 c =
    rw c.answers.ensures (enter_refused c.args.self c.args.history c.args.slots.now c.args.line.now c.args.screen.now c.requires.slots_value c.if-screen-eq0.true)

pub returns-then-n-eq0 : goal.returns-then-n-eq0
returns-then-n-eq0 c =
    rw c.answers-then-n-eq0.ensures (enter_empty c.args.self c.args.history c.args.slots.now c.args.line.now c.args.screen.now c.requires.slots_value _ (omega arith) c.if-n-eq0.true (c.push_byte.ensures.bytes ∙ over_at_front _ _))

pub slice_bounds-typed-end : goal.slice_bounds-typed-end
slice_bounds-typed-end c =
    let g = good_line_lem c.args.self (good_parts c.args.self c.args.history c.args.slots.now c.requires.slots_value).0 in let l = (length_of_lem c.args.self g).0 in let t = g.short in omega arith

pub offer-offered-requires : goal.offer-offered-requires
unfolding line_of
offer-offered-requires c =
    let g = good_line_lem c.args.self (good_parts c.args.self c.args.history c.args.slots.now c.requires.slots_value).0 in let l = (length_of_lem c.args.self g).0 in let t = g.short in
    record { slots_value = (good_parts c.args.self c.args.history c.args.slots.now c.requires.slots_value).1; text_len_bound = rw c.shown_part.ensures (line_short c.args.self 255 t); text_value = rw c.shown_part.ensures (content_formed _) }

pub push-requires : goal.push-requires
push-requires c =
    let g = good_line_lem c.args.self (good_parts c.args.self c.args.history c.args.slots.now c.requires.slots_value).0 in let l = (length_of_lem c.args.self g).0 in let t = g.short in
    let n = length-take-le c.args.self.length c.args.self.line (omega arith) in
    let b = limit_above _ c.requires.limit_in_bounds in
    omega arith

pub returns : goal.returns
unfolding line_of
returns c =
    rw c.answers-2.ensures (enter_line c.args.self c.args.history c.args.slots.now c.args.line.now c.args.screen.now c.requires.slots_value _ _ _ _ _ (omega arith) c.if-n-eq0.false c.emptied.ensures (rw c.shown_part.ensures at c.offer-offered.ensures) (c.push.ensures.bytes ∙ over_at_front _ _) (c.push_byte.ensures.bytes ∙ over_at_front _ _))

pub shared_ref_as_front-typed : goal.shared_ref_as_front-typed
shared_ref_as_front-typed c =
    (good_line_lem c.args.self (good_parts c.args.self c.args.history c.args.slots.now c.requires.slots_value).0).short
