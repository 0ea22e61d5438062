-- `shell::runner::tell_fault` meets its contract: what is shown is the message of the fault that was judged.
use Prim.Native.Nat.{◌≤◌}
use mathlib.Core.Path.{ap, ◌∙◌}
use native.Mathlib.Omega.{arith}
use lib.ListN.{length}
use Rattle.tree.proofs.Trails.{part_most}
use Rattle.tree.specs.Trails.{image_part}
use Rattle.parse.proofs.OutcomesTold.{text_short}
use Rattle.parse.specs.Inner.{fault_text}
use Rattle.shell.proofs.WrittenAnswers.{said_same, said_shown, unshown}
use Rattle.shell.proofs.JudgedCarried.{dashed_short, fault_carried, plain_carried}
use Rattle.shell.proofs.runner.tell_fault.Goals as goal

pub show_message-requires : goal.show_message-requires
show_message-requires c =
    let m = part_most c.args.image.now c.args.judged.place in
    let t : length (fault_text c.args.words.now (image_part c.args.image.now c.args.judged.place) c.args.fault) ≤ 32768 = text_short c.args.words.now (image_part c.args.image.now c.args.judged.place) c.args.fault (omega arith) (omega arith) in
    let e = ap length c.text_of-text.ensures in
    omega arith

pub returns-in_err-length : goal.returns-in_err-length
returns-in_err-length c =
    λ handler rest. said_same _ _ _ _ _ (plain_carried c.args.words.now c.args.image.now rest c.args.judged handler c.args.fault c.requires.3 _ _ _ _ c.number_of-number.ensures c.dashes_of-dashes.ensures.0 c.text_of-text.ensures c.error_of-told.ensures c.if-dashes-eq0.true) (unshown _ _ _ c.in_err-length.field-0.0 _ _ c.from_residual.ensures.1 c.in_err-length.was c.show_message.ensures)

pub returns-then-dashes-eq0 : goal.returns-then-dashes-eq0
returns-then-dashes-eq0 c =
    λ handler rest. said_same _ _ _ _ _ (plain_carried c.args.words.now c.args.image.now rest c.args.judged handler c.args.fault c.requires.3 _ _ _ _ c.number_of-number.ensures c.dashes_of-dashes.ensures.0 c.text_of-text.ensures c.error_of-told.ensures c.if-dashes-eq0.true) (said_shown _ _ _ _ _ c.in_ok-length.was c.show_message.ensures)

pub show_dashed-requires : goal.show_dashed-requires
show_dashed-requires c =
    let k = dashed_short c.args.words.now (image_part c.args.image.now c.args.judged.place) c.args.fault (λ q. c.if-dashes-eq0.false (c.dashes_of-dashes.ensures.0 ∙ q)) in
    let e = ap length c.text_of-text.ensures in
    (c.dashes_of-dashes.ensures.1, omega arith)

pub returns-in_err-length-2 : goal.returns-in_err-length-2
returns-in_err-length-2 c =
    λ handler rest. said_same _ _ _ _ _ (fault_carried c.args.words.now c.args.image.now rest c.args.judged handler c.args.fault c.requires.3 _ _ _ _ c.number_of-number.ensures c.dashes_of-dashes.ensures.0 c.text_of-text.ensures c.error_of-told.ensures) (unshown _ _ _ c.in_err-length-2.field-0.0 _ _ c.from_residual-in_err-length-2.ensures.1 c.in_err-length-2.was c.show_dashed.ensures)

pub returns : goal.returns
returns c =
    λ handler rest. said_same _ _ _ _ _ (fault_carried c.args.words.now c.args.image.now rest c.args.judged handler c.args.fault c.requires.3 _ _ _ _ c.number_of-number.ensures c.dashes_of-dashes.ensures.0 c.text_of-text.ensures c.error_of-told.ensures) (said_shown _ _ _ _ _ c.in_ok-length-2.was c.show_dashed.ensures)
