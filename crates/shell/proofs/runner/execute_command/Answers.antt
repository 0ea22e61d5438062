-- `shell::runner::execute_command` meets its contract: what is told is what was judged, with the handler of the node reached.
use mathlib.Core.Path.{refl, ap, ◌∙◌}
use mathlib.Core.List.{List}
use native.Mathlib.Omega.{arith}
use Rattle.buffer.specs.Numbers.{Bytes}
use Rattle.parse.proofs.Judgements.{good_short}
use Rattle.image.specs.Frames.{Frame}
use Rattle.shell.specs.Lines.{handler_of}
use Rattle.shell.specs.Inner.{handler_by}
use Rattle.shell.proofs.WrittenAnswers.{said_same}
use Rattle.shell.proofs.JudgedCarried.{words_carried}
use Rattle.shell.proofs.runner.execute_command.Goals as goal

pub tell_fault-requires : goal.tell_fault-requires
unfolding Bytes
tell_fault-requires c =
    (c.judge-judged.ensures.within, c.requires.0, good_short c.args.image.now (λ i. (c.type_inv.image i).fits) c.requires.1, c.in-Err.is)

pub returns-in-Err : goal.returns-in-Err
returns-in-Err c =
    said_same _ _ _ _ _ (words_carried c.args.words.now c.args.image.now _ _ _ c.judge-judged.ensures.outcome refl) (c.tell_fault.ensures _ _)

pub tell_command-requires : goal.tell_command-requires
tell_command-requires c =
    (c.judge-judged.ensures.within, c.judge-judged.ensures.kept, omega arith, c.requires.0, c.in-Ok.is, c.judge-judged.ensures.lent c.in-Ok.is)

pub returns-in-Ok : goal.returns-in-Ok
returns-in-Ok c =
    let h = c.handler_of-handler.ensures ∙ ap (λ (fs : List Frame). handler_by (handler_of fs)) (c.judge-judged.ensures.command c.in-Ok.is) in said_same _ _ _ _ _ (words_carried c.args.words.now c.args.image.now _ _ _ c.judge-judged.ensures.outcome refl) (c.tell_command.ensures _ h)
