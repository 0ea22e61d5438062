-- `editor::line::Editor::stepped` meets its contract.
use mathlib.Core.Path.{◌≡◌}
use Rattle.history.specs.Journal.{journal_of}
use Rattle.editor.specs.Inner.{recalled_text, recalling}
use Rattle.editor.proofs.Turns.{recalled_short, text_short, entry_recalled, nothing_recalled, shows_as}
use Rattle.editor.proofs.States.{held_fits, short_enough}
use Rattle.editor.proofs.line.Editor.stepped.Goals as goal
use Rattle.editor.proofs.line.Editor.stepped.Goals.{in-Some, in-None}

pub recalled-goes-requires : goal.recalled-goes-requires
recalled-goes-requires c =
    short_enough _ (recalled_short c.args.self c.args.history c.args.slots.now c.args.screen.now c.requires.0 _ _ c.recall.ensures)

pub redraw-requires : goal.redraw-requires
redraw-requires c =
    let j = journal_of c.args.history c.args.slots.now in
    let text = recalled_text c.args.step.recalled j in
    let held : c.match-step.goes ≡ recalling c.args.self text =
    elim c.match-step.branch [
      | in-Some w ↦ entry_recalled c.args.self j c.args.step.recalled _ _ w.goes-is _ _ w.in-Some.is w.recall.ensures w.recalled-goes.ensures
      | in-None w ↦ nothing_recalled c.args.self j c.args.step.recalled _ _ w.goes-is w.in-None.is w.emptied-goes.ensures
    ]
    in
    let f = held_fits _ text _ _ _ held (text_short c.args.self c.args.history c.args.slots.now c.args.screen.now c.requires.0 c.args.step.recalled) in
    (f.0, f.1, c.requires.1)

pub returns : goal.returns
returns c =
    let j = journal_of c.args.history c.args.slots.now in
    shows_as c.args.prompt.now
    (elim c.match-step.branch [
      | in-Some w ↦ entry_recalled c.args.self j c.args.step.recalled _ _ w.goes-is _ _ w.in-Some.is w.recall.ensures w.recalled-goes.ensures
      | in-None w ↦ nothing_recalled c.args.self j c.args.step.recalled _ _ w.goes-is w.in-None.is w.emptied-goes.ensures
    ])
    c.redraw.ensures
