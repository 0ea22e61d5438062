-- `editor::line::Editor::press` meets its contract.
use Rattle.editor.proofs.States.{good_mode_lem, moded_good}
use Rattle.editor.proofs.Enters.{does_refused, does_taken, does_as}
use Rattle.editor.proofs.KeyTurns.{meant_good, turn_in_lem}
use mathlib.Core.Path.{sym, ◌∙◌}
use Rattle.editor.proofs.line.Editor.press.Goals as goal

pub act-done-requires : goal.act-done-requires
act-done-requires c =
    record { slots_value = moded_good c.args.self c.args.history c.args.slots.now _ _ c.in_mode-self.ensures (meant_good c.args.self.profile c.args.self.mode c.args.byte c.meaning_of-meant.result c.meaning_of-meant.ensures (good_mode_lem c.args.self c.args.history c.args.slots.now c.requires.slots_value)) c.requires.slots_value; prompt_len_bound = c.requires.prompt_len_bound }

pub returns-then-is_err : goal.returns-then-is_err
returns-then-is_err c =
    rw c.answers.ensures (does_as c.args.self c.args.history _ c.args.slots.now c.args.line.now c.args.screen.now _ _ _ _ _ (turn_in_lem c.args.prompt.now c.args.self _ c.args.history c.args.slots.now c.args.byte c.meaning_of-meant.result c.meaning_of-meant.ensures c.in_mode-self.ensures) (does_refused c.args.self _ c.args.history _ c.args.slots.now c.args.line.now c.args.screen.now _ _ _ _ c.act-done.ensures (sym c.is_err.ensures.value ∙ c.if-is_err.true)))

pub returns : goal.returns
returns c =
    does_as c.args.self c.args.history _ c.args.slots.now c.args.line.now c.args.screen.now _ _ _ _ _ (turn_in_lem c.args.prompt.now c.args.self _ c.args.history c.args.slots.now c.args.byte c.meaning_of-meant.result c.meaning_of-meant.ensures c.in_mode-self.ensures) (does_taken c.args.self _ c.args.history _ c.args.slots.now c.args.line.now c.args.screen.now _ _ _ _ c.act-done.ensures (sym c.is_err.ensures.value ∙ c.if-is_err.false))
