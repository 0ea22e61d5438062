-- `editor::line::Editor::key_tested` meets its contract.
use Rattle.editor.proofs.Pressings.{bad_prompt, short_line, pressed, prompt_short}
use Rattle.editor.proofs.States.{in_limit, past_limit}
use Rattle.editor.specs.Line.{limit}
use mathlib.Core.Path.{sym, ◌∙◌}
use Rattle.editor.proofs.line.Editor.key_tested.Goals as goal

pub returns-then-not-is_good_prompt : goal.returns-then-not-is_good_prompt
returns-then-not-is_good_prompt c =
    let bad = sym c.is_good_prompt.ensures ∙ c.if-not-is_good_prompt.true in
    rw c.answers.ensures (bad_prompt c.args.self c.args.history c.args.slots.now c.args.prompt.now c.args.byte c.args.line.now c.args.screen.now (c.requires) bad)

pub returns-then-line-lt-LIMIT : goal.returns-then-line-lt-LIMIT
unfolding limit
returns-then-line-lt-LIMIT c =
    let fair = sym c.is_good_prompt.ensures ∙ c.if-not-is_good_prompt.false in
    rw c.answers-then-line-lt-LIMIT.ensures (short_line c.args.self c.args.history c.args.slots.now c.args.prompt.now c.args.byte c.args.line.now c.args.screen.now (c.requires) fair (in_limit _ c.if-line-lt-LIMIT.true))

pub press-requires : goal.press-requires
press-requires c =
    let fair = sym c.is_good_prompt.ensures ∙ c.if-not-is_good_prompt.false in
    record { slots_value = c.requires; prompt_len_bound = (prompt_short _ fair, past_limit _ c.if-line-lt-LIMIT.false) }

pub returns : goal.returns
returns c =
    let fair = sym c.is_good_prompt.ensures ∙ c.if-not-is_good_prompt.false in
    pressed c.args.self c.args.history c.args.slots.now c.args.prompt.now c.args.byte c.args.line.now c.args.screen.now (c.requires) fair (past_limit _ c.if-line-lt-LIMIT.false) _ _ _ _ c.press.ensures
