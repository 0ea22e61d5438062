-- `editor::line::Editor::key` meets its contract.
use Rattle.editor.proofs.Pressings.{bad_state_lem}
use mathlib.Core.Path.{sym, ◌∙◌}
use Rattle.editor.proofs.line.Editor.key.Goals as goal

pub returns-then-not-is_good_with : goal.returns-then-not-is_good_with
returns-then-not-is_good_with c =
    let bad = sym c.is_good_with.ensures ∙ c.if-not-is_good_with.true in
    rw c.answers.ensures (bad_state_lem c.args.self c.args.history c.args.slots.now c.args.prompt.now c.args.byte c.args.line.now c.args.screen.now bad)

pub key_tested-requires : goal.key_tested-requires
key_tested-requires c =
    sym c.is_good_with.ensures ∙ c.if-not-is_good_with.false

pub returns : goal.returns
returns c = c.key_tested.ensures
