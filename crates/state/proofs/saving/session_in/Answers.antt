-- `state::saving::session_in` meets its contract.
use Rattle.state.proofs.Savings.{no_editor, no_history, both_read}
use Rattle.state.proofs.saving.session_in.Goals as goal

pub returns-in_err-editor : goal.returns-in_err-editor
returns-in_err-editor c =
    rw c.from_residual.ensures (no_editor c.args.state.now c.args.slots.now _ c.editor_in.ensures c.in_err-editor.was)

pub returns-in_err-history : goal.returns-in_err-history
returns-in_err-history c =
    rw c.from_residual-in_err-history.ensures (no_history c.args.state.now c.args.slots.now _ c.editor_in.ensures _ c.in_ok-editor.was _ c.history_in.ensures c.in_err-history.was)

pub returns : goal.returns
returns c =
    both_read c.args.state.now c.args.slots.now _ c.editor_in.ensures _ c.in_ok-editor.was _ _ c.history_in.ensures c.in_ok-history.was
