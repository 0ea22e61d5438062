-- `editor::line::Editor::restored` meets its contract: what bytes hold is read part by part, in the order of the definition.
use Rattle.keys.specs.Modes.{mode_in}
use Rattle.editor.proofs.Saved.{wrong_length, form_size, no_form, bad_editor, editor_restored, profile_missing, mode_missing, parts_read}
use Rattle.std.specs.Result.{result_ok}
use mathlib.Core.Path.{sym, ap, ◌∙◌}
use Rattle.editor.proofs.line.Editor.restored.Goals as goal

pub returns-then-bytes-ne-SAVED : goal.returns-then-bytes-ne-SAVED
returns-then-bytes-ne-SAVED c = no_form c.args.bytes.now (wrong_length c.args.bytes.now c.if-bytes-ne-SAVED.true)

pub returns-in_err-profile : goal.returns-in_err-profile
returns-in_err-profile c =
    c.from_residual.ensures ∙ profile_missing c.args.bytes.now c.if-bytes-ne-SAVED.false _ (c.ok.ensures.value ∙ ap result_ok c.try_from.ensures) c.in_err-profile.was

pub returns-in_err-mode : goal.returns-in_err-mode
returns-in_err-mode c =
    c.from_residual-in_err-mode.ensures ∙ mode_missing c.args.bytes.now c.if-bytes-ne-SAVED.false _ (c.ok.ensures.value ∙ ap result_ok c.try_from.ensures) _ c.in_ok-profile.was _ (c.mode_in.ensures ∙ ap (mode_in _) c.progress_in.ensures) c.in_err-mode.was

pub saved_in-editor-requires : goal.saved_in-editor-requires
saved_in-editor-requires c =
    let parts = parts_read c.args.bytes.now c.if-bytes-ne-SAVED.false _ (c.ok.ensures.value ∙ ap result_ok c.try_from.ensures) _ c.in_ok-profile.was _ (c.mode_in.ensures ∙ ap (mode_in _) c.progress_in.ensures) _ c.in_ok-mode.was in
    record { size = form_size c.args.bytes.now parts.0; read = (parts.1, parts.2) }

pub returns-then-is_good : goal.returns-then-is_good
returns-then-is_good c =
    let parts = parts_read c.args.bytes.now c.if-bytes-ne-SAVED.false _ (c.ok.ensures.value ∙ ap result_ok c.try_from.ensures) _ c.in_ok-profile.was _ (c.mode_in.ensures ∙ ap (mode_in _) c.progress_in.ensures) _ c.in_ok-mode.was in
    editor_restored c.args.bytes.now _ parts.0 c.saved_in-editor.ensures (sym c.is_good.ensures ∙ c.if-is_good.true)

pub returns-else-is_good : goal.returns-else-is_good
returns-else-is_good c =
    let parts = parts_read c.args.bytes.now c.if-bytes-ne-SAVED.false _ (c.ok.ensures.value ∙ ap result_ok c.try_from.ensures) _ c.in_ok-profile.was _ (c.mode_in.ensures ∙ ap (mode_in _) c.progress_in.ensures) _ c.in_ok-mode.was in
    bad_editor c.args.bytes.now _ parts.0 c.saved_in-editor.ensures (sym c.is_good.ensures ∙ c.if-is_good.false)
