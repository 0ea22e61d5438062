-- `editor::line::Editor::recalled` meets its contract.
use mathlib.Core.Path.{sym}
use lib.Seq.{length-take-le}
use Rattle.editor.proofs.Lines.{within_limit, blank_room, text_held}
use Rattle.editor.proofs.line.Editor.recalled.Goals as goal

pub slice_bounds-line-end : goal.slice_bounds-line-end
slice_bounds-line-end c =
    blank_room _ _ _ _ c.emptied.ensures (c.requires)

pub slice_bounds-copy_from_slice-end : goal.slice_bounds-copy_from_slice-end
slice_bounds-copy_from_slice-end c =
    sym (length-take-le _ c.emptied.result.line (blank_room _ _ _ _ c.emptied.ensures (c.requires)))

pub copy_from_slice-requires : goal.copy_from_slice-requires
copy_from_slice-requires c =
    length-take-le _ c.emptied.result.line (blank_room _ _ _ _ c.emptied.ensures (c.requires))

pub returns : goal.returns
returns c =
    text_held _ c.args.text.now _ _ _ (within_limit _ (c.requires)) c.emptied.ensures c.copy_from_slice.ensures.after
