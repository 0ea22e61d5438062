-- `editor::line::Editor::saved_in` meets its contract.
use Rattle.editor.proofs.Saved.{editor_read, part_short, held_by}
use Rattle.editor.proofs.line.Editor.saved_in.Goals as goal

pub recalled-whole-requires : goal.recalled-whole-requires
recalled-whole-requires c =
    part_short c.args.bytes.now _ c.requires.size c.part.ensures

pub returns : goal.returns
returns c =
    editor_read c.args.bytes.now _ c.recalled-whole.result _ _ _ _ _ c.requires.size c.part.ensures (held_by _ _ _ _ c.fresh.ensures c.recalled-whole.ensures) c.requires.read.1 c.byte_at.ensures.byte c.byte_at-2.ensures.byte c.requires.read.0
