-- `editor::line::Editor::save` meets its contract.
use Rattle.editor.specs.Saved.{saved_size}
use Rattle.editor.proofs.Saved.{line_room_lem, tail_room, save_written}
use native.Mathlib.Omega.{arith}
use mathlib.Core.Path.{refl}
use Rattle.editor.proofs.line.Editor.save.Goals as goal

pub push-next-requires : goal.push-next-requires
unfolding saved_size
push-next-requires c = omega arith

pub push-last-requires : goal.push-last-requires
push-last-requires c =
    line_room_lem _ c.args.self.line c.args.out.now _ c.args.at _ refl c.well_formed.0.1.1.0.1.0.1 c.requires.1 c.push-next.ensures

pub push-requires : goal.push-requires
push-requires c =
    tail_room _ c.args.self.line c.args.out.now _ _ c.args.at _ _ refl c.well_formed.0.1.1.0.1.0.1 c.requires.1 c.push-next.ensures c.push-last.ensures

pub returns : goal.returns
returns c =
    save_written c.args.self _ _ _ c.args.out.now _ _ _ c.args.at _ _ _ c.mode_number.ensures c.from.ensures c.progress_of-progress.ensures c.well_formed.0.1.1.0.1.0.1 c.requires.1 c.push-next.ensures c.push-last.ensures c.push.ensures
