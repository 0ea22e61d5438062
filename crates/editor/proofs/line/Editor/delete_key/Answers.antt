-- `editor::line::Editor::delete_key` meets its contract.
use Rattle.editor.proofs.Turns.{moved_good, next_erased, delete_quiet, delete_shown}
use Rattle.editor.proofs.States.{held_fits}
use Rattle.editor.proofs.Lines.{good_line_lem, length_of_lem, length_erased}
use Rattle.editor.specs.Line.{line_of, erased}
use lib.ListN.{length}
use Prim.Native.Nat.{◌+◌, ◌≤◌}
use native.Mathlib.Omega.{arith}
use Rattle.editor.proofs.line.Editor.delete_key.Goals as goal

pub returns-then-self-cursor : goal.returns-then-self-cursor
returns-then-self-cursor c =
    λ slots. rw c.answers.ensures (delete_quiet c.args.self c.args.history slots c.args.screen.now c.requires.0 c.args.prompt.now (omega arith))

pub overflow_add-cursor : goal.overflow_add-cursor
overflow_add-cursor c =
    let g = good_line_lem c.args.self c.requires.0 in let w = g.within in let t = g.short in omega arith

pub erase-self-requires : goal.erase-self-requires
erase-self-requires c =
    (moved_good c.args.self _ _ c.requires.0 (omega arith) c.moved.ensures, rw c.moved.ensures (omega arith))

pub redraw-requires : goal.redraw-requires
redraw-requires c =
    let g = good_line_lem c.args.self c.requires.0 in let n = (length_of_lem c.args.self g).1 in let t = g.short in let m = length_erased (line_of c.args.self) (c.args.self.cursor + 1) (omega arith) (omega arith) in let short : length (erased (line_of c.args.self) (c.args.self.cursor + 1)) ≤ 255 = omega arith in let f = held_fits _ (erased (line_of c.args.self) (c.args.self.cursor + 1)) _ _ _ (next_erased c.args.self _ _ c.moved.ensures c.erase-self.ensures) short in (f.0, f.1, c.requires.1)

pub returns : goal.returns
returns c =
    λ slots. delete_shown c.args.self c.args.history slots c.args.screen.now c.requires.0 _ _ _ c.args.prompt.now c.if-self-cursor.false (next_erased c.args.self _ _ c.moved.ensures c.erase-self.ensures) c.redraw.ensures
