-- `editor::line::Editor::erase_key` meets its contract.
use Rattle.editor.specs.Line.{line_of, erased}
use Rattle.editor.proofs.Turns.{erase_quiet, erase_shown}
use Rattle.editor.proofs.Lines.{good_line_lem, length_of_lem, length_erased}
use Rattle.editor.proofs.States.{held_fits}
use native.Mathlib.Omega.{arith}
use Prim.Native.Nat.{◌<◌, ◌≤◌}
use lib.ListN.{length}
use Rattle.editor.proofs.line.Editor.erase_key.Goals as goal

pub returns-then-self-eq0 : goal.returns-then-self-eq0
returns-then-self-eq0 c =
    λ slots. rw c.answers.ensures (erase_quiet c.args.self c.args.history slots c.args.screen.now c.requires.0 c.args.prompt.now c.if-self-eq0.true)

pub redraw-requires : goal.redraw-requires
redraw-requires c =
    let g = good_line_lem c.args.self c.requires.0 in
    let n = (length_of_lem c.args.self g).1 in
    let w = g.within in
    let t = g.short in
    let some : 0 < c.args.self.cursor = omega arith in
    let short : length (erased (line_of c.args.self) c.args.self.cursor) ≤ 255 = let m = length_erased (line_of c.args.self) c.args.self.cursor some (omega arith) in omega arith in
    let f = held_fits _ (erased (line_of c.args.self) c.args.self.cursor) _ _ _ c.erase-self.ensures short in
    (f.0, f.1, c.requires.1)

pub returns : goal.returns
returns c =
    λ slots. erase_shown c.args.self c.args.history slots c.args.screen.now c.requires.0 _ _ _ c.args.prompt.now c.if-self-eq0.false c.erase-self.ensures c.redraw.ensures
