-- `editor::line::Editor::insert_key` meets its contract.
use Rattle.editor.specs.Line.{line_of, inserted}
use Rattle.editor.proofs.Turns.{insert_dropped, insert_shown}
use Rattle.editor.proofs.Lines.{good_line_lem, length_of_lem, length_inserted}
use Rattle.editor.proofs.States.{held_fits, in_limit, past_limit}
use native.Mathlib.Omega.{arith}
use Prim.Native.Nat.{◌≤◌}
use lib.ListN.{length}
use Rattle.editor.proofs.line.Editor.insert_key.Goals as goal

pub returns-then-self-ge-LIMIT : goal.returns-then-self-ge-LIMIT
returns-then-self-ge-LIMIT c =
    λ slots. rw c.answers.ensures (insert_dropped c.args.self c.args.history slots c.args.screen.now c.requires.0 c.args.prompt.now c.args.byte (past_limit _ c.if-self-ge-LIMIT.true))

pub insert-self-requires : goal.insert-self-requires
insert-self-requires c = (c.requires.0, in_limit _ c.if-self-ge-LIMIT.false)

pub redraw-requires : goal.redraw-requires
redraw-requires c =
    let g = good_line_lem c.args.self c.requires.0 in
    let n = (length_of_lem c.args.self g).1 in
    let w = g.within in
    let short : length (inserted (line_of c.args.self) c.args.self.cursor c.args.byte) ≤ 255 = let m = length_inserted (line_of c.args.self) c.args.self.cursor c.args.byte (omega arith) in omega arith in
    let f = held_fits _ (inserted (line_of c.args.self) c.args.self.cursor c.args.byte) _ _ _ c.insert-self.ensures short in
    (f.0, f.1, c.requires.1)

pub returns : goal.returns
returns c =
    λ slots. insert_shown c.args.self c.args.history slots c.args.screen.now c.requires.0 _ _ _ c.args.prompt.now c.args.byte (in_limit _ c.if-self-ge-LIMIT.false) c.insert-self.ensures c.redraw.ensures
