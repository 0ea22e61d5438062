-- `editor::line::Editor::erase` meets its contract.
use Rattle.editor.proofs.Lines.{good_line_lem, length_of_lem, erase_held}
use native.Mathlib.Omega.{arith}
use Rattle.editor.proofs.line.Editor.erase.Goals as goal

pub overflow_sub-last : goal.overflow_sub-last
overflow_sub-last c =
    let g = good_line_lem c.args.self c.requires.0 in let a = g.short in let b = g.within in let l = (length_of_lem c.args.self g).0 in omega (arith, c.requires.1)

pub copy_within-requires-clause-start_le_end : goal.copy_within-requires-clause-start_le_end
copy_within-requires-clause-start_le_end c =
    let g = good_line_lem c.args.self c.requires.0 in let a = g.short in let b = g.within in let l = (length_of_lem c.args.self g).0 in omega (arith, c.requires.1)

pub copy_within-requires-clause-in_bounds : goal.copy_within-requires-clause-in_bounds
copy_within-requires-clause-in_bounds c =
    let g = good_line_lem c.args.self c.requires.0 in let a = g.short in let b = g.within in let l = (length_of_lem c.args.self g).0 in omega (arith, c.requires.1)

pub copy_within-requires-clause-dest_in_bounds : goal.copy_within-requires-clause-dest_in_bounds
copy_within-requires-clause-dest_in_bounds c =
    let g = good_line_lem c.args.self c.requires.0 in let a = g.short in let b = g.within in let l = (length_of_lem c.args.self g).0 in omega (arith, c.requires.1)

pub bounds-line-last : goal.bounds-line-last
bounds-line-last c =
    let g = good_line_lem c.args.self c.requires.0 in let a = g.short in let b = g.within in let l = (length_of_lem c.args.self g).0 in omega (arith, c.requires.1)

pub returns : goal.returns
returns c =
    erase_held c.args.self _ (good_line_lem c.args.self c.requires.0) c.requires.1 c.copy_within.ensures.after
