-- `editor::line::Editor::insert` meets its contract.
use Rattle.editor.proofs.Lines.{below_limit, good_line_lem, length_of_lem, insert_held}
use native.Mathlib.Omega.{arith}
use Rattle.editor.proofs.line.Editor.insert.Goals as goal

pub overflow_add-cursor : goal.overflow_add-cursor
overflow_add-cursor c =
    let g = good_line_lem c.args.self c.requires.0 in let a = g.short in let b = g.within in let l = (length_of_lem c.args.self g).0 in let r = below_limit _ c.requires.1 in omega arith

pub copy_within-requires-clause-start_le_end : goal.copy_within-requires-clause-start_le_end
copy_within-requires-clause-start_le_end c =
    let g = good_line_lem c.args.self c.requires.0 in let a = g.short in let b = g.within in let l = (length_of_lem c.args.self g).0 in let r = below_limit _ c.requires.1 in omega arith

pub copy_within-requires-clause-in_bounds : goal.copy_within-requires-clause-in_bounds
copy_within-requires-clause-in_bounds c =
    let g = good_line_lem c.args.self c.requires.0 in let a = g.short in let b = g.within in let l = (length_of_lem c.args.self g).0 in let r = below_limit _ c.requires.1 in omega arith

pub copy_within-requires-clause-dest_in_bounds : goal.copy_within-requires-clause-dest_in_bounds
copy_within-requires-clause-dest_in_bounds c =
    let g = good_line_lem c.args.self c.requires.0 in let a = g.short in let b = g.within in let l = (length_of_lem c.args.self g).0 in let r = below_limit _ c.requires.1 in omega arith

pub bounds-line-cursor : goal.bounds-line-cursor
bounds-line-cursor c =
    let g = good_line_lem c.args.self c.requires.0 in let a = g.short in let b = g.within in let l = (length_of_lem c.args.self g).0 in let r = below_limit _ c.requires.1 in omega arith

pub overflow_add-self : goal.overflow_add-self
overflow_add-self c =
    let g = good_line_lem c.args.self c.requires.0 in let a = g.short in let b = g.within in let l = (length_of_lem c.args.self g).0 in let r = below_limit _ c.requires.1 in omega arith

pub overflow_add-self-2 : goal.overflow_add-self-2
overflow_add-self-2 c =
    let g = good_line_lem c.args.self c.requires.0 in let a = g.short in let b = g.within in let l = (length_of_lem c.args.self g).0 in let r = below_limit _ c.requires.1 in omega arith

pub returns : goal.returns
returns c =
    insert_held c.args.self c.args.byte _ (good_line_lem c.args.self c.requires.0) (below_limit _ c.requires.1) c.copy_within.ensures.after
