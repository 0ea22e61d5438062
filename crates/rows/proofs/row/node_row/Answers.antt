-- `rows::row::node_row_lem` meets its contract: by what is listed and the depth.
use types.Run.{hit}
use Rattle.rows.proofs.OneRow.{row_child, row_top, row_second, row_other, row_deeper, row_definitions}
use Rattle.buffer.proofs.Inking.{counts_as, inked_as, inked_nothing}
use Rattle.buffer.specs.Ascii.{ascii}
use Rattle.image.specs.Reading.{node_in}
use native.Mathlib.Omega.{arith}
use mathlib.Core.Path.{sym}
use mathlib.Core.List.{[], ◌∷◌}
use Rattle.rows.proofs.row.node_row.Goals as goal

pub returns-then-depth-d : goal.returns-then-depth-d
unfolding node_in
returns-then-depth-d c =
    λ h. inked_nothing _ _ _ (row_other c.args.listing _ h _ _ _ _ c.in-Subcommands.is c.if-depth-d.true)

pub put_node-requires : goal.put_node-requires
unfolding node_in ascii
put_node-requires c =
    (omega arith, counts_as _ _ c.args.at (row_child c.args.listing _ 0 _ _ _ _ _ c.part-name.ensures c.part-note.ensures _ c.in-Subcommands.is c.if-depth-d.false) (c.requires.1 0))

pub put_node-requires-in-0 : goal.put_node-requires-in-0
unfolding node_in ascii
put_node-requires-in-0 c =
    (omega arith, counts_as _ _ c.args.at (row_top c.args.listing _ 0 _ _ _ _ _ c.part-name.ensures c.part-note.ensures c.in-Commands.is c.in-0.is) (c.requires.1 0))

pub put_node-requires-in-1 : goal.put_node-requires-in-1
unfolding node_in ascii
put_node-requires-in-1 c =
    (omega arith, counts_as _ _ c.args.at (row_second c.args.listing _ 0 _ _ _ _ _ c.part-name.ensures c.part-note.ensures c.in-Commands.is c.in-1.is) (c.requires.1 0))

pub returns-else-depth-d : goal.returns-else-depth-d
unfolding node_in ascii
returns-else-depth-d c =
    λ h. inked_as _ _ _ _ _ _ (sym (row_child c.args.listing _ h _ _ _ _ _ c.part-name.ensures c.part-note.ensures _ c.in-Subcommands.is c.if-depth-d.false)) c.put_node.ensures

pub returns-in-0 : goal.returns-in-0
unfolding node_in ascii
returns-in-0 c =
    λ h. inked_as _ _ _ _ _ _ (sym (row_top c.args.listing _ h _ _ _ _ _ c.part-name.ensures c.part-note.ensures c.in-Commands.is c.in-0.is)) c.put_node-in-0.ensures

pub returns-in-1 : goal.returns-in-1
unfolding node_in ascii
returns-in-1 c =
    λ h. inked_as _ _ _ _ _ _ (sym (row_second c.args.listing _ h _ _ _ _ _ c.part-name.ensures c.part-note.ensures c.in-Commands.is c.in-1.is)) c.put_node-in-1.ensures

pub returns-in_default-depth : goal.returns-in_default-depth
unfolding node_in
returns-in_default-depth c =
    λ h. inked_nothing _ _ _ (row_deeper c.args.listing c.args.depth h _ _ _ c.in-Commands.is (λ q. c.in_default-depth.in_default-depth-own.rest.0.1 (rw q (hit (0 ∷ []) 0 tt))) (λ q. c.in_default-depth.in_default-depth-own.rest.1 (rw q (hit (1 ∷ []) 1 tt))))

pub returns-in_default : goal.returns-in_default
unfolding node_in
returns-in_default c =
    λ h. inked_nothing _ _ _ (row_definitions c.args.listing _ h _ _ _ c.in_default.in_default-own.keys3)
