-- `rows::row::listed_size` meets its contract: by the head of the frame.
use Rattle.rows.proofs.OneRow.{size_read_lem, size_none, definition_goes_on}
use Rattle.image.specs.Reading.{node_in, option_in, flag_in}
use mathlib.Core.Path.{refl, sym, ◌∙◌}
use mathlib.Core.Bool.{false}
use Rattle.rows.proofs.row.listed_size.Goals as goal

pub returns-then-node_ends : goal.returns-then-node_ends
unfolding node_in
returns-then-node_ends c =
    rw c.if-node_ends.true at (size_read_lem c.args.listing c.args.s.now _ _ _ _ (sym c.in-Node.is ∙ c.head_of.ensures) refl (c.node_ends.ensures _ _ _ _ _))

pub returns-else-node_ends : goal.returns-else-node_ends
unfolding node_in
returns-else-node_ends c =
    rw c.if-node_ends.false at (size_read_lem c.args.listing c.args.s.now _ _ _ _ (sym c.in-Node.is ∙ c.head_of.ensures) refl (c.node_ends.ensures _ _ _ _ _))

pub returns-in-Option : goal.returns-in-Option
unfolding option_in
returns-in-Option c =
    size_read_lem c.args.listing c.args.s.now _ _ _ false c.in-Option.ensures refl (definition_goes_on c.args.listing _ _ _ _ _).0

pub returns-in-Option-2 : goal.returns-in-Option-2
unfolding flag_in
returns-in-Option-2 c =
    size_read_lem c.args.listing c.args.s.now _ _ _ false c.in-Option.ensures refl (definition_goes_on c.args.listing 0 _ _ _ _).1

pub returns-in-Bad : goal.returns-in-Bad
returns-in-Bad c = size_none c.args.listing c.args.s.now _ c.head_of.ensures c.in-Bad.is
