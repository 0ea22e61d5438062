-- `rows::row::put_row` meets its contract: by the head of the frame.
use Rattle.rows.proofs.OneRow.{row_read, row_none, row_handler, option_told, flag_told, option_unlisted, flag_unlisted}
use Rattle.buffer.proofs.Inking.{counts_as, inked_as, inked_nothing}
use Rattle.image.proofs.HeadBytes.{view, node_small}
use Rattle.image.specs.Reading.{node_in}
use Rattle.buffer.specs.Numbers.{Bytes}
use mathlib.Core.Path.{refl, sym, ◌∙◌}
use borrow.Enum.Refused.{opened}
use Rattle.rows.proofs.row.put_row.Goals as goal

pub node_row-requires : goal.node_row-requires
unfolding Bytes node_in
node_row-requires c =
    let e = sym c.in-Node.ensures in
    (node_small c.args.s.now _ (λ i. (c.shared_slice_known-1.given i).fits) (view _ _ e).texts, λ h. counts_as _ _ c.args.at (sym (row_read c.args.listing c.args.s.now _ _ _ _ refl (sym e) refl) ∙ row_handler c.args.listing _ h _ _ _ _) (c.requires))

pub returns-in_default-listing : goal.returns-in_default-listing
returns-in_default-listing c =
    inked_nothing _ _ _ (option_unlisted c.args.listing c.args.s.now _ _ _ (opened c.in_default-listing.in_default-listing-own.keys2) ∙ row_read c.args.listing c.args.s.now _ _ _ _ refl (sym c.in-Option.is ∙ c.head_of.ensures) refl)

pub put_option-requires : goal.put_option-requires
unfolding Bytes
put_option-requires c =
    let e = sym c.in-Option.ensures in
    let t = option_told c.args.s.now (λ i. (c.shared_slice_known-1.given i).fits) _ _ _ e in
    (t.0, t.1, counts_as _ _ c.args.at (sym (row_read c.args.listing c.args.s.now _ _ _ _ c.in-Options.is (sym e) refl)) (c.requires))

pub returns-in_default-listing-2 : goal.returns-in_default-listing-2
returns-in_default-listing-2 c =
    inked_nothing _ _ _ (flag_unlisted c.args.listing c.args.s.now _ _ (opened c.in_default-listing-2.in_default-listing-2-own.keys2) ∙ row_read c.args.listing c.args.s.now _ _ _ _ refl (sym c.in-Flag.is ∙ c.head_of.ensures) refl)

pub put_flag-requires : goal.put_flag-requires
unfolding Bytes
put_flag-requires c =
    let e = sym c.in-Flag.ensures in
    let t = flag_told c.args.s.now (λ i. (c.shared_slice_known-1.given i).fits) _ _ e in
    (t.0, t.1, counts_as _ _ c.args.at (sym (row_read c.args.listing c.args.s.now _ _ _ _ c.in-Flags.is (sym e) refl)) (c.requires))

pub returns-in-Node : goal.returns-in-Node
returns-in-Node c =
    inked_as _ _ _ _ _ _ (row_read c.args.listing c.args.s.now _ _ _ _ refl (sym c.in-Node.is ∙ c.head_of.ensures) refl) (c.node_row.ensures _)

pub returns-in-Options : goal.returns-in-Options
returns-in-Options c =
    inked_as _ _ _ _ _ _ (row_read c.args.listing c.args.s.now _ _ _ _ c.in-Options.is (sym c.in-Option.is ∙ c.head_of.ensures) refl) c.put_option.ensures

pub returns-in-Flags : goal.returns-in-Flags
returns-in-Flags c =
    inked_as _ _ _ _ _ _ (row_read c.args.listing c.args.s.now _ _ _ _ c.in-Flags.is (sym c.in-Flag.is ∙ c.head_of.ensures) refl) c.put_flag.ensures

pub returns-in_default : goal.returns-in_default
returns-in_default c =
    inked_nothing _ _ _ (row_none c.args.listing c.args.s.now _ c.head_of.ensures c.in_default.in_default-own.keys4)
