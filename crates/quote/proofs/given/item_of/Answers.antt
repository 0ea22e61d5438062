-- `quote::given::item_of` meets its contract: a plain word is good if it has some bytes, and any other if it is well-formed.
use Rattle.quote.proofs.Listing.{item_empty, item_good, item_plain, item_broken, reaches_end}
use native.Mathlib.Omega.{arith}
use mathlib.Core.Path.{sym, ◌∙◌}
use Rattle.quote.proofs.given.item_of.Goals as goal

pub returns-then-length-eq0 : goal.returns-then-length-eq0
returns-then-length-eq0 c = sym (item_empty _ c.args.word.now (omega (arith, c.if-length-eq0.true)))

pub returns-then-is_plain : goal.returns-then-is_plain
returns-then-is_plain c = sym (item_plain c.args.word.now (omega arith) (sym c.is_plain.ensures ∙ c.if-is_plain.true))

pub returns-then-well_formed_prefix-length : goal.returns-then-well_formed_prefix-length
returns-then-well_formed_prefix-length c =
    sym (item_broken _ _ c.args.word.now (omega arith) c.well_formed_prefix.ensures c.if-well_formed_prefix-length.true)

pub quoted_size-requires : goal.quoted_size-requires
quoted_size-requires c =
    record { word_value = (reaches_end c.args.word.now _ c.well_formed_prefix.ensures c.if-well_formed_prefix-length.false, sym c.is_plain.ensures ∙ c.if-is_plain.false); word_bound = c.requires }

pub returns : goal.returns
returns c =
    sym (item_good _ _ c.args.word.now (omega arith) (reaches_end c.args.word.now _ c.well_formed_prefix.ensures c.if-well_formed_prefix-length.false) c.quoted_size.ensures)
