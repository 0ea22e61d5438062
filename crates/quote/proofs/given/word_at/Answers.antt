-- `quote::given::word_at` meets its contract: a whole frame of kind 14 whose text is good, and nothing else.
use Rattle.quote.proofs.Listing.{item_none, item_other, item_judged, frame_room_lem, part_length}
use native.Mathlib.Omega.{arith}
use mathlib.Core.Path.{sym}
use borrow.Enum.Refused.{opened}
use Rattle.quote.proofs.given.word_at.Goals as goal

pub returns-in_default : goal.returns-in_default
returns-in_default c = sym (item_none _ _ (sym c.read_frame.ensures) (opened c.in_default.in_default-own.keys2))

pub returns-then-kind-ne20 : goal.returns-then-kind-ne20
returns-then-kind-ne20 c =
    sym (item_other _ _ _ (sym c.in-Frame.ensures) c.if-kind-ne20.true)

pub overflow_add-start : goal.overflow_add-start
overflow_add-start c =
    let f = frame_room_lem c.args.words.now c.args.at _ _ (sym c.in-Frame.ensures) in omega arith

pub overflow_add-end : goal.overflow_add-end
overflow_add-end c =
    let f = frame_room_lem c.args.words.now c.args.at _ _ (sym c.in-Frame.ensures) in omega arith

pub slice_bounds-item_of-end : goal.slice_bounds-item_of-end
slice_bounds-item_of-end c =
    let f = frame_room_lem c.args.words.now c.args.at _ _ (sym c.in-Frame.ensures) in omega arith

pub item_of-requires : goal.item_of-requires
item_of-requires c =
    let f = frame_room_lem c.args.words.now c.args.at _ _ (sym c.in-Frame.ensures) in
    let l = part_length c.args.words.now c.args.at _ f in
    omega arith

pub returns : goal.returns
returns c =
    item_judged c.args.words.now c.args.at _ _ _ (sym c.in-Frame.ensures) c.if-kind-ne20.false c.item_of.ensures
