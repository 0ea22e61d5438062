-- `write` of `OptionFrame` meets its contract: the kind, then the key, then the value, each right after what is there.
use Rattle.frame.specs.Text.{text_of}
use Rattle.report.proofs.Ahead.{ahead_room, ahead_lent, ahead_turn, last_lent, ahead_last}
use Rattle.report.specs.Pairs.{length_option}
use Rattle.report.proofs.Tables.{option_kind}
use native.Mathlib.Omega.{arith}
use mathlib.Core.Path.{refl}
use Rattle.report.proofs.pairs.OptionFramePairFrame.write.Goals as goal

pub push_byte-at-requires : goal.push_byte-at-requires
push_byte-at-requires c =
    omega (arith, c.requires, length_option c.args.key.now c.args.value.now)

pub slice_bounds-write_long_text-count : goal.slice_bounds-write_long_text-count
slice_bounds-write_long_text-count c =
    let s = option_kind c.args.key.now c.args.value.now c.args.out.now _ _ c.requires.value_in_bounds c.push_byte-at.ensures in
    omega (arith, s.count, s.same, c.requires.value_in_bounds)

pub slice_bounds-write_long_text-start : goal.slice_bounds-write_long_text-start
slice_bounds-write_long_text-start c =
    let s = option_kind c.args.key.now c.args.value.now c.args.out.now _ _ c.requires.value_in_bounds c.push_byte-at.ensures in
    omega (arith, s.count, s.same, c.requires.value_in_bounds)

pub write_long_text-requires : goal.write_long_text-requires
write_long_text-requires c =
    let s = option_kind c.args.key.now c.args.value.now c.args.out.now _ _ c.requires.value_in_bounds c.push_byte-at.ensures in
    (c.requires.key_len_bound.0, ahead_lent _ _ _ (text_of 2 c.args.key.now) (text_of 2 c.args.value.now) _ _ s refl c.requires.value_in_bounds)

pub overflow_add-next : goal.overflow_add-next
overflow_add-next c =
    let s = option_kind c.args.key.now c.args.value.now c.args.out.now _ _ c.requires.value_in_bounds c.push_byte-at.ensures in
    let r = ahead_room _ _ _ (text_of 2 c.args.key.now) (text_of 2 c.args.value.now) _ _ s refl c.requires.value_in_bounds in
    omega (arith, r, c.write_long_text.ensures.count)

pub slice_bounds-write_long_text-count-2 : goal.slice_bounds-write_long_text-count-2
slice_bounds-write_long_text-count-2 c =
    let s = option_kind c.args.key.now c.args.value.now c.args.out.now _ _ c.requires.value_in_bounds c.push_byte-at.ensures in
    let m = ahead_turn _ _ _ (text_of 2 c.args.key.now) (text_of 2 c.args.value.now) _ _ s refl c.requires.value_in_bounds _ _ c.write_long_text.ensures in
    omega (arith, m.count, m.same, c.requires.value_in_bounds)

pub slice_bounds-write_long_text-start-2 : goal.slice_bounds-write_long_text-start-2
slice_bounds-write_long_text-start-2 c =
    let s = option_kind c.args.key.now c.args.value.now c.args.out.now _ _ c.requires.value_in_bounds c.push_byte-at.ensures in
    let m = ahead_turn _ _ _ (text_of 2 c.args.key.now) (text_of 2 c.args.value.now) _ _ s refl c.requires.value_in_bounds _ _ c.write_long_text.ensures in
    omega (arith, m.count, m.same, c.requires.value_in_bounds)

pub write_long_text-requires-2 : goal.write_long_text-requires-2
write_long_text-requires-2 c =
    let s = option_kind c.args.key.now c.args.value.now c.args.out.now _ _ c.requires.value_in_bounds c.push_byte-at.ensures in
    let m = ahead_turn _ _ _ (text_of 2 c.args.key.now) (text_of 2 c.args.value.now) _ _ s refl c.requires.value_in_bounds _ _ c.write_long_text.ensures in
    (c.requires.key_len_bound.1, last_lent _ _ c.requires.value_in_bounds (text_of 2 c.args.value.now) _ _ m)

pub overflow_add-result : goal.overflow_add-result
overflow_add-result c =
    let s = option_kind c.args.key.now c.args.value.now c.args.out.now _ _ c.requires.value_in_bounds c.push_byte-at.ensures in
    let m = ahead_turn _ _ _ (text_of 2 c.args.key.now) (text_of 2 c.args.value.now) _ _ s refl c.requires.value_in_bounds _ _ c.write_long_text.ensures in
    omega (arith, m.count, c.requires.value_in_bounds, c.write_long_text-2.ensures.count)

pub returns : goal.returns
returns c =
    let s = option_kind c.args.key.now c.args.value.now c.args.out.now _ _ c.requires.value_in_bounds c.push_byte-at.ensures in
    let m = ahead_turn _ _ _ (text_of 2 c.args.key.now) (text_of 2 c.args.value.now) _ _ s refl c.requires.value_in_bounds _ _ c.write_long_text.ensures in
    ahead_last _ _ c.requires.value_in_bounds (text_of 2 c.args.value.now) _ _ m _ _ c.write_long_text-2.ensures
