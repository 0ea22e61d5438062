-- `quote::word::push_character` meets its contract: `\` is one write, and the bytes the write right after it.
use Rattle.quote.proofs.Showing.{mark_room, bare_room}
use Rattle.buffer.proofs.Writing.{pushed_both}
use native.Mathlib.Omega.{arith}
use Prim.Native.Nat.{◌+◌, ◌≤◌}
use mathlib.Core.Path.{sym, ◌∙◌}
use mathlib.Core.List.{[], ◌∷◌}
use lib.ListN.{length}
use Rattle.quote.proofs.word.push_character.Goals as goal

pub push_byte-next-requires : goal.push_byte-next-requires
push_byte-next-requires c =
    let r = mark_room _ c.args.bytes.now c.args.at _ (sym c.is_special.ensures ∙ c.if-is_special.true) (c.requires) in omega arith

pub push-requires : goal.push-requires
push-requires c =
    let r = mark_room _ c.args.bytes.now c.args.at _ (sym c.is_special.ensures ∙ c.if-is_special.true) (c.requires) in omega (arith, c.push_byte-next.ensures.place)

pub returns-then-is_special : goal.returns-then-is_special
returns-then-is_special c =
    let r = mark_room _ c.args.bytes.now c.args.at _ (sym c.is_special.ensures ∙ c.if-is_special.true) (c.requires) in
    let k : c.args.at + 1 ≤ length c.args.out.now = omega arith in
    rw (sym c.is_special.ensures ∙ c.if-is_special.true) (pushed_both (0x5C ∷ []) c.args.bytes.now _ _ _ _ _ _ k c.push_byte-next.ensures c.push.ensures)

pub push-requires-2 : goal.push-requires-2
push-requires-2 c =
    bare_room _ c.args.bytes.now c.args.at _ (sym c.is_special.ensures ∙ c.if-is_special.false) (c.requires)

pub returns : goal.returns
returns c =
    rw (sym c.is_special.ensures ∙ c.if-is_special.false) c.push-2.ensures
