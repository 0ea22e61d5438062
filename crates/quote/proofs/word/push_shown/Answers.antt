-- `quote::word::push_shown` meets its contract: the word itself, or three writes in a row, a quote on either side.
use Rattle.quote.proofs.Showing.{shown_plain, shown_quoted, quoted_room}
use Rattle.quote.specs.Shown.{escaped}
use Rattle.text.specs.Decoding.{codes_in}
use Rattle.text.specs.Unicode.{encode_all}
use Rattle.buffer.proofs.Writing.{pushed_both}
use native.Mathlib.Omega.{arith}
use Prim.Native.Nat.{ℕ, ◌+◌, ◌≤◌}
use mathlib.Core.Path.{sym, ap, ◌∙◌}
use mathlib.Core.List.{List, [], ◌∷◌}
use lib.ListN.{length}
use Rattle.quote.proofs.word.push_shown.Goals as goal

pub push-requires : goal.push-requires
push-requires c =
    let e = ap length (shown_plain c.args.word.now (sym c.is_plain.ensures ∙ c.if-is_plain.true)) in omega (arith, e, c.requires.word_in_bounds)

pub returns-then-is_plain : goal.returns-then-is_plain
returns-then-is_plain c =
    rw (shown_plain c.args.word.now (sym c.is_plain.ensures ∙ c.if-is_plain.true)) c.push.ensures

pub push_byte-start-requires : goal.push_byte-start-requires
push_byte-start-requires c =
    let r = quoted_room c.args.word.now c.requires.word_value (sym c.is_plain.ensures ∙ c.if-is_plain.false) c.args.at _ c.requires.word_in_bounds in omega arith

pub push_escaped-end-requires : goal.push_escaped-end-requires
push_escaped-end-requires c =
    let r = quoted_room c.args.word.now c.requires.word_value (sym c.is_plain.ensures ∙ c.if-is_plain.false) c.args.at _ c.requires.word_in_bounds in record { word_value = c.requires.word_value; word_in_bounds = omega (arith, r, c.push_byte-start.ensures.place) }

pub push_byte-requires : goal.push_byte-requires
push_byte-requires c =
    let r = quoted_room c.args.word.now c.requires.word_value (sym c.is_plain.ensures ∙ c.if-is_plain.false) c.args.at _ c.requires.word_in_bounds in omega (arith, r, c.push_byte-start.ensures.place, c.push_escaped-end.ensures.place)

pub returns : goal.returns
returns c =
    let e = sym c.is_plain.ensures ∙ c.if-is_plain.false in
    let r = quoted_room c.args.word.now c.requires.word_value e c.args.at _ c.requires.word_in_bounds in
    let x : List ℕ = encode_all (escaped (codes_in c.args.word.now)) in
    let k : c.args.at + 1 ≤ length c.args.out.now = omega arith in
    let l : c.args.at + length (0x22 ∷ x) ≤ length c.args.out.now = omega arith in
    let front = pushed_both (0x22 ∷ []) x _ _ _ _ _ _ k c.push_byte-start.ensures c.push_escaped-end.ensures in
    rw (shown_quoted c.args.word.now c.requires.word_value e) (pushed_both (0x22 ∷ x) (0x22 ∷ []) _ _ _ _ _ _ l front c.push_byte.ensures)
