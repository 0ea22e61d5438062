-- `text::utf8::letter_at` meets its contract: each way by the first byte is one of the table.
use Rattle.text.proofs.Letters.{letter_end, at_low, at_two, at_three, at_none}
use Rattle.std.proofs.Common.{rules, ◌≤◌, ◌<◌, ◌≡◌, length, get_or, ℕ}
use Rattle.text.specs.Decoding.{decode_two, decode_three}
use Rattle.text.specs.Inner.{length_of, letter_head}
use mathlib.Core.Bool.{true, false}
use mathlib.Core.Path.{sym, ap, ◌∙◌}
use native.Mathlib.Omega.{arith}
use Rattle.text.proofs.utf8.letter_at.Goals as goal

pub returns-in_err-a : goal.returns-in_err-a
returns-in_err-a c =
    let h : length c.args.s.now ≤ c.args.at = search rules in
    c.from_residual.ensures ∙ sym (letter_end _ _ h)

pub returns-then-a-lt195 : goal.returns-then-a-lt195
returns-then-a-lt195 c =
    let h : c.args.at < length c.args.s.now = search rules in
    let e : c.in_ok-a.field-0.now ≡ get_or c.args.s.now c.args.at 0 = search rules in
    sym (at_low c.args.s.now c.args.at h (omega arith))

pub returns-then-a-lt224 : goal.returns-then-a-lt224
returns-then-a-lt224 c =
    let h : c.args.at < length c.args.s.now = search rules in
    let e : c.in_ok-a.field-0.now ≡ get_or c.args.s.now c.args.at 0 = search rules in
    let r = c.length_of.ensures ∙ ap length_of (c.two.ensures ∙ ap (λ (a : ℕ). decode_two a c.octet_at.result) e) in
    at_two c.args.s.now c.args.at h _ _ (omega arith) (omega arith) c.octet_at.ensures r

pub returns-then-is_letter_head : goal.returns-then-is_letter_head
returns-then-is_letter_head c =
    let h : c.args.at < length c.args.s.now = search rules in
    let e : c.in_ok-a.field-0.now ≡ get_or c.args.s.now c.args.at 0 = search rules in
    let r =
    c.length_of-then-is_letter_head.ensures
    ∙ ap length_of (c.three.ensures ∙ ap (λ (a : ℕ). decode_three a c.octet_at-then-is_letter_head.result c.octet_at-then-is_letter_head-2.result) e)
    in
    let head : letter_head (get_or c.args.s.now c.args.at 0) ≡ true = ap letter_head (sym e) ∙ sym c.is_letter_head.ensures ∙ c.if-is_letter_head.true in
    at_three c.args.s.now c.args.at h _ _ _ head c.octet_at-then-is_letter_head.ensures c.octet_at-then-is_letter_head-2.ensures r

pub returns : goal.returns
returns c =
    let h : c.args.at < length c.args.s.now = search rules in
    let e : c.in_ok-a.field-0.now ≡ get_or c.args.s.now c.args.at 0 = search rules in
    let head : letter_head (get_or c.args.s.now c.args.at 0) ≡ false = ap letter_head (sym e) ∙ sym c.is_letter_head.ensures ∙ c.if-is_letter_head.false in
    sym (at_none c.args.s.now c.args.at h (omega arith) head)
