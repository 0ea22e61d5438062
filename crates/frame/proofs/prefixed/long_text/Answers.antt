-- `frame::long_text` meets its contract: the two bytes at the place are the number in front of the text.
use Rattle.buffer.proofs.Numbers.{value_two}
use Rattle.buffer.proofs.Choices.{then_is, else_is}
use Rattle.frame.proofs.Texts.{read_end, read_at}
use borrow.Author.Tests.{le-leb, lt-leb}
use native.Mathlib.Omega.{arith}
use Prim.Native.Nat.{ℕ, ◌+◌, ◌*◌, ◌<◌, ◌≤◌}
use mathlib.Core.Path.{◌≡◌, sym, ap, ◌∙◌}
use lib.ListN.{length, get_or}
use Rattle.std.proofs.Common.{Some}
use Rattle.frame.proofs.prefixed.long_text.Goals as goal

pub returns-then-left-lt2 : goal.returns-then-left-lt2
returns-then-left-lt2 c = sym (read_end 2 c.args.s.now c.args.at _ c.saturating_sub-left.ensures c.if-left-lt2.true)

pub returns-then-n-left : goal.returns-then-n-left
returns-then-n-left c =
    let v : ℕ = get_or c.args.s.now c.args.at 0 * 256 + get_or c.args.s.now (c.args.at + 1) 0 in
    let h : c.args.at + 1 < length c.args.s.now = omega arith in
    let e : c.from.result * 256 + c.from-2.result ≡ v = omega (arith, c.from.ensures, c.from-2.ensures) in
    let k : 2 + v ≤ c.saturating_sub-left.result = omega arith in
    ap Some e ∙ sym (read_at 2 c.args.s.now c.args.at _ c.saturating_sub-left.ensures v (value_two c.args.s.now c.args.at h) ∙ then_is _ _ _ (le-leb _ _ k))

pub returns-else-n-left : goal.returns-else-n-left
returns-else-n-left c =
    let v : ℕ = get_or c.args.s.now c.args.at 0 * 256 + get_or c.args.s.now (c.args.at + 1) 0 in
    let h : c.args.at + 1 < length c.args.s.now = omega arith in
    let e : c.from.result * 256 + c.from-2.result ≡ v = omega (arith, c.from.ensures, c.from-2.ensures) in
    let k : c.saturating_sub-left.result < 2 + v = omega arith in
    sym (read_at 2 c.args.s.now c.args.at _ c.saturating_sub-left.ensures v (value_two c.args.s.now c.args.at h) ∙ else_is _ _ _ (lt-leb _ _ k))
