-- `text::utf8::decode` meets its contract.
use Rattle.text.proofs.TableRows.{decode_end, decode_ascii}
use Rattle.std.proofs.Common.{rules, ◌≤◌, ◌<◌, ◌≡◌, length, get_or, ℕ}
use mathlib.Core.Path.{sym, ap, ◌∙◌}
use native.Mathlib.Omega.{arith}
use Rattle.text.specs.declared.utf8.Decoded.TheVariants.{Character}
use Rattle.text.proofs.utf8.decode.Goals as goal

pub returns-in_default : goal.returns-in_default
returns-in_default c =
    let h : length c.args.s.now ≤ c.args.at = search rules in
    sym (decode_end _ _ h)

pub returns-then-a-lt128 : goal.returns-then-a-lt128
returns-then-a-lt128 c =
    let h : c.args.at < length c.args.s.now = search rules in
    let e : c.in-Some.field-0.now ≡ get_or c.args.s.now c.args.at 0 = search rules in
    ap (λ (n : ℕ). Character n 1) (c.from.ensures ∙ e) ∙ sym (decode_ascii c.args.s.now c.args.at h (omega arith))
