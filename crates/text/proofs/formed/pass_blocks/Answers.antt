-- `text::formed::pass_blocks` meets its contract. The whole blocks and the last 32 places cover the text.
use native.Mathlib.Omega.{arith}
use Prim.Native.Nat.{ℕ, ◌-◌, ◌*◌, ◌/◌}
use lib.Dec.{eqb}
use mathlib.Core.Path.{sym, ap, ◌∙◌}
use mathlib.Core.List.{List}
use lib.ListN.{length}
use lib.Seq.{length-take-le}
use Rattle.buffer.specs.Greatest.{greatest}
use Rattle.buffer.proofs.Lending.{rest_lent}
use Rattle.text.specs.Inner.{misfits_in}
use Rattle.text.proofs.Judging.{misfits_covered, both_fit}
use Rattle.text.proofs.formed.pass_blocks.Goals as goal

pub slice_bounds-pass-end : goal.slice_bounds-pass-end
slice_bounds-pass-end c = sym (length-take-le _ c.args.s.now (omega arith))

pub returns : goal.returns
returns c =
    let s : List ℕ = c.args.s.now in
    let whole : ℕ = (length s - 3) / 32 * 32 in
    let last : ℕ = length s - 35 in
    both_fit _ _ _ _ c.pass.ensures (c.pass-2.ensures ∙ ap (λ (l : List ℕ). eqb (greatest (misfits_in l)) 0) (rest_lent s last))
    ∙ ap (λ (n : ℕ). eqb n 0) (misfits_covered s whole last (omega arith))
