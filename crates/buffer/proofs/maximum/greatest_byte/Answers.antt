-- `buffer::maximum::greatest_byte` meets its contract. The whole blocks and the last 32 bytes cover the part.
use native.Mathlib.Omega.{arith}
use Prim.Native.Nat.{ℕ, ◌-◌, ◌*◌, ◌/◌, ◌≤◌}
use mathlib.Core.List.{List}
use lib.ListN.{length}
use mathlib.Core.Path.{sym, ◌∙◌}
use lib.Seq.{length-take-le}
use Rattle.buffer.proofs.Lending.{rest_lent}
use Rattle.buffer.proofs.Greatest.{greatest_covered}
use Rattle.buffer.proofs.maximum.greatest_byte.Goals as goal

pub slice_bounds-pass-end : goal.slice_bounds-pass-end
slice_bounds-pass-end c = sym (length-take-le _ c.args.s.now (omega arith))

pub returns : goal.returns
returns c =
    let args = c.args in
    let pass2 = c.pass-2 in
    let s : List ℕ = args.s.now in
    let k : length s - 32 ≤ length s / 32 * 32 = omega arith in
    let l = rest_lent s (length s - 32) in
    let m = greatest_covered s (length s / 32 * 32) (length s - 32) k in
    c.max.ensures ∙ cc (pass2.ensures, c.pass-3.ensures)
