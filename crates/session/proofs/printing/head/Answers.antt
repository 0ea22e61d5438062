-- `session::printing::head` meets its contract.
use Prim.Native.Nat.{ℕ, ◌/◌, ◌%◌}
use mathlib.Core.Path.{◌≡◌, ap, ◌∙◌}
use mathlib.Core.List.{List, [], ◌∷◌}
use native.Mathlib.Omega.{arith}
use lib.ListN.{get_or}
use Rattle.session.specs.Prints.{wide}
use Rattle.session.proofs.printing.head.Goals as goal

pub returns : goal.returns
unfolding wide
returns c =
    let n : ℕ = c.args.number in
    let high : n % 65536 / 256 % 256 ≡ n / 256 % 256 = omega arith in
    let low : n % 65536 % 256 ≡ n % 256 = omega arith in
    ap (λ (l : List ℕ). c.args.kind ∷ get_or l 0 0 ∷ get_or l 1 0 ∷ []) c.to_be_bytes.ensures
    ∙ ap (λ (b : ℕ). c.args.kind ∷ b ∷ n % 65536 % 256 ∷ []) high
    ∙ ap (λ (b : ℕ). c.args.kind ∷ n / 256 % 256 ∷ b ∷ []) low
