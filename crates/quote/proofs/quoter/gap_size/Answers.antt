-- `quote::quoter::gap_size` meets its contract: nothing stands before the first word, one space before every other.
use Prim.Native.Nat.{ℕ, zero, suc}
use mathlib.Core.Path.{◌≡◌, refl, ap, ◌∙◌}
use mathlib.Core.Bool.{Bool, not}
use native.Mathlib.Omega.{arith}
use borrow.Author.Tests.{ne_eqb}
use lib.Dec.{eqb}
use lib.ListN.{length}
use mir.Val.{bool_byte}
use Rattle.quote.specs.Joined.{gap_before}
use Rattle.quote.proofs.quoter.gap_size.Goals as goal

counted : (n : ℕ) → bool_byte (not (eqb n 0)) ≡ length (gap_before n)
unfolding gap_before
counted zero = refl
counted (suc n) = ap (λ (t : Bool). bool_byte (not t)) (ne_eqb (suc n) 0 (λ q. omega arith))

pub returns : goal.returns
returns c = c.from.ensures ∙ counted c.args.n
