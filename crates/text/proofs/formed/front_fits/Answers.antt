-- `text::formed::front_fits` meets its contract.
use Rattle.text.proofs.Judging.{front_three, three_fit}
use mathlib.Core.Path.{ap, ◌∙◌}
use Prim.Native.Nat.{ℕ}
use lib.Dec.{eqb}
use Rattle.text.proofs.formed.front_fits.Goals as goal

pub returns : goal.returns
returns c =
    three_fit _ _ _ _ _ _ c.fits.ensures c.fits-2.ensures c.fits-3.ensures ∙ ap (λ (n : ℕ). eqb n 0) (front_three c.args.s.now c.requires)
