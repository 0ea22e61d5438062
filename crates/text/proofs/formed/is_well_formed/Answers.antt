-- `text::formed::is_well_formed` meets its contract. All bytes and the end fit exactly if the text is well-formed.
use Rattle.text.proofs.Judging.{unfit_three, three_fit}
use Rattle.text.proofs.Windows.{fits_formed}
use lib.Dec.{eqb}
use mathlib.Core.Path.{ap, ◌∙◌}
use native.Mathlib.Omega.{arith}
use Prim.Native.Nat.{ℕ}
use Rattle.text.proofs.formed.is_well_formed.Goals as goal

pub returns-then-s-lt35 : goal.returns-then-s-lt35
returns-then-s-lt35 c = c.all_fit.ensures ∙ fits_formed c.args.s.now

pub returns : goal.returns
returns c =
    three_fit _ _ _ _ _ _ c.front_fits.ensures c.pass_blocks.ensures c.end_fits.ensures
    ∙ ap (λ (n : ℕ). eqb n 0) (unfit_three c.args.s.now (omega arith))
    ∙ fits_formed c.args.s.now
