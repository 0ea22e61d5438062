-- `text::apart::trim` meets its contract.
use Rattle.text.proofs.Splits.{run_fits, trim_fits, trim_is}
use Rattle.text.proofs.WhiteRuns.{solid_length}
use native.Mathlib.Omega.{arith}
use mathlib.Core.Bool.{true}
use Rattle.text.proofs.apart.trim.Goals as goal

pub last_solid-end-requires : goal.last_solid-end-requires
last_solid-end-requires c = let h = run_fits true c.args.s.now in omega (arith, c.run_end-start.ensures)

pub slice_bounds-result-end : goal.slice_bounds-result-end
unfolding solid_length
slice_bounds-result-end c = trim_fits c.args.s.now _ _ c.run_end-start.ensures c.last_solid-end.ensures

pub returns : goal.returns
unfolding solid_length
returns c =
    trim_is c.args.s.now _ _ c.run_end-start.ensures c.last_solid-end.ensures
