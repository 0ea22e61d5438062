-- `lookup::seek::seek` meets its contract: the search from the place reached gives what the search from the beginning gives.
use Rattle.lookup.proofs.Seeks.{spot_end, spot_hit, spot_stop, spot_pass, rest_looked}
use Rattle.buffer.specs.Numbers.{Bytes}
use native.Mathlib.Omega.{arith}
use Prim.Native.Nat.{◌≤◌}
use mathlib.Core.Path.{sym, ◌∙◌}
use lib.ListN.{length}
use Rattle.lookup.proofs.seek.seek.Goals as goal

pub returns-in-Hit : goal.returns-in-Hit
returns-in-Hit c =
    spot_hit _ _ c.args.image.now _ (rest_looked _ _ _ _ _ _ c.rest.ensures c.look_first.ensures c.in-Hit.is) ∙ c.loop-at.invariant

pub overflow_add-at : goal.overflow_add-at
unfolding Bytes
overflow_add-at c =
    let e = rest_looked _ _ _ _ _ _ c.rest.ensures c.look_first.ensures c.in-Pass.is in
    let p = spot_pass _ _ c.args.image.now c.loop-at.at _ (λ i. (c.shared_slice_known-1.given i).fits) e in
    let w = p.within in
    let h : c.loop-at.at ≤ length c.args.image.now = omega arith in
    omega (arith, w h)

pub loop-at-smaller : goal.loop-at-smaller
unfolding Bytes
loop-at-smaller c =
    let e = rest_looked _ _ _ _ _ _ c.rest.ensures c.look_first.ensures c.in-Pass.is in
    let p = spot_pass _ _ c.args.image.now c.loop-at.at _ (λ i. (c.shared_slice_known-1.given i).fits) e in
    omega (arith, p.some)

pub loop-at-preserved : goal.loop-at-preserved
unfolding Bytes
loop-at-preserved c =
    let e = rest_looked _ _ _ _ _ _ c.rest.ensures c.look_first.ensures c.in-Pass.is in
    let p = spot_pass _ _ c.args.image.now c.loop-at.at _ (λ i. (c.shared_slice_known-1.given i).fits) e in
    sym p.same ∙ c.loop-at.invariant

pub returns-in-Stop : goal.returns-in-Stop
returns-in-Stop c =
    spot_stop _ _ c.args.image.now _ (rest_looked _ _ _ _ _ _ c.rest.ensures c.look_first.ensures c.in-Stop.is) ∙ c.loop-at.invariant

pub returns : goal.returns
returns c =
    spot_end _ _ c.args.image.now _ c.loop-at-test.false ∙ c.loop-at.invariant
