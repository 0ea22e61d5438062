-- `rows::list::put_rows` meets its contract: whoever writes the rows that are left has written them all.
use Rattle.rows.proofs.Lists.{sets_out, arrives, stops, row_counts, goes_on_lem}
use Rattle.buffer.specs.Numbers.{Bytes}
use native.Mathlib.Omega.{arith}
use Rattle.rows.proofs.list.put_rows.Goals as goal

pub loop-place-init : goal.loop-place-init
loop-place-init c = sets_out _ _ _ _

pub returns-in_default : goal.returns-in_default
returns-in_default c =
    stops _ _ _ _ _ _ _ c.loop-place.invariant _ c.rest-s.ensures c.in_default.ensures

pub put_row-end-requires : goal.put_row-end-requires
unfolding Bytes
put_row-end-requires c =
    row_counts _ _ _ _ _ _ _ c.loop-place.invariant _ c.rest-s.ensures _ c.in-Some.ensures (λ i. (c.shared_slice_known-1.given i).fits) (c.requires)

pub overflow_add-place : goal.overflow_add-place
unfolding Bytes
overflow_add-place c =
    let g = goes_on_lem _ _ _ _ _ _ _ c.loop-place.invariant _ c.rest-s.ensures _ c.in-Some.ensures (λ i. (c.shared_slice_known-1.given i).fits) _ _ c.put_row-end.ensures in
    let w = g.1.within in omega arith

pub loop-place-smaller : goal.loop-place-smaller
unfolding Bytes
loop-place-smaller c =
    let g = goes_on_lem _ _ _ _ _ _ _ c.loop-place.invariant _ c.rest-s.ensures _ c.in-Some.ensures (λ i. (c.shared_slice_known-1.given i).fits) _ _ c.put_row-end.ensures in
    let m = g.0 in let w = g.1.within in omega arith

pub loop-place-preserved : goal.loop-place-preserved
unfolding Bytes
loop-place-preserved c =
    (goes_on_lem _ _ _ _ _ _ _ c.loop-place.invariant _ c.rest-s.ensures _ c.in-Some.ensures (λ i. (c.shared_slice_known-1.given i).fits) _ _ c.put_row-end.ensures).1

pub returns : goal.returns
returns c = arrives _ _ _ _ _ _ _ c.loop-place.invariant c.loop-place-test.false
