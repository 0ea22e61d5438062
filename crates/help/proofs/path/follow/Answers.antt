-- `help::path::follow` meets its contract: the words left lead from the part reached to where all of them lead.
use Rattle.help.proofs.Following.{sets_out, stops, told, loses, goes_on_lem}
use Rattle.buffer.specs.Numbers.{Bytes}
use native.Mathlib.Omega.{arith}
use Rattle.help.proofs.path.follow.Goals as goal

pub loop-word-init : goal.loop-word-init
unfolding Bytes
loop-word-init c = sets_out _ _ (λ i. (c.shared_slice_known-1.given i).fits) c.requires

pub returns-in_default-find_node : goal.returns-in_default-find_node
returns-in_default-find_node c =
    loses _ _ _ _ _ _ c.loop-word.invariant _ c.next_word.ensures _ c.in-Some.is _ _ c.of.ensures c.of-in-Some.ensures _ c.find_node.ensures c.in_default-find_node.is

pub overflow_add-reached : goal.overflow_add-reached
overflow_add-reached c =
    let g = goes_on_lem _ _ _ _ _ _ c.loop-word.invariant _ c.next_word.ensures _ c.in-Some.is _ _ c.of.ensures c.of-in-Some.ensures _ c.find_node.ensures _ c.in-Some-find_node.is in
    let w = g.within in let o = g.order in omega arith

pub overflow_add-reached-in-Some : goal.overflow_add-reached-in-Some
overflow_add-reached-in-Some c =
    let g = goes_on_lem _ _ _ _ _ _ c.loop-word.invariant _ c.next_word.ensures _ c.in-Some.is _ _ c.of.ensures c.of-in-Some.ensures _ c.find_node.ensures _ c.in-Some-find_node.is in
    let w = g.within in omega arith

pub loop-word-smaller : goal.loop-word-smaller
loop-word-smaller c =
    let t = told _ _ _ _ _ _ c.loop-word.invariant _ c.next_word.ensures _ c.in-Some.is in
    let a = t.after in let s = t.some in let f = t.fits in omega arith

pub loop-word-preserved : goal.loop-word-preserved
loop-word-preserved c =
    goes_on_lem _ _ _ _ _ _ c.loop-word.invariant _ c.next_word.ensures _ c.in-Some.is _ _ c.of.ensures c.of-in-Some.ensures _ c.find_node.ensures _ c.in-Some-find_node.is

pub returns : goal.returns
returns c = stops _ _ _ _ _ _ c.loop-word.invariant _ c.next_word.ensures c.in_default.is
