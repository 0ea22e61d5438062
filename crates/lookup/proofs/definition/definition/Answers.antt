-- `lookup::definition::definition` meets its contract: the answer from the place reached, with the option found before, is the answer from the beginning.
use Rattle.lookup.proofs.Matches.{answer_starts, answer_flag, answer_stop, answer_end, answer_option, answer_pass, rest_matched}
use Rattle.lookup.specs.Inner.{has_asked}
use Rattle.buffer.specs.Numbers.{Bytes}
use native.Mathlib.Omega.{arith}
use Prim.Native.Nat.{◌≤◌}
use mathlib.Core.Path.{◌∙◌}
use lib.ListN.{length}
use Rattle.lookup.proofs.definition.definition.Goals as goal

pub loop-at-init : goal.loop-at-init
loop-at-init c =
    answer_starts (has_asked c.args.asked) c.args.image.now c.args.from

pub returns-in-FlagHit : goal.returns-in-FlagHit
returns-in-FlagHit c =
    let e = rest_matched (has_asked c.args.asked) _ _ _ _ c.rest.ensures c.match_first.ensures c.in-FlagHit.is in
    answer_flag (has_asked c.args.asked) c.args.image.now c.loop-at.option c.loop-at.at e ∙ c.loop-at.invariant

pub overflow_add-at : goal.overflow_add-at
unfolding Bytes
overflow_add-at c =
    let e = rest_matched (has_asked c.args.asked) _ _ _ _ c.rest.ensures c.match_first.ensures c.in-OptionHit.is in
    let t = answer_option (has_asked c.args.asked) c.args.image.now c.loop-at.option c.loop-at.at _ _ (λ i. (c.shared_slice_known-1.given i).fits) e c.or-option.ensures in
    let h : c.loop-at.at ≤ length c.args.image.now = omega arith in
    let w = t.within in
    omega (arith, w h)

pub loop-at-smaller-in-OptionHit : goal.loop-at-smaller-in-OptionHit
unfolding Bytes
loop-at-smaller-in-OptionHit c =
    let e = rest_matched (has_asked c.args.asked) _ _ _ _ c.rest.ensures c.match_first.ensures c.in-OptionHit.is in
    let t = answer_option (has_asked c.args.asked) c.args.image.now c.loop-at.option c.loop-at.at _ _ (λ i. (c.shared_slice_known-1.given i).fits) e c.or-option.ensures in
    omega (arith, t.some)

pub loop-at-preserved-in-OptionHit : goal.loop-at-preserved-in-OptionHit
unfolding Bytes
loop-at-preserved-in-OptionHit c =
    let e = rest_matched (has_asked c.args.asked) _ _ _ _ c.rest.ensures c.match_first.ensures c.in-OptionHit.is in
    let t = answer_option (has_asked c.args.asked) c.args.image.now c.loop-at.option c.loop-at.at _ _ (λ i. (c.shared_slice_known-1.given i).fits) e c.or-option.ensures in
    t.same ∙ c.loop-at.invariant

pub overflow_add-at-in-Pass : goal.overflow_add-at-in-Pass
unfolding Bytes
overflow_add-at-in-Pass c =
    let e = rest_matched (has_asked c.args.asked) _ _ _ _ c.rest.ensures c.match_first.ensures c.in-Pass.is in
    let t = answer_pass (has_asked c.args.asked) c.args.image.now c.loop-at.option c.loop-at.at _ (λ i. (c.shared_slice_known-1.given i).fits) e in
    let h : c.loop-at.at ≤ length c.args.image.now = omega arith in
    let w = t.within in
    omega (arith, w h)

pub loop-at-smaller : goal.loop-at-smaller
unfolding Bytes
loop-at-smaller c =
    let e = rest_matched (has_asked c.args.asked) _ _ _ _ c.rest.ensures c.match_first.ensures c.in-Pass.is in
    let t = answer_pass (has_asked c.args.asked) c.args.image.now c.loop-at.option c.loop-at.at _ (λ i. (c.shared_slice_known-1.given i).fits) e in
    omega (arith, t.some)

pub loop-at-preserved : goal.loop-at-preserved
unfolding Bytes
loop-at-preserved c =
    let e = rest_matched (has_asked c.args.asked) _ _ _ _ c.rest.ensures c.match_first.ensures c.in-Pass.is in
    let t = answer_pass (has_asked c.args.asked) c.args.image.now c.loop-at.option c.loop-at.at _ (λ i. (c.shared_slice_known-1.given i).fits) e in
    t.same ∙ c.loop-at.invariant

pub returns-in-Stop : goal.returns-in-Stop
returns-in-Stop c =
    let e = rest_matched (has_asked c.args.asked) _ _ _ _ c.rest.ensures c.match_first.ensures c.in-Stop.is in
    answer_stop (has_asked c.args.asked) c.args.image.now c.loop-at.option c.loop-at.at _ c.no_flag.ensures e ∙ c.loop-at.invariant

pub returns : goal.returns
returns c =
    answer_end (has_asked c.args.asked) c.args.image.now c.loop-at.option c.loop-at.at _ c.no_flag-2.ensures c.loop-at-test.false ∙ c.loop-at.invariant
