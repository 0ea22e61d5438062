-- `image::limits::blocks_shown` meets its contract: what is left at every turn is tested as the whole is, and at the end it lies within the last block.
use Rattle.image.proofs.Blocks.{end_bad, passed_bad, passed_more, passed_all}
use native.Mathlib.Omega.{arith}
use Prim.Native.Nat.{ℕ, ◌-◌}
use mathlib.Core.List.{List}
use mathlib.Core.Path.{◌∙◌}
use lib.ListN.{length}
use Rattle.image.proofs.limits.blocks_shown.Goals as goal

pub returns-then-not-each_shown : goal.returns-then-not-each_shown
returns-then-not-each_shown c =
    let t : List ℕ = c.args.t.now in
    end_bad _ t (length t - c.args.size) _ c.each_shown.ensures c.if-not-each_shown.true

pub returns-then-not-each_shown-2 : goal.returns-then-not-each_shown-2
returns-then-not-each_shown-2 c =
    passed_bad _ _ _ _ _ c.loop-block.invariant.0 c.in-Some.ensures.steps.1.0 _ c.each_shown-in-loop-block.ensures c.if-not-each_shown-2.true

pub loop-block-preserved : goal.loop-block-preserved
loop-block-preserved c = (
  passed_more _ _ _ _ _ c.loop-block.invariant.0 c.in-Some.ensures.steps.1.0 _ c.each_shown-in-loop-block.ensures c.if-not-each_shown-2.false,
  c.in-Some.ensures.steps.0 ∙ c.loop-block.invariant.1,
)

pub returns : goal.returns
returns c =
    let t : List ℕ = c.args.t.now in
    let short = c.in-None.ensures.steps.1.0 in
    let size = c.loop-block.invariant.1 in
    passed_all _ t _ (length t - c.args.size) _ c.loop-block.invariant.0 (omega arith) c.each_shown.ensures c.if-not-each_shown.false
