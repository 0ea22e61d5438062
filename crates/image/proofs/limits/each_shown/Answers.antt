-- `image::limits::each_shown` meets its contract: the fold over the text.
use Rattle.std.proofs.Common.{rules, tests, ◌∙◌, ◌&&◌, Bool}
use Rattle.std.proofs.lemmas.Iterator.{YieldsList-from_slice}
use Rattle.std.proofs.lemmas.Iterator.Consumers.{fold_from_yields_List}
use Rattle.image.specs.Limits.{is_shown}
use Rattle.image.proofs.Blocks.{folded_shown}
use Rattle.image.proofs.limits.each_shown.Goals as goal

pub returns : goal.returns
returns c =
    fold_from_yields_List _ (λ (x : Bool) b. x && is_shown c.args.low b) _ _ c.fold.ensures.ran (YieldsList-from_slice c.args.t.now cc) (λ a x b q k. search (rules, tests))
    ∙ folded_shown c.args.low c.args.t.now
