-- `pressing::press_at` meets its contract.
use Rattle.stream.proofs.Pressings.{goes_fits, ends_fits, goes_made, ends_made, never_refused}
use Rattle.std.proofs.Common.{rules}
use mathlib.Core.Path.{ap, ◌∙◌}
use Rattle.std.specs.Prelude.{Ok}
use Rattle.stream.proofs.pressing.press_at.Goals as goal

pub overflow_add-result : goal.overflow_add-result
overflow_add-result c =
    let f = goes_fits c.args.session c.args.image.now c.args.slots.now c.args.byte c.args.out.now c.args.at c.requires.0 c.requires.1 _ _ _ c.press-pressing.ensures (search rules) (search rules) _ (c.unwrap.ensures ∙ ap Ok c.in-Goes.is) in search rules

pub overflow_add-result-in-Ends : goal.overflow_add-result-in-Ends
overflow_add-result-in-Ends c =
    let f = ends_fits c.args.session c.args.image.now c.args.slots.now c.args.byte c.args.out.now c.args.at c.requires.0 c.requires.1 _ _ _ c.press-pressing.ensures (search rules) (search rules) _ (c.unwrap.ensures ∙ ap Ok c.in-Ends.is) in search rules

pub returns-in-Goes : goal.returns-in-Goes
returns-in-Goes c =
    goes_made c.args.session c.args.image.now c.args.slots.now c.args.byte c.args.out.now c.args.at c.requires.0 c.requires.1 _ _ _ c.press-pressing.ensures (search rules) (search rules) _ (c.unwrap.ensures ∙ ap Ok c.in-Goes.is)

pub returns-in-Ends : goal.returns-in-Ends
returns-in-Ends c =
    ends_made c.args.session c.args.image.now c.args.slots.now c.args.byte c.args.out.now c.args.at c.requires.0 c.requires.1 _ _ _ c.press-pressing.ensures (search rules) (search rules) _ (c.unwrap.ensures ∙ ap Ok c.in-Ends.is)

pub unwrap-requires : goal.unwrap-requires
unwrap-requires c =
    never_refused c.args.session c.args.image.now c.args.slots.now c.args.byte c.args.out.now c.args.at c.requires.0 c.requires.1 _ _ _ c.press-pressing.ensures
