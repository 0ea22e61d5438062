-- `history::forgetting::cut` meets its contract.
use native.Mathlib.Omega.{arith}
use mathlib.Core.Path.{refl, ◌∙◌}
use Rattle.history.proofs.States.{good_has}
use Rattle.history.proofs.Shortened.{lost_within, cut_holds}
use Rattle.history.proofs.forgetting.cut.Goals as goal

pub overflow_sub-total : goal.overflow_sub-total
overflow_sub-total c =
    let l = lost_within c.args.history c.args.slots.now c.requires.0 c.args.start c.args.end c.requires.1 in
    omega arith

pub close_up-requires : goal.close_up-requires
close_up-requires c =
    let g = good_has c.args.history c.args.slots.now c.requires.0 in
    (g.size, g.begins, c.requires.1, c.requires.2, g.counted)

pub clear_slots-requires : goal.clear_slots-requires
clear_slots-requires c =
    let g = good_has c.args.history c.args.slots.now c.requires.0 in
    (c.close_up.auto.slots ∙ g.size, g.begins, omega arith, g.counted)

pub returns : goal.returns
returns c =
    let g = good_has c.args.history c.args.slots.now c.requires.0 in
    cut_holds c.args.history c.args.slots.now c.requires.0 c.args.start c.args.end c.requires.1 _ _ _ _ c.requires.2 refl c.total_of.ensures (c.clear_slots.auto.slots ∙ c.close_up.auto.slots ∙ g.size) c.close_up.ensures c.clear_slots.ensures
