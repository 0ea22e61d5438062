-- `image::limits::fair_node` meets its contract: the first field outside its limits decides.
use Rattle.image.proofs.Fields.{seen, none_fair, some_fair, node_deep, node_unnamed, node_undescribed, node_by}
use Rattle.image.specs.Reading.{node_in}
use Rattle.image.specs.Limits.{is_name, is_note}
use native.Mathlib.Omega.{arith}
use mathlib.Core.Path.{ap, ◌∙◌}
use Rattle.image.proofs.limits.fair_node.Goals as goal

pub returns-then-depth-gt7 : goal.returns-then-depth-gt7
unfolding node_in
returns-then-depth-gt7 c = λ h k. node_deep c.args.depth h _ _ _ k (omega arith)

pub returns-then-not-is_name : goal.returns-then-not-is_name
unfolding node_in
returns-then-not-is_name c =
    λ h k. node_unnamed _ h _ _ _ k (omega arith) (seen is_name _ _ _ _ c.is_name.ensures c.part.ensures c.if-not-is_name.true)

pub returns-then-not-is_note : goal.returns-then-not-is_note
unfolding node_in
returns-then-not-is_note c =
    let named = seen is_name _ _ _ _ c.is_name.ensures c.part.ensures c.if-not-is_name.false in
    let described = seen is_note _ _ _ _ c.is_note.ensures c.part-2.ensures c.if-not-is_note.true in
    λ h k. node_undescribed _ h _ _ _ k (omega arith) named described

pub returns-in-None : goal.returns-in-None
unfolding node_in
returns-in-None c =
    let named = seen is_name _ _ _ _ c.is_name.ensures c.part.ensures c.if-not-is_name.false in
    let described = seen is_note _ _ _ _ c.is_note.ensures c.part-2.ensures c.if-not-is_note.false in
    λ h k. none_fair is_note _ _ c.in-None.is ∙ node_by _ h _ _ _ k (omega arith) named described

pub returns-in-Some : goal.returns-in-Some
unfolding node_in
returns-in-Some c =
    let named = seen is_name _ _ _ _ c.is_name.ensures c.part.ensures c.if-not-is_name.false in
    let described = seen is_note _ _ _ _ c.is_note.ensures c.part-2.ensures c.if-not-is_note.false in
    λ h k. c.is_note-in-Some.ensures ∙ ap is_note c.part-in-Some.ensures ∙ some_fair is_note _ _ _ c.in-Some.is ∙ node_by _ h _ _ _ k (omega arith) named described
