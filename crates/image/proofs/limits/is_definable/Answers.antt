-- `image::limits::is_definable` meets its contract: the first field outside its limits decides.
use Rattle.image.proofs.Fields.{seen, none_fair, some_fair, short_bad, name_bad, note_bad, definable_by}
use Rattle.image.specs.Inner.{defined_in}
use Rattle.image.specs.Limits.{is_name, is_note}
use native.Mathlib.Omega.{arith}
use mathlib.Core.Path.{sym, ap, ◌∙◌}
use Rattle.image.proofs.limits.is_definable.Goals as goal

pub returns-then-not-is_short : goal.returns-then-not-is_short
unfolding defined_in
returns-then-not-is_short c = short_bad _ _ _ _ (sym c.is_short.ensures ∙ c.if-not-is_short.true)

pub returns-then-not-is_name : goal.returns-then-not-is_name
unfolding defined_in
returns-then-not-is_name c =
    name_bad _ _ _ _ (sym c.is_short.ensures ∙ c.if-not-is_short.false) (seen is_name _ _ _ _ c.is_name.ensures c.part.ensures c.if-not-is_name.true)

pub returns-then-not-is_note : goal.returns-then-not-is_note
unfolding defined_in
returns-then-not-is_note c =
    let named = seen is_name _ _ _ _ c.is_name.ensures c.part.ensures c.if-not-is_name.false in
    let described = seen is_note _ _ _ _ c.is_note.ensures (c.part-2.ensures ∙ rw c.span_of.ensures) c.if-not-is_note.true in
    note_bad _ _ _ _ (sym c.is_short.ensures ∙ c.if-not-is_short.false) named described

pub overflow_add-at-3 : goal.overflow_add-at-3
overflow_add-at-3 c = let k = c.requires.1.other in omega arith

pub overflow_add-at-4 : goal.overflow_add-at-4
overflow_add-at-4 c = let k = c.requires.1.other in omega arith

pub returns-in-None : goal.returns-in-None
unfolding defined_in
returns-in-None c =
    let named = seen is_name _ _ _ _ c.is_name.ensures c.part.ensures c.if-not-is_name.false in
    let described = seen is_note _ _ _ _ c.is_note.ensures (c.part-2.ensures ∙ rw c.span_of.ensures) c.if-not-is_note.false in
    none_fair is_name _ _ c.in-None.is ∙ definable_by _ _ _ _ (sym c.is_short.ensures ∙ c.if-not-is_short.false) named described

pub returns-in-Some : goal.returns-in-Some
unfolding defined_in
returns-in-Some c =
    let named = seen is_name _ _ _ _ c.is_name.ensures c.part.ensures c.if-not-is_name.false in
    let described = seen is_note _ _ _ _ c.is_note.ensures (c.part-2.ensures ∙ rw c.span_of.ensures) c.if-not-is_note.false in
    c.is_name-in-Some.ensures
    ∙ ap is_name c.part-in-Some.ensures
    ∙ some_fair is_name _ _ _ c.in-Some.is
    ∙ definable_by _ _ _ _ (sym c.is_short.ensures ∙ c.if-not-is_short.false) named described
