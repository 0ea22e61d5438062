-- `table::key` meets its contract: the part lies in the words or in the image.
use Rattle.table.proofs.PackedPlaces.{in_words, in_image}
use mathlib.Core.Path.{◌∙◌}
use Rattle.table.proofs.packing.key.Goals as goal

pub returns-then-place-eq0 : goal.returns-then-place-eq0
returns-then-place-eq0 c =
    c.part.ensures ∙ in_words c.args.words.now c.args.image.now c.args.e c.if-place-eq0.true

pub returns-else-place-eq0 : goal.returns-else-place-eq0
returns-else-place-eq0 c =
    c.part-else-place-eq0.ensures ∙ in_image c.args.words.now c.args.image.now c.args.e c.if-place-eq0.false
