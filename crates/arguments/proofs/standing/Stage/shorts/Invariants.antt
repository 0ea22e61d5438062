-- `arguments::standing::Stage::shorts` meets its contract: the characters still to come, from where the scan stands, lead where all of them lead.
use Prim.Native.Nat.{◌+◌, ◌-◌, ℕ}
use mathlib.Core.Path.{◌≡◌}
use mathlib.Core.List.{List}
use Rattle.table.specs.Inner.{Fit}
use Rattle.arguments.specs.Inner.{held, definitions_at}
use lib.ListN.{length, drop}
use Rattle.text.specs.Decoding.{well_formed_length}
use Rattle.arguments.proofs.Walks.{ShortsAt}
use Rattle.arguments.proofs.standing.Stage.shorts.Given as goal

abbrev pub invariant-loop-at : goal.invariant-loop-at
invariant-loop-at l = ((o : List ℕ) → ShortsAt l.node.words.now l.node.image.now (definitions_at l.node.image.now l.node.from) l.letters (held o l.initial.flags l.initial.stage) (held o l.flags l.stage) l.at) × Fit l.stage.flags l.flags × (l.stage.options ≡ l.initial.stage.options) × (l.at + well_formed_length (drop l.at l.letters) ≡ length l.letters)

abbrev pub decreases-loop-at : goal.decreases-loop-at
decreases-loop-at l = length l.letters - l.at
