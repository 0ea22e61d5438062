-- An image is well-formed exactly if it is the flattening of a forest whose siblings rise strictly, within the limits.
use Rattle.std.specs.Prelude.{Ok}
use Prim.Native.Nat.{ℕ, ◌≤◌}
use mathlib.Core.Path.{◌≡◌, ap, ◌∙◌}
use mathlib.Core.Bool.{true}
use mathlib.Core.List.{List, []}
use lib.ListN.{length}
use Rattle.buffer.specs.Numbers.{Bytes}
use Rattle.tree.specs.Images.{frames_of, flat}
use Rattle.tree.specs.Rules.{check_tree}
use Rattle.tree.specs.Forest.{Forest, flatten, nodes_in, orderly}
use Rattle.tree.proofs.WellFormedImages.{well_formed_good, good_well_formed}
use Rattle.tree.proofs.Flattening.{forest_obeys}
use Rattle.tree.proofs.Planting.{obeys_forest}

-- an image that stands for a forest
pub record StandsFor (image : List ℕ) (forest : Forest) : Type 0 where
  pub joined : image ≡ flat (flatten 0 forest)
  pub rising : orderly [] 0 forest ≡ true
  pub nodes : nodes_in forest ≤ 256
  pub short : length image ≤ 32768

pub forest_good : (image : List ℕ) (forest : Forest) → StandsFor image forest → check_tree image ≡ Ok tt
forest_good image forest s =
    well_formed_good image (flatten 0 forest)
    (record { joined = s.joined; obey = forest_obeys forest s.rising s.nodes; short = s.short })

pub good_forest : (image : List ℕ) → Bytes image → check_tree image ≡ Ok tt → (forest : Forest) × StandsFor image forest
good_forest image b e =
    let w = good_well_formed image b e in
    let f = obeys_forest (frames_of image) w.obey in
    (f.forest, record { joined = w.joined ∙ ap flat f.flattened; rising = f.rising; nodes = f.nodes; short = w.short })
