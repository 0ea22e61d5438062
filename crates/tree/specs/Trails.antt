-- Where words have led in an image: a part of it, and the place in the words after the path.
use Rattle.std.specs.Prelude.{ℕ, ◌-◌, ◌≤◌, ◌≡◌, List, [], length, take, drop, Ok, Err, Result, Some, None, Option}
use Rattle.frame.specs.Series.{texts_in}
use Rattle.tree.specs.Images.{frames_of}
use Rattle.tree.specs.Rules.{check_tree}
use Rattle.tree.specs.Commands.{Reached, reached_by}
use Rattle.tree.specs.declared.check.BadFrame.{BadFrame}
use Rattle.tree.specs.declared.command.Place.{Place}

-- a part of the image
abbrev pub image_part : List ℕ → Place → List ℕ
image_part image place = take (place.end - place.start) (drop place.start image)

-- a place within the image and the words
pub record Within (words image : List ℕ) (place : Place) : Type 0 where
  pub order : place.start ≤ place.end
  pub inside : place.end ≤ length image
  pub passed : place.at ≤ length words

-- a place that words have led to: the command's part of the image, and the words after its path
pub record Descended (words image : List ℕ) (place : Place) (r : Reached) : Type 0 where
  pub path : texts_in (take place.at words) ≡ r.path
  pub left : texts_in (drop place.at words) ≡ r.words
  pub frames : frames_of (image_part image place) ≡ r.frames
  pub within : Within words image place

-- the command that words name, which their path leads to; nowhere if the path is empty
abbrev pub Leads : List ℕ → List ℕ → Option Place → Reached → Type 0
Leads words image (Some place) r = Descended words image place r × (r.path ≡ [] → ⊥)
Leads words image None r = r.path ≡ []

-- an image tested, and where the words lead in a good one
abbrev pub Finding : List ℕ → List ℕ → Result (Option Place) BadFrame → Type 0
Finding words image (Ok found) = (check_tree image ≡ Ok tt) × Leads words image found (reached_by image words)
Finding words image (Err refusal) = check_tree image ≡ Err refusal
