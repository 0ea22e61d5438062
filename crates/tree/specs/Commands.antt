-- The command that words name (STANDARD 7): the first word names a node of depth 0, and words are followed while they name a child.
use Rattle.std.specs.Prelude.{ℕ, suc, List, [], ◌∷◌, ◌++◌}
use Rattle.frame.specs.Series.{texts_in}
use Rattle.image.specs.Frames.{Frame, node, option, flag}
use Rattle.tree.specs.Images.{frames_of}
use Rattle.tree.specs.Subtrees.{subtree}

-- the command that words lead to: its path, the words left over, and its subtree (7.3)
pub record Reached : Type 0 where
  pub path : List (List ℕ)
  pub words : List (List ℕ)
  pub frames : List Frame

abbrev pub on_subtree : {A : Type 0} → List Frame → A → (List Frame → A) → A
on_subtree [] absent found = absent
on_subtree (f ∷ l) absent found = found (f ∷ l)

-- words are followed while they name a child, which is a node of that depth in the subtree (6.19, 7.3)
unfoldable pub descend : ℕ → List Frame → List (List ℕ) → List (List ℕ) → Reached
descend depth frames path [] = record { path = path; words = []; frames = frames }
descend depth frames path (w ∷ words) =
    on_subtree (subtree depth w frames)
    (record { path = path; words = w ∷ words; frames = frames })
    (λ child. descend (suc depth) child (path ++ (w ∷ [])) words)

-- from the top of a tree; where the first word names no command the path is empty
unfoldable pub reached_by : List ℕ → List ℕ → Reached
reached_by image words = descend 0 (frames_of image) [] (texts_in words)

-- frames that begin with a node
abbrev pub NodeFirst : List Frame → Type 0
NodeFirst [] = ⊥
NodeFirst (node depth handler name description usage ∷ l) = Unit
NodeFirst (option required short name long description ∷ l) = ⊥
NodeFirst (flag short name long description ∷ l) = ⊥
