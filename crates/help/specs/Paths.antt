-- Where words lead (STANDARD 9): the first to a node of depth 0, each further one to a child of the node before.
use Rattle.std.specs.Prelude.{ℕ, suc, ◌≤◌, ◌≡◌, List, [], ◌∷◌, length, Ok, Err, Result}
use Rattle.buffer.specs.Lend.{between}
use Rattle.buffer.specs.declared.lend.Span.{Span}
use Rattle.text.specs.Apart.{words_between}
use Rattle.image.specs.Frames.{Frame}
use Rattle.tree.specs.Images.{frames_of}
use Rattle.tree.specs.Subtrees.{subtree}

-- to the subtree of the last word's node, or to nothing, with the first word that names none (9.12)
pub data Led : Type 0 where
  found : List Frame → Led
  lost : List ℕ → Led

-- by the subtree of a word, of which there is none if it has no frames
abbrev pub on_subtree : List ℕ → List Frame → (List Frame → Led) → Led
on_subtree word [] more = lost word
on_subtree word (f ∷ l) more = more (f ∷ l)

-- where words lead from the frames of a subtree whose children have depth d (9.12)
unfoldable pub followed : ℕ → List Frame → List (List ℕ) → Led
followed d frames [] = found frames
followed d frames (word ∷ words) = on_subtree word (subtree d word frames) (λ below. followed (suc d) below words)

-- what following the words of a line tells: the part of the image with the subtree that is found, or the part of the line with the lost word
pub record FoundAt (image line : List ℕ) (start end : ℕ) : Type 0 where
  pub order : start ≤ end
  pub within : end ≤ length image
  pub leads : followed 0 (frames_of image) (words_between line) ≡ found (frames_of (between image start end))

pub record LostAt (image line : List ℕ) (start end : ℕ) : Type 0 where
  pub order : start ≤ end
  pub within : end ≤ length line
  pub leads : followed 0 (frames_of image) (words_between line) ≡ lost (between line start end)

abbrev pub Follows : List ℕ → List ℕ → Result Span Span → Type 0
Follows image line (Ok part) = FoundAt image line part.start part.end
Follows image line (Err part) = LostAt image line part.start part.end
