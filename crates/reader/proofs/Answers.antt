-- What the reader's statements come to: no second reader satisfies them, and the frames of an image are counted as they were joined.
use Prim.Native.Nat.{ℕ}
use mathlib.Core.Path.{◌≡◌, sym, ap, ◌∙◌}
use mathlib.Core.List.{List}
use lib.ListN.{length}
use denote.Ref.{Bor}
use Rattle.image.specs.Frames.{Frame}
use Rattle.tree.specs.Images.{frames_of, flat}
use Rattle.tree.proofs.WellFormedImages.{AllFit, frames_flat}
use Rattle.reader.specs.declared.Reader.{Reader}

-- a reader is its image and its place
pub one_reader : (image : Bor (List ℕ)) (at : ℕ) (r q : Reader) → (r.image ≡ image) × (r.at ≡ at) → (q.image ≡ image) × (q.at ≡ at) → r ≡ q
one_reader image at r q e f = λ i. record { image = (e.0 ∙ sym f.0) i; at = (e.1 ∙ sym f.1) i }

pub counts_joined : (fs : List Frame) → AllFit fs → length (frames_of (flat fs)) ≡ length fs
counts_joined fs k = ap (λ (l : List Frame). length l) (frames_flat fs k)
