-- How the code holds a session that stands somewhere: by value, in the buffer of the image and in the slots.
use Rattle.std.specs.Prelude.{◌≡◌, ℕ, List}
use Rattle.tree.proofs.Grown.{Stands}
use Rattle.editor.specs.Answer.{editor_of, history_of, slots_of}
use Rattle.editor.proofs.Fine.{Fine}
use Rattle.session.specs.Lines.{Standing}
use Rattle.session.specs.Calls.{image_of}
use Rattle.session.specs.declared.standing.Session.{Session}

pub record Holds (s : Standing) (h : Session) (image slots : List ℕ) : Type 0 where
  pub editor : h.editor ≡ editor_of s.state
  pub history : h.history ≡ history_of s.state
  pub held : slots ≡ slots_of s.state
  pub fine : Fine s.state
  pub stands : Stands image h.walk
  pub tree : image_of h image ≡ s.image
  pub keyed : h.keyed ≡ s.keyed
  pub lines : h.lines ≡ s.lines
