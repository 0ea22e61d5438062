-- One frame of a tree image, and its bytes (STANDARD 6.5 to 6.8).
use Rattle.std.specs.Prelude.{ℕ, ◌/◌, ◌%◌, List, [], ◌∷◌, ◌++◌}
use Rattle.frame.specs.Text.{text_of}

-- a text that may be missing (6.5)
pub data Perhaps : Type 0 where
  absent : Perhaps
  present : List ℕ → Perhaps

-- what a frame says: a node of the tree, or an option or a flag of the last node (6.6 to 6.8)
pub data Frame : Type 0 where
  node : (depth handler : ℕ) (name description : List ℕ) (usage : Perhaps) → Frame
  option : (required short : ℕ) (name : List ℕ) (long : Perhaps) (description : List ℕ) → Frame
  flag : (short : ℕ) (name : List ℕ) (long : Perhaps) (description : List ℕ) → Frame

-- a text is a length byte and its bytes (6.5)
unfoldable pub text : List ℕ → List ℕ
text t = text_of 1 t

-- a missing text is the length FF (6.5)
unfoldable pub perhaps : Perhaps → List ℕ
perhaps absent = 0xff ∷ []
perhaps (present t) = text t

-- the bytes of a frame (6.6 to 6.8)
unfoldable pub encode_frame : Frame → List ℕ
encode_frame (node depth handler name description usage) =
    0x01 ∷ depth ∷ handler / 256 ∷ handler % 256 ∷ text name ++ text description ++ perhaps usage
encode_frame (option required short name long description) =
    0x02 ∷ required ∷ short ∷ text name ++ perhaps long ++ text description
encode_frame (flag short name long description) =
    0x03 ∷ short ∷ text name ++ perhaps long ++ text description
