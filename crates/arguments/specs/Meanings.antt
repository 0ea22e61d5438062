-- What a key or a short means to a node (STANDARD 7): a flag first, else an option; of each the first definition wins.
use Rattle.std.specs.Prelude.{ℕ, Bool, true, false, cond, List, [], ◌∷◌}
use Rattle.std.proofs.Math.Option.{Option, none, some}
use Rattle.image.specs.Frames.{Frame, node, option, flag}
use Rattle.tree.specs.Subtrees.{up_to}
use Rattle.lookup.specs.Searches.{is_node}
use Rattle.lookup.specs.Definitions.{has_key, flag_with, option_with}

-- the definitions of a node, given its subtree: the frames after it up to the next node of any depth (6.11, 7.4, 12.8)
unfoldable pub definitions_of : List Frame → List Frame
definitions_of [] = []
definitions_of (node depth handler name description usage ∷ l) = up_to is_node l
definitions_of (option required short name long description ∷ l) = []
definitions_of (flag short name long description ∷ l) = []

abbrev pub name_of : Frame → List ℕ
name_of (node depth handler name description usage) = name
name_of (option required short name long description) = name
name_of (flag short name long description) = name

-- the name of the first definition that passes a test (7.10)
unfoldable pub first_name : (Frame → Bool) → List Frame → Option (List ℕ)
first_name test [] = none
first_name test (f ∷ l) = cond (test f) (some (name_of f)) (first_name test l)

-- a flag or an option of that name, or nothing that the node knows
pub data Means : Type 0 where
  a_flag : List ℕ → Means
  an_option : List ℕ → Means
  nothing : Means

abbrev pub flag_else : Option (List ℕ) → Option (List ℕ) → Means
flag_else (some name) o = a_flag name
flag_else none (some name) = an_option name
flag_else none none = nothing

-- (7.7, 7.10)
unfoldable pub meaning : (Frame → Bool) → List Frame → Means
meaning has defs = flag_else (first_name (flag_with has) defs) (first_name (option_with has) defs)

abbrev pub on_means : {A : Type 0} → Means → (List ℕ → A) → (List ℕ → A) → A → A
on_means (a_flag name) f g other = f name
on_means (an_option name) f g other = g name
on_means nothing f g other = other

abbrev pub is_some : Option (List ℕ) → Bool
is_some (some name) = true
is_some none = false

-- whether a key is the name or the long of an option (7.6)
unfoldable pub is_option : List ℕ → List Frame → Bool
is_option key defs = is_some (first_name (option_with (has_key key)) defs)
