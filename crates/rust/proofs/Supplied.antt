-- The trees of 003 that are supplied as images are what the Rust's builders build, with and without the feature fs.
use Rattle.std.proofs.Common.{◌≡◌, true, false, List, [], ◌∷◌, refl, arith}
use Rattle.buffer.specs.Compare.{order, same_bytes}
use Rattle.buffer.specs.Numbers.{number_bytes}
use Rattle.frame.specs.Text.{text_of as framed}
use Rattle.image.specs.Frames.{Frame, node, option, flag, text, perhaps, encode_frame}
use Rattle.image.specs.Limits.{all_shown, is_name, is_note, is_short, definable, fair}
use Rattle.tree.specs.Images.{flat}
use Rattle.tree.specs.Forest.{Forest, bare, grown, flatten, nodes_in, options_in, flags_in, definitions_only, orderly}
use Rattle.tree.proofs.Forests.{StandsFor}
use Rattle.buffer.specs.Ascii.{ascii}
use Rattle.trees.specs.Commands.{command, marked, base_tree, fs_tree}
use Rattle.rust.specs.Tree.{Commands, insert_node, some_of, option_defs, flag_defs, commands_of}
use Rattle.rust.specs.Base.{carry_out, place_in, names_by, build_base_cmd, build_command_tree}

-- frames of depth 0 as a forest: the definitions before the first node, and the trees
gathered : List Frame → List Frame × Forest
gathered [] = ([], bare)
gathered (node d h n ds u ∷ l) = ([], grown h n ds u (gathered l).0 bare (gathered l).1)
gathered (option r c n x ds ∷ l) = (option r c n x ds ∷ (gathered l).0, (gathered l).1)
gathered (flag c n x ds ∷ l) = (flag c n x ds ∷ (gathered l).0, (gathered l).1)

-- an image that stands for a forest, and the Rust's tree for it
pub record BuiltAs (frames : List Frame) (tree : Commands) : Type 0 where
  pub forest : Forest
  pub stands : StandsFor (flat frames) forest
  pub built : commands_of forest ≡ tree

pub base_built : BuiltAs base_tree (build_command_tree false)
unfolding gathered base_tree ascii command marked number_bytes framed text perhaps encode_frame all_shown is_name is_note is_short definable fair flat flatten nodes_in options_in flags_in definitions_only orderly same_bytes order insert_node some_of option_defs flag_defs commands_of carry_out place_in names_by build_base_cmd build_command_tree
base_built =
    record {
      forest = (gathered base_tree).1;
      stands = record { joined = refl; rising = refl; nodes = omega arith; short = omega arith };
      built = refl;
    }

pub fs_built : BuiltAs fs_tree (build_command_tree true)
unfolding gathered fs_tree ascii command marked number_bytes framed text perhaps encode_frame all_shown is_name is_note is_short definable fair flat flatten nodes_in options_in flags_in definitions_only orderly same_bytes order insert_node some_of option_defs flag_defs commands_of carry_out place_in names_by build_base_cmd build_command_tree
fs_built =
    record {
      forest = (gathered fs_tree).1;
      stands = record { joined = refl; rising = refl; nodes = omega arith; short = omega arith };
      built = refl;
    }
