-- Both trees are well-formed.
use Rattle.std.specs.Prelude.{Ok}
use mathlib.Core.Path.{◌≡◌, refl}
use Rattle.buffer.specs.Compare.{order}
use Rattle.buffer.specs.Numbers.{number_bytes}
use Rattle.frame.specs.Text.{text_of}
use Rattle.image.specs.Frames.{text, perhaps, encode_frame}
use Rattle.image.specs.Limits.{all_shown, is_name, is_note, is_short, definable, fair}
use Rattle.image.specs.Reading.{span, perhaps_in, node_lengths, definition_lengths, node_first, option_first, flag_first, head_first, node_in, option_in, flag_in, read_first}
use Rattle.tree.specs.Images.{items_from, items, flat}
use Rattle.tree.specs.Rules.{rises, follows, obeys, after, judge_items, check_tree}
use Rattle.buffer.specs.Ascii.{ascii}
use Rattle.trees.specs.Commands.{command, marked, base_tree, fs_tree}

pub good :
    (check_tree (flat base_tree) ≡ Ok tt)
    × (check_tree (flat fs_tree) ≡ Ok tt)
unfolding ascii command marked base_tree fs_tree order number_bytes text_of text perhaps encode_frame all_shown is_name is_note is_short definable fair span perhaps_in node_lengths definition_lengths node_first option_first flag_first head_first node_in option_in flag_in read_first items_from items flat rises follows obeys after judge_items check_tree
good = (refl, refl)
