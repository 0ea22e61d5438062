-- Worked examples: which frames an image takes.
use Prim.Native.Nat.{ℕ}
use mathlib.Core.Path.{◌≡◌, refl}
use mathlib.Core.Bool.{true, false}
use mathlib.Core.List.{List, [], ◌∷◌, ◌++◌}
use Rattle.buffer.specs.Compare.{order}
use Rattle.buffer.specs.Numbers.{number_bytes}
use Rattle.frame.specs.Text.{text_of}
use Rattle.image.specs.Frames.{node, flag, absent, text, perhaps, encode_frame}
use Rattle.image.specs.Limits.{all_shown, is_name, is_note, is_short, definable, fair}
use Rattle.image.specs.Reading.{span, perhaps_in, node_lengths, definition_lengths, node_first, flag_first, head_first, node_in, flag_in, read_first}
use Rattle.tree.specs.Images.{items_from, items}
use Rattle.tree.specs.Rules.{rises, follows, obeys, after, judge_items, check_tree}
use Rattle.tree.specs.Growth.{one_frame, takes}

-- a command with a name of one letter, and a flag
command : ℕ → List ℕ
command letter = encode_frame (node 0 0 (letter ∷ []) [] absent)

long : List ℕ
long = encode_frame (flag 0x6c (0x6c ∷ []) absent [])

-- the first command, a flag of it, the next command; not: a flag before any command, the same command again, two frames at once, half a frame, nothing
table :
    (takes [] (command 0x61) ≡ true)
    × (takes (command 0x61) long ≡ true)
    × (takes (command 0x61 ++ long) (command 0x62) ≡ true)
    × (takes [] long ≡ false)
    × (takes (command 0x61) (command 0x61) ≡ false)
    × (takes (command 0x61) (long ++ command 0x62) ≡ false)
    × (takes (command 0x61) (0x01 ∷ 0x00 ∷ []) ≡ false)
    × (takes (command 0x61) [] ≡ false)
unfolding takes one_frame command long check_tree judge_items items items_from encode_frame perhaps text text_of number_bytes read_first head_first node_first flag_first node_lengths definition_lengths span node_in flag_in perhaps_in fair definable is_short is_name is_note all_shown obeys follows after rises order
table = (refl, refl, refl, refl, refl, refl, refl, refl)
