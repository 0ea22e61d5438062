-- Worked examples of the image test: a small tree, and each rule broken once.
use Rattle.std.specs.Prelude.{Ok, Err, Result, ⊤}
use Prim.Native.Nat.{ℕ}
use mathlib.Core.Path.{◌≡◌, refl}
use mathlib.Core.Bool.{true}
use mathlib.Core.List.{List, [], ◌∷◌, ◌++◌}
use Rattle.buffer.specs.Compare.{order}
use Rattle.buffer.specs.Numbers.{number_bytes}
use Rattle.frame.specs.Text.{text_of}
use Rattle.image.specs.Frames.{Frame, node, option, flag, absent, present, text, perhaps, encode_frame}
use Rattle.image.specs.Limits.{all_shown, is_name, is_note, is_short, definable, fair}
use Rattle.image.specs.Reading.{span, perhaps_in, node_lengths, definition_lengths, node_first, option_first, flag_first, head_first, node_in, option_in, flag_in, read_first}
use Rattle.tree.specs.Images.{items_from, items, flat}
use Rattle.tree.specs.Rules.{rises, follows, obeys, after, judge_items, check_tree}
use Rattle.tree.specs.Forest.{Forest, bare, grown, flatten, options_in, flags_in, definitions_only, orderly}
use Rattle.tree.specs.declared.check.BadFrame.{BadFrame}

-- a node with a name of one letter and nothing else
plain : ℕ → ℕ → Frame
plain depth letter = node depth 0 (letter ∷ []) [] absent

config : Frame
config = option 1 0x63 (0x63 ∷ 0x6f ∷ 0x6e ∷ []) (present (0x63 ∷ [])) []

long : Frame
long = flag 0x6c (0x6c ∷ []) absent []

check : List Frame → Result ⊤ BadFrame
check fs = check_tree (flat fs)

-- the empty image; a, with a flag and an option, below it b (over a) and c, then d; then each rule broken: an option before any node, a depth two
-- above, equal siblings, siblings that fall, a name before its prefix, bytes after the last frame that are none
table :
    (check [] ≡ Ok tt)
    × (check (plain 0 0x61 ∷ long ∷ config ∷ plain 1 0x62 ∷ plain 2 0x61 ∷ plain 1 0x63 ∷ plain 0 0x64 ∷ []) ≡ Ok tt)
    × (check (config ∷ []) ≡ Err (record { number = 0 }))
    × (check (plain 0 0x61 ∷ long ∷ plain 2 0x62 ∷ []) ≡ Err (record { number = 2 }))
    × (check (plain 0 0x61 ∷ plain 1 0x62 ∷ plain 0 0x61 ∷ []) ≡ Err (record { number = 2 }))
    × (check (plain 0 0x62 ∷ plain 0 0x61 ∷ []) ≡ Err (record { number = 1 }))
    × (check (node 0 0 (0x61 ∷ 0x62 ∷ []) [] absent ∷ plain 0 0x61 ∷ []) ≡ Err (record { number = 1 }))
    × (check_tree (flat (plain 0 0x61 ∷ []) ++ (0x01 ∷ 0x00 ∷ [])) ≡ Err (record { number = 1 }))
unfolding check plain config long check_tree judge_items flat items items_from encode_frame perhaps text text_of number_bytes read_first head_first node_first option_first flag_first node_lengths definition_lengths span node_in option_in flag_in perhaps_in fair definable is_short is_name is_note all_shown obeys follows after rises order
table = (refl, refl, refl, refl, refl, refl, refl, refl)

-- a forest and its frames
grove : Forest
grove = grown 0 (0x61 ∷ []) [] absent (long ∷ config ∷ []) (grown 0 (0x62 ∷ []) [] absent [] bare bare) (grown 0 (0x64 ∷ []) [] absent [] bare bare)

grove_frames : flatten 0 grove ≡ plain 0 0x61 ∷ long ∷ config ∷ plain 1 0x62 ∷ plain 0 0x64 ∷ []
unfolding grove flatten plain
grove_frames = refl

grove_orderly : orderly [] 0 grove ≡ true
unfolding grove orderly order fair definable is_short is_name is_note all_shown definitions_only options_in flags_in config long
grove_orderly = refl
