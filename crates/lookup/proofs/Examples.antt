-- Worked examples of lookups: the standard's node `set`, with a neighbour on each side.
use Rattle.std.specs.Prelude.{Some, None}
use Prim.Native.Nat.{ℕ}
use mathlib.Core.Path.{◌≡◌, refl}
use mathlib.Core.List.{List, [], ◌∷◌}
use Rattle.buffer.specs.Compare.{same_bytes}
use Rattle.buffer.specs.Numbers.{number_bytes}
use Rattle.frame.specs.Text.{text_of}
use Rattle.image.specs.Frames.{node, option, flag, absent, present, text, perhaps, encode_frame}
use Rattle.image.specs.Reading.{span, perhaps_in, node_lengths, definition_lengths, node_first, option_first, flag_first, head_first, node_in, option_in, flag_in, read_first}
use Rattle.tree.specs.Images.{items_from, items, frames_in, frames_of, flat}
use Rattle.lookup.specs.Spots.{place_of, spot}
use Rattle.lookup.specs.Searches.{keyed, wanted, ended_by}
use Rattle.lookup.specs.Nodes.{subtree_end, find_node}
use Rattle.lookup.specs.Definitions.{has_key, has_short, defined}
use Rattle.lookup.specs.declared.look.Sought.TheVariants.{OptionKeyed}
use Rattle.lookup.specs.declared.definition.Defined.TheVariants.{Flag, Option}

set_name : List ℕ
set_name = 0x73 ∷ 0x65 ∷ 0x74 ∷ []

cfg : List ℕ
cfg = 0x63 ∷ 0x66 ∷ 0x67 ∷ []

-- `go` with a flag x; `set` with flag l and option c, whose long is cfg; below it `on`; `zap` with an option y
image : List ℕ
image =
    flat
    (node 0 0 (0x67 ∷ 0x6f ∷ []) [] absent
    ∷ flag 0x78 (0x78 ∷ []) absent []
    ∷ node 0 0 set_name [] absent
    ∷ flag 0x6c (0x6c ∷ []) absent []
    ∷ option 1 0x63 (0x63 ∷ []) (present cfg) []
    ∷ node 1 0 (0x6f ∷ 0x6e ∷ []) [] absent
    ∷ node 0 0 (0x7a ∷ []) [] absent
    ∷ option 0 0x79 (0x79 ∷ []) absent []
    ∷ [])

-- `set` lies from byte 15 to byte 50, its definitions from 25 on, its child from 41 on; `--cfg` and `-c` are the option, `--l` the flag, `-` nothing;
-- the list ends before the child, so that y is unknown
table :
    (find_node image 0 set_name ≡ Some (record { start = 15; end = 50 }))
    × (find_node image 1 (0x6f ∷ 0x6e ∷ []) ≡ Some (record { start = 41; end = 50 }))
    × (find_node image 0 (0x6f ∷ 0x6e ∷ []) ≡ None)
    × (defined (has_key cfg) image 25 ≡ Some (Option 31))
    × (defined (has_key (0x6c ∷ [])) image 25 ≡ Some (Flag 25))
    × (defined (has_key []) image 25 ≡ None)
    × (defined (has_short 0x63) image 25 ≡ Some (Option 31))
    × (defined (has_short 0x79) image 25 ≡ None)
    × (defined (has_short 0) image 25 ≡ None)
    × (spot (wanted OptionKeyed (0x63 ∷ [])) (ended_by OptionKeyed) image 25 ≡ Some 31)
    × (spot (wanted OptionKeyed (0x6c ∷ [])) (ended_by OptionKeyed) image 25 ≡ None)
unfolding image set_name cfg same_bytes number_bytes text_of text perhaps encode_frame span perhaps_in node_lengths definition_lengths node_first option_first flag_first head_first node_in option_in flag_in read_first items_from items frames_in frames_of flat place_of spot keyed subtree_end find_node defined
table = (refl, refl, refl, refl, refl, refl, refl, refl, refl, refl, refl)
