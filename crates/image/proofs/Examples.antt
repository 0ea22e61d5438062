-- Worked examples: the node of the standard's session, and a frame of each kind with its limits.
use Prim.Native.Nat.{ℕ}
use mathlib.Core.Path.{◌≡◌, refl}
use mathlib.Core.Bool.{true, false}
use mathlib.Core.List.{List, [], ◌∷◌, ◌++◌}
use lib.ListN.{replicate}
use Rattle.buffer.specs.Numbers.{number_bytes}
use Rattle.frame.specs.Text.{text_of}
use Rattle.image.specs.Frames.{Frame, node, flag, absent, present, text, perhaps, encode_frame}
use Rattle.image.specs.Limits.{all_shown, is_name, is_note, is_short, definable, fair}
use Rattle.image.specs.Reading.{span, perhaps_in, node_lengths, definition_lengths, node_first, flag_first, head_first, node_in, flag_in, strict_first, read, broken, read_first}
use Rattle.image.specs.declared.head.Head.TheVariants.{Bad}

log : List ℕ
log = 0x6c ∷ 0x6f ∷ 0x67 ∷ []

-- 01000002036c6f67104368616e6765206c6f67206c6576656c0b6c6f67205b4c4556454c5d
session : Frame
session =
    node 0 2 log (0x43 ∷ 0x68 ∷ 0x61 ∷ 0x6e ∷ 0x67 ∷ 0x65 ∷ 0x20 ∷ 0x6c ∷ 0x6f ∷ 0x67 ∷ 0x20 ∷ 0x6c ∷ 0x65 ∷ 0x76 ∷ 0x65 ∷ 0x6c ∷ [])
    (present (0x6c ∷ 0x6f ∷ 0x67 ∷ 0x20 ∷ 0x5b ∷ 0x4c ∷ 0x45 ∷ 0x56 ∷ 0x45 ∷ 0x4c ∷ 0x5d ∷ []))

session_bytes : encode_frame session
    ≡ 0x01 ∷ 0x00 ∷ 0x00 ∷ 0x02 ∷ 0x03 ∷ 0x6c ∷ 0x6f ∷ 0x67 ∷ 0x10 ∷ 0x43 ∷ 0x68 ∷ 0x61 ∷ 0x6e ∷ 0x67 ∷ 0x65 ∷ 0x20 ∷ 0x6c ∷ 0x6f ∷ 0x67 ∷ 0x20 ∷ 0x6c ∷ 0x65 ∷ 0x76 ∷ 0x65 ∷ 0x6c ∷ 0x0b ∷ 0x6c ∷ 0x6f ∷ 0x67 ∷ 0x20 ∷ 0x5b ∷ 0x4c ∷ 0x45 ∷ 0x56 ∷ 0x45 ∷ 0x4c ∷ 0x5d ∷ []
unfolding session log encode_frame perhaps text text_of number_bytes
session_bytes = refl

session_read : read_first (encode_frame session ++ (0x01 ∷ [])) ≡ read session 37
unfolding session log encode_frame perhaps text text_of number_bytes read_first head_first node_first node_lengths span node_in perhaps_in
session_read = refl

session_fair : fair session ≡ true
unfolding session log fair is_name is_note all_shown
session_fair = refl

-- a flag -l, --long, without a long of its own and without a description
long_flag : List ℕ
long_flag = 0x03 ∷ 0x6c ∷ 0x04 ∷ 0x6c ∷ 0x6f ∷ 0x6e ∷ 0x67 ∷ 0xff ∷ 0x00 ∷ []

flag_read : read_first long_flag ≡ read (flag 0x6c (0x6c ∷ 0x6f ∷ 0x6e ∷ 0x67 ∷ []) absent []) 9
unfolding long_flag read_first head_first flag_first definition_lengths span flag_in perhaps_in
flag_read = refl

-- the same flag without its last byte, and with a description that holds 7F
flag_cut : read_first (0x03 ∷ 0x6c ∷ 0x04 ∷ 0x6c ∷ 0x6f ∷ 0x6e ∷ 0x67 ∷ 0xff ∷ []) ≡ broken
unfolding read_first head_first flag_first definition_lengths span
flag_cut = refl

flag_bad : strict_first (0x03 ∷ 0x6c ∷ 0x04 ∷ 0x6c ∷ 0x6f ∷ 0x6e ∷ 0x67 ∷ 0xff ∷ 0x01 ∷ 0x7f ∷ []) ≡ Bad
unfolding strict_first head_first flag_first definition_lengths span flag_in perhaps_in fair definable is_short is_name is_note all_shown
flag_bad = refl

-- a name of 32 bytes and one of 33, a description of 96 and one of 97
longest_name : is_name (replicate 32 0x7e) ≡ true
unfolding is_name all_shown
longest_name = refl

too_long_name : is_name (replicate 33 0x7e) ≡ false
unfolding is_name all_shown
too_long_name = refl

longest_note : is_note (replicate 96 0x20) ≡ true
unfolding is_note all_shown
longest_note = refl

too_long_note : is_note (replicate 97 0x20) ≡ false
unfolding is_note all_shown
too_long_note = refl
