-- Worked examples: the bytes of a state, and bytes that are none.
use Rattle.std.specs.Prelude.{Ok, Err}
use mathlib.Core.Path.{◌≡◌, refl}
use mathlib.Core.Bool.{Bool, true, false}
use Prim.Native.Nat.{ℕ}
use mathlib.Core.List.{List, [], ◌∷◌, ◌++◌}
use lib.ListN.{take, drop}
use Rattle.buffer.specs.Compare.{same_bytes}
use Rattle.buffer.specs.Lend.{zeros}
use Rattle.buffer.specs.Numbers.{number_bytes, number_of}
use Rattle.keys.specs.declared.standing.Profile.TheVariants.{Rust, Ecma48}
use Rattle.keys.specs.declared.standing.Mode.TheVariants.{Sequence, Control}
use Rattle.keys.specs.Modes.{other, longest, single, good_progress, is_profile, profile_of, is_mode, mode_of}
use Rattle.editor.specs.Line.{limit, padded, holding, line_of, good_line, good_editor}
use Rattle.history.specs.declared.stepping.History.{History}
use Rattle.history.specs.Saved.{saved_size as history_size, saved_of as history_saved, saved_in as history_saved_in, is_saved as is_history}
use Rattle.editor.specs.Saved.{saved_size as editor_size, saved_of as editor_saved, saved_in as editor_saved_in, has_keys, has_form, is_saved as is_editor}
use Rattle.state.specs.State.{state_size, saved_of, editor_in, good_saved}
use Rattle.state.specs.Calls.{begin_answer}
use Rattle.state.specs.declared.calls.BeginRefusal.TheVariants.{NoRoom, BadState}

-- `ab` with the cursor at 1, after ESC `[` in the profile of the original, and the second of three entries recalled, which have 258 bytes together and
-- begin in slot 98
abbrev three : History
three = record { count = 3; place = 1; total = 258; first = 98 }

front : take 6 (saved_of (holding (0x61 ∷ 0x62 ∷ []) 1 Sequence Rust) three) ≡ 2 ∷ 2 ∷ 1 ∷ 0x61 ∷ 0x62 ∷ 0 ∷ []
unfolding saved_of editor_saved history_saved number_bytes holding padded limit zeros
front = refl

end : drop 257 (saved_of (holding (0x61 ∷ 0x62 ∷ []) 1 Sequence Rust) three) ≡ 0 ∷ 0 ∷ 0 ∷ 0 ∷ 3 ∷ 1 ∷ 1 ∷ 2 ∷ 98 ∷ []
unfolding saved_of editor_saved history_saved number_bytes holding padded limit zeros
end = refl

-- the same after ESC `[3` in the profile of ECMA-48: one byte is read, and the parameter is 3
control_end :
    drop 257 (saved_of (holding (0x61 ∷ 0x62 ∷ []) 1 (Control (record { read = 1; parameter = 3 })) Ecma48) three) ≡ 0 ∷ 1 ∷ 1 ∷ 3 ∷ 3 ∷ 1 ∷ 1 ∷ 2 ∷ 98 ∷ []
unfolding saved_of editor_saved history_saved number_bytes holding padded limit zeros
control_end = refl

read_back : line_of (editor_in (1 ∷ 2 ∷ 0 ∷ 0x61 ∷ 0x62 ∷ zeros 261)) ≡ 0x61 ∷ 0x62 ∷ []
unfolding line_of editor_in editor_size editor_saved_in zeros
read_back = refl

-- the length, the mode and the cursor of bytes that are no good state, whatever the slots
short : (slots : List ℕ) → good_saved (zeros 265) slots ≡ false
unfolding good_saved is_history history_saved history_saved_in number_bytes number_of is_editor has_form has_keys is_profile is_mode profile_of mode_of editor_saved_in editor_size history_size good_editor good_line line_of padded limit same_bytes zeros
short slots = refl

long : (slots : List ℕ) → good_saved (zeros 267) slots ≡ false
unfolding good_saved is_history history_saved history_saved_in number_bytes number_of is_editor has_form has_keys is_profile is_mode profile_of mode_of editor_saved_in editor_size history_size good_editor good_line line_of padded limit same_bytes zeros
long slots = refl

mode_four : (slots : List ℕ) → good_saved (4 ∷ zeros 265) slots ≡ false
unfolding good_saved is_editor has_form has_keys is_profile is_mode editor_size zeros
mode_four slots = refl

cursor_past_line : (slots : List ℕ) → good_saved (0 ∷ 0 ∷ 1 ∷ zeros 263) slots ≡ false
unfolding good_saved is_editor has_form has_keys is_profile is_mode profile_of mode_of editor_saved_in editor_size good_editor good_line limit zeros
cursor_past_line slots = refl

-- the editor of an empty line in a mode, with a profile, bytes read and a parameter
abbrev keyed : (mode profile read parameter : ℕ) → List ℕ
keyed mode profile read parameter = mode ∷ (zeros 257 ++ (profile ∷ read ∷ parameter ∷ []))

Good : (mode profile read parameter : ℕ) → Bool
Good mode profile read parameter = is_editor (keyed mode profile read parameter)

-- profiles and modes that belong together, and such that do not
modes : (Good 0 0 0 0 ≡ true) × (Good 1 0 0 0 ≡ true) × (Good 2 0 0 0 ≡ true) × (Good 3 0 0 0 ≡ false)
    × (Good 0 1 0 0 ≡ true) × (Good 1 1 0 0 ≡ true) × (Good 2 1 0 0 ≡ false) × (Good 3 1 0 0 ≡ true) × (Good 0 2 0 0 ≡ false)
unfolding Good is_editor has_form has_keys is_profile is_mode profile_of mode_of editor_saved_in editor_size good_editor good_progress good_line line_of padded limit same_bytes zeros
modes = (refl, refl, refl, refl, refl, refl, refl, refl, refl)

-- sequences that bytes lead to, and such that none do; outside one nothing is read
sequences : (Good 3 1 1 3 ≡ true) × (Good 3 1 1 255 ≡ true) × (Good 3 1 15 255 ≡ true)
    × (Good 3 1 0 1 ≡ false) × (Good 3 1 1 0 ≡ false) × (Good 3 1 1 2 ≡ false) × (Good 3 1 2 3 ≡ false) × (Good 3 1 16 255 ≡ false)
    × (Good 0 1 1 255 ≡ false) × (Good 1 1 0 1 ≡ false)
unfolding Good is_editor has_form has_keys is_profile is_mode profile_of mode_of editor_saved_in editor_size good_editor good_progress single other longest good_line line_of padded limit same_bytes zeros
sequences = (refl, refl, refl, refl, refl, refl, refl, refl, refl, refl)

-- the state before the slots, and too short before too long; a number that is no profile's before both
both_short : begin_answer 0 0 0 ≡ Err (NoRoom 266)
unfolding begin_answer is_profile state_size editor_size history_size
both_short = refl

long_state : begin_answer 1 267 25599 ≡ Err BadState
unfolding begin_answer is_profile state_size editor_size history_size
long_state = refl

short_slots : begin_answer 0 266 25599 ≡ Err (NoRoom 25600)
unfolding begin_answer is_profile state_size editor_size history_size
short_slots = refl

long_slots : begin_answer 1 266 25601 ≡ Err BadState
unfolding begin_answer is_profile state_size editor_size history_size
long_slots = refl

no_profile : begin_answer 2 0 0 ≡ Err BadState
unfolding begin_answer is_profile
no_profile = refl

ready : begin_answer 1 266 25600 ≡ Ok tt
unfolding begin_answer is_profile state_size editor_size history_size
ready = refl
