-- The key profiles: one is chosen at the fresh state and kept by every key and every other call; in the profile of ECMA-48 a whole control sequence does what the grammar says of it, and
-- the state of a sequence is refused exactly if no bytes lead to it. (What brings typing back is in Lasting, the original's profile in SameAsRust.)
use Rattle.std.specs.Prelude.{Result, ⊤}
use Prim.Native.Nat.{ℕ, ◌+◌, ◌≤◌}
use mathlib.Core.Path.{◌≡◌}
use mathlib.Core.Bool.{true, false}
use mathlib.Core.List.{List, [], ◌∷◌, ◌++◌}
use lib.ListN.{length}
use Rattle.buffer.specs.Lend.{zeros}
use Rattle.history.specs.declared.stepping.History.{History}
use Rattle.history.specs.declared.adding.AddRefusal.{AddRefusal}
use Rattle.history.specs.declared.forgetting.ForgetRefusal.{ForgetRefusal}
use Rattle.keys.specs.declared.standing.Profile.{Profile}
use Rattle.keys.specs.declared.standing.Profile.TheVariants.{Ecma48}
use Rattle.keys.specs.declared.standing.Mode.{Mode}
use Rattle.keys.specs.declared.standing.Mode.TheVariants.{Typing}
use Rattle.keys.specs.declared.standing.Action.TheVariants.{Nothing}
use Rattle.keys.specs.Modes.{good_mode, profile_number}
use Rattle.keys.specs.Control.{goes_on, is_final}
use Rattle.keys.specs.Keys.{mode_after}
use Rattle.keys.specs.Sequences.{is_intermediate, all, ControlSequence, Formed, body, bytes_of, acting, among, said}
use Rattle.keys.proofs.Grammar.{Reads, nothings, body_read, intermediate_nothing, broken_off, too_long}
use Rattle.keys.proofs.Reached.{led_good, good_led}
use Rattle.editor.specs.declared.line.Editor.{Editor}
use Rattle.editor.specs.declared.drawing.KeyAnswer.{KeyAnswer}
use Rattle.editor.specs.declared.drawing.Pressed.{Pressed}
use Rattle.editor.specs.declared.drawing.KeyRefusal.{KeyRefusal}
use Rattle.editor.specs.Turns.{State, turn_by}
use Rattle.editor.specs.Answer.{Pressing}
use Rattle.editor.proofs.Called.{profile_kept}
use Rattle.editor.proofs.Sequences.{KeysDo, sequence_does}
use Rattle.state.specs.State.{editor_in}
use Rattle.state.specs.Calls.{fresh_saved, SavedKey, SavedAdd, SavedForget}
use Rattle.state.proofs.Savings.{fresh_saved_lem}
use Rattle.state.proofs.ByValue.{kept_saved, add_kept, forget_kept}

-- CHOSEN: a fresh session's state has the number of its profile in byte 258, and zeros elsewhere
pub chosen : (p : Profile) → fresh_saved (profile_number p) ≡ zeros 258 ++ (profile_number p ∷ zeros 7)
chosen = fresh_saved_lem

-- KEPT: a key hands back the profile that it was given, whatever it is, does and answers; and leaves it in a saved state, as do a text that is added and an entry that is forgotten
pub kept : (e : Editor) (h : History) (slots prompt : List ℕ) (byte : ℕ) (line screen : List ℕ) (k : KeyAnswer) (slots' line' screen' : List ℕ)
    → Pressing e h slots prompt byte line screen k slots' line' screen' → k.editor.profile ≡ e.profile
kept = profile_kept

pub kept_in_bytes : (state slots prompt : List ℕ) (byte : ℕ) (line screen : List ℕ) (told : Result Pressed KeyRefusal) (state' slots' line' screen' : List ℕ)
    → SavedKey state slots prompt byte line screen told state' slots' line' screen' → (editor_in state').profile ≡ (editor_in state).profile
kept_in_bytes = kept_saved

pub kept_by_add : (state slots text : List ℕ) (told : Result ⊤ AddRefusal) (state' slots' : List ℕ) → SavedAdd state slots text told state' slots'
    → (editor_in state').profile ≡ (editor_in state).profile
kept_by_add = add_kept

pub kept_by_forget : (state slots : List ℕ) (k : ℕ) (told : Result ℕ ForgetRefusal) (state' slots' : List ℕ) → SavedForget state slots k told state' slots'
    → (editor_in state').profile ≡ (editor_in state).profile
kept_by_forget = forget_kept

-- SEQUENCES: while typing in the profile of ECMA-48, the keys of a whole control sequence, of at most fifteen bytes between ESC `[` and its final one, leave and show what the one action
-- leaves and shows that the table of ECMA-48's sequences has for it; nothing if it has none
pub whole_sequence : (prompt : List ℕ) (s : State) (q : ControlSequence) → s.profile ≡ Ecma48 → s.mode ≡ Typing → Formed q → length (body q) ≤ 15
    → KeysDo prompt s (bytes_of q) (turn_by prompt s (said q))
whole_sequence = sequence_does

-- any bytes 20 to 3F and a final byte act by the same table, in which an intermediate byte, wherever it stands, has no row; a byte that no sequence holds, and the sixteenth that is not
-- final, ends one and does nothing
pub any_bytes : (bytes : List ℕ) (final : ℕ) → all goes_on bytes ≡ true → length bytes ≤ 15 → is_final final ≡ true
    → Reads Typing (0x1B ∷ 0x5B ∷ (bytes ++ (final ∷ []))) (nothings (2 + length bytes) ++ (among acting bytes final ∷ [])) Typing
any_bytes = body_read

pub no_intermediate : (front : List ℕ) (b : ℕ) (back : List ℕ) (final : ℕ) → is_intermediate b ≡ true → among acting (front ++ (b ∷ back)) final ≡ Nothing
no_intermediate = intermediate_nothing

pub broken : (bytes : List ℕ) (b : ℕ) → all goes_on bytes ≡ true → length bytes ≤ 15 → goes_on b ≡ false → is_final b ≡ false
    → Reads Typing (0x1B ∷ 0x5B ∷ (bytes ++ (b ∷ []))) (nothings (2 + length bytes) ++ (Nothing ∷ [])) Typing
broken = broken_off

pub sixteenth : (bytes : List ℕ) → all goes_on bytes ≡ true → length bytes ≡ 16 → Reads Typing (0x1B ∷ 0x5B ∷ bytes) (nothings 18) Typing
sixteenth = too_long

-- MODES: the test that a state has to pass (12 otherwise) takes exactly the modes that bytes lead to from typing
pub led_to : (p : Profile) (bytes : List ℕ) → good_mode p (mode_after p Typing bytes) ≡ true
led_to = led_good

pub only_led_to : (p : Profile) (m : Mode) → good_mode p m ≡ true → (bytes : List ℕ) × (mode_after p Typing bytes ≡ m)
only_led_to = good_led
