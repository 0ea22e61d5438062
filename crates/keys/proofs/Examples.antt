-- Worked examples of keys: sequences that act and sequences that do not, as the profile of ECMA-48 and that of the original read them.
use mathlib.Core.Path.{◌≡◌, refl}
use mathlib.Core.List.{[], ◌∷◌}
use Rattle.keys.specs.declared.standing.Profile.{Profile}
use Rattle.keys.specs.declared.standing.Profile.TheVariants.{Rust, Ecma48}
use Rattle.keys.specs.declared.standing.Mode.TheVariants.{Typing}
use Rattle.keys.specs.declared.standing.Action.TheVariants.{Nothing, Insert, Up, Home, Delete}
use Rattle.keys.specs.Modes.{other, longest}
use Rattle.keys.specs.Control.{between, arrow_of, letter, tilde, ended, digit, further}
use Rattle.keys.specs.Keys.{typed, escaped, sequenced, awaiting_more, controlled, mode_after, actions}

-- ESC [ 3 ~, ESC [ A, ESC [ 1 H
delete : actions Ecma48 Typing (0x1B ∷ 0x5B ∷ 0x33 ∷ 0x7E ∷ []) ≡ Nothing ∷ Nothing ∷ Nothing ∷ Delete ∷ []
unfolding actions typed escaped controlled between awaiting_more longest further digit ended tilde
delete = refl

up : actions Ecma48 Typing (0x1B ∷ 0x5B ∷ 0x41 ∷ []) ≡ Nothing ∷ Nothing ∷ Up ∷ []
unfolding actions typed escaped controlled between ended letter arrow_of
up = refl

home : actions Ecma48 Typing (0x1B ∷ 0x5B ∷ 0x31 ∷ 0x48 ∷ []) ≡ Nothing ∷ Nothing ∷ Nothing ∷ Home ∷ []
unfolding actions typed escaped controlled between awaiting_more longest further digit ended letter
home = refl

-- ESC [ 0 1 ~, ESC [ 1 ; 5 C, ESC [ SP 1 ~
two_digits : actions Ecma48 Typing (0x1B ∷ 0x5B ∷ 0x30 ∷ 0x31 ∷ 0x7E ∷ []) ≡ Nothing ∷ Nothing ∷ Nothing ∷ Nothing ∷ Nothing ∷ []
unfolding actions typed escaped controlled between awaiting_more longest further digit other ended tilde
two_digits = refl

modified : actions Ecma48 Typing (0x1B ∷ 0x5B ∷ 0x31 ∷ 0x3B ∷ 0x35 ∷ 0x43 ∷ []) ≡ Nothing ∷ Nothing ∷ Nothing ∷ Nothing ∷ Nothing ∷ Nothing ∷ []
unfolding actions typed escaped controlled between awaiting_more longest further digit other ended
modified = refl

spaced : actions Ecma48 Typing (0x1B ∷ 0x5B ∷ 0x20 ∷ 0x31 ∷ 0x7E ∷ []) ≡ Nothing ∷ Nothing ∷ Nothing ∷ Nothing ∷ Nothing ∷ []
unfolding actions typed escaped controlled between awaiting_more longest further digit other ended tilde
spaced = refl

-- ESC [ CR: the byte that no sequence holds is swallowed, and typing goes on
broken : actions Ecma48 Typing (0x1B ∷ 0x5B ∷ 0x0D ∷ []) ≡ Nothing ∷ Nothing ∷ Nothing ∷ []
unfolding actions typed escaped controlled between
broken = refl

broken_mode : mode_after Ecma48 Typing (0x1B ∷ 0x5B ∷ 0x0D ∷ []) ≡ Typing
unfolding mode_after typed escaped controlled between
broken_mode = refl

-- the eight-bit CSI begins nothing
eight_bit : (p : Profile) → actions p Typing (0x9B ∷ []) ≡ Insert 0x9B ∷ []
unfolding actions typed
eight_bit p = refl

-- the original's ESC [ 3 ~ ends at its 3
original : actions Rust Typing (0x1B ∷ 0x5B ∷ 0x33 ∷ 0x7E ∷ []) ≡ Nothing ∷ Nothing ∷ Nothing ∷ Insert 0x7E ∷ []
unfolding actions typed escaped sequenced arrow_of
original = refl
