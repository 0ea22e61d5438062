-- Where a stream begins, and what is left of a piece.
use Prim.Native.Nat.{ℕ, ◌+◌, ◌≤◌}
use mathlib.Core.Path.{◌≡◌, ap}
use mathlib.Core.List.{List}
use native.Mathlib.Omega.{arith}
use lib.ListN.{length, drop, length-drop}
use Rattle.history.specs.Journal.{no_entries, slots_of}
use Rattle.keys.specs.declared.standing.Profile.{Profile}
use Rattle.stream.specs.Bytes.{line_room}
use Rattle.stream.specs.Held.{starting, Sound}
use Rattle.stream.proofs.Standings.{start_sound}

-- at the beginning
pub begins : (profile : Profile) (line image slots : List ℕ) → length line ≡ line_room → length image ≡ 32768 → slots ≡ slots_of no_entries → Sound (starting profile) line image slots
begins profile line image slots l m s = rw s (start_sound profile line image l m)

-- what is taken of the rest of a piece lies within the piece
pub within : (piece left : List ℕ) (took more : ℕ) → took ≤ length piece → left ≡ drop took piece → more ≤ length left → took + more ≤ length piece
within piece left took more h e m = let k = ap length e in let d = length-drop took piece in omega arith
