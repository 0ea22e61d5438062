-- The numbers of a scan: what an open word takes once it ends.
use Prim.Native.Nat.{ℕ, zero, suc, ◌+◌, ◌-◌, ◌<◌, ◌≤◌}
use mathlib.Core.Path.{◌≡◌, refl, ap, ◌∙◌}
use mathlib.Core.List.{List, ◌∷◌}
use native.Mathlib.Omega.{arith}
use lib.ListN.{length}
use Rattle.buffer.specs.Write.{over_at}
use Rattle.buffer.specs.Numbers.{number_bytes}
use Rattle.words.specs.declared.role.Role.{Role}
use Rattle.words.specs.declared.role.Role.TheVariants.{Take, Escape, Toggle, Gap}
use Rattle.words.specs.declared.counting.Scan.{Scan}
use Rattle.words.specs.Inner.{closed_at, closed_by, advanced, headed}

pub closed_none : (done word : ℕ) → word ≡ 0 → closed_at done word ≡ done
unfolding closed_at
closed_none done word e = rw e

pub closed_some : (done word : ℕ) → (word ≡ 0 → ⊥) → closed_at done word ≡ done + 3 + word
unfolding closed_at
closed_some done zero n = absurd (n refl)
closed_some done (suc word) n = refl

pub closed_least : (done word : ℕ) → done + word ≤ closed_at done word
unfolding closed_at
closed_least done zero = omega arith
closed_least done (suc word) = omega arith

pub headed_none : (done word : ℕ) (out : List ℕ) → word ≡ 0 → headed done word out ≡ out
unfolding headed
headed_none done word out e = rw e

pub headed_some : (done word : ℕ) (out : List ℕ) → (word ≡ 0 → ⊥) → headed done word out ≡ over_at (0x14 ∷ number_bytes 2 word) out done
unfolding headed
headed_some done zero out n = absurd (n refl)
headed_some done (suc word) out n = refl

-- the room that a step asks
pub take_room : (s : Scan) (role : Role) (n room : ℕ) → role ≡ Take → 0 < n → closed_by (advanced s role n) ≤ room → s.done + 3 + s.word + n ≤ room
take_room s role n room e h k =
    let r : closed_at s.done (s.word + n) ≤ room = rw e at k in
    let c = closed_some s.done (s.word + n) (λ z. omega arith) in
    omega arith

pub gap_room : (s : Scan) (role : Role) (n room : ℕ) → role ≡ Gap → closed_by (advanced s role n) ≤ room → closed_at s.done s.word ≤ room
gap_room s role n room e k =
    let r : closed_at (closed_at s.done s.word) 0 ≤ room = rw e at k in
    let c = closed_none (closed_at s.done s.word) 0 refl in
    omega arith

-- a step goes on by the character's length
pub advanced_at : (s : Scan) (role : Role) (n : ℕ) → (advanced s role n).at ≡ s.at + n
advanced_at s Take n = refl
advanced_at s Escape n = refl
advanced_at s Toggle n = refl
advanced_at s Gap n = refl

pub step_less : (line : List ℕ) (s r : Scan) (role : Role) (n : ℕ) → r ≡ advanced s role n → 0 < n → s.at + n ≤ length line → length line - r.at < length line - s.at
step_less line s r role n e h k =
    let z : r.at ≡ s.at + n = ap (λ (x : Scan). x.at) e ∙ advanced_at s role n in
    omega arith
