-- Worked examples of forgetting: entries named by one byte, a, b and c.
use Rattle.std.specs.Prelude.{Ok, Err}
use Prim.Native.Nat.{ℕ}
use mathlib.Core.Path.{◌≡◌, refl}
use mathlib.Core.Bool.{true, false}
use mathlib.Core.List.{List, [], ◌∷◌}
use Rattle.buffer.specs.Compare.{same_bytes}
use Rattle.history.specs.Forgotten.{without, repeats, remaining, gone, forget_answer}
use Rattle.history.specs.declared.forgetting.ForgetRefusal.TheVariants.{BadState, NoEntry}

abbrev a : List ℕ
a = 0x61 ∷ []

abbrev b : List ℕ
b = 0x62 ∷ []

abbrev c : List ℕ
c = 0x63 ∷ []

-- the oldest, one between two that differ, the newest, and the only one
oldest : remaining 0 (a ∷ b ∷ c ∷ []) ≡ b ∷ c ∷ []
unfolding remaining repeats without same_bytes
oldest = refl

between : remaining 1 (a ∷ b ∷ c ∷ []) ≡ a ∷ c ∷ []
unfolding remaining repeats without same_bytes
between = refl

newest : remaining 2 (a ∷ b ∷ c ∷ []) ≡ a ∷ b ∷ []
unfolding remaining repeats without same_bytes
newest = refl

only : remaining 0 (a ∷ []) ≡ []
unfolding remaining repeats without same_bytes
only = refl

-- between two equal ones: the older of these goes as well, and no third
equal : remaining 2 (c ∷ a ∷ b ∷ a ∷ c ∷ []) ≡ c ∷ a ∷ c ∷ []
unfolding remaining repeats without same_bytes
equal = refl

in_turn : remaining 1 (a ∷ b ∷ a ∷ b ∷ []) ≡ a ∷ b ∷ []
unfolding remaining repeats without same_bytes
in_turn = refl

-- the newest and the oldest never come together
ends : remaining 1 (a ∷ b ∷ c ∷ a ∷ []) ≡ a ∷ c ∷ a ∷ []
unfolding remaining repeats without same_bytes
ends = refl

-- what is answered
two : forget_answer true 1 (a ∷ b ∷ a ∷ []) ≡ Ok 2
unfolding forget_answer gone repeats without same_bytes
two = refl

one : forget_answer true 0 (a ∷ b ∷ a ∷ []) ≡ Ok 1
unfolding forget_answer gone repeats without same_bytes
one = refl

past : forget_answer true 3 (a ∷ b ∷ a ∷ []) ≡ Err (NoEntry 3)
unfolding forget_answer
past = refl

bad : forget_answer false 3 (a ∷ b ∷ a ∷ []) ≡ Err BadState
unfolding forget_answer
bad = refl
