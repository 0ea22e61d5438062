-- A number in decimal digits (ASCII), as Rust's Display writes it: one digit for 0, and no leading zero (STANDARD 2.19).
use Rattle.std.specs.Prelude.{ℕ, zero, suc, ◌+◌, ◌*◌, ◌-◌, ◌/◌, ◌%◌, cond, List, [], ◌∷◌, ◌++◌, ltb}

-- the digits of n, where at most `most` stand before the last one
unfoldable pub digits_in : ℕ → ℕ → List ℕ
digits_in zero n = (0x30 + n) ∷ []
digits_in (suc most) n = let longer = digits_in most (n / 10) ++ ((0x30 + n % 10) ∷ []) in cond (ltb n 10) ((0x30 + n) ∷ []) longer

-- no number has more digits than its own value and one; law `decimal_step` has the recursion without this bound (2.19)
unfoldable pub decimal : ℕ → List ℕ
decimal n = digits_in n n

-- the value of digits after digits whose value is v, and of digits alone
unfoldable pub value_after : ℕ → List ℕ → ℕ
value_after v [] = v
value_after v (d ∷ s) = value_after (v * 10 + (d - 0x30)) s

unfoldable pub digits_value : List ℕ → ℕ
digits_value s = value_after 0 s
