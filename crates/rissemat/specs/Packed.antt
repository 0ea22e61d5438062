-- An answer as one number of 64 bits (STANDARD 10.21).
use Rattle.std.specs.Prelude.{ℕ, ◌+◌, ◌*◌, min}

-- bits 0-31 the value, or the greatest number of 32 bits; bits 32-39 the refusal's number; bits 40-47 the kind of answer; bits 48-63 a second
-- value, or the greatest number of 16 bits (10.21)
unfoldable pub answered : ℕ → ℕ → ℕ → ℕ → ℕ
answered number value kind second =
    min second 0xFFFF * 0x1_0000_0000_0000 + kind * 0x100_0000_0000 + number * 0x1_0000_0000 + min value 0xFFFF_FFFF

-- a call with one kind of answer and no second value (10.21)
abbrev pub plain : ℕ → ℕ → ℕ
plain number value = answered number value 0 0
