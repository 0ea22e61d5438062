-- An answer's four parts can be read back from its bits.
use Prim.Native.Nat.{ℕ, ◌/◌, ◌%◌, ◌<◌, min}
use mathlib.Core.Path.{◌≡◌}
use native.Mathlib.Omega.{arith}
use Rattle.rissemat.specs.Packed.{answered}

module _ (number value kind second : ℕ) (n : number < 256) (k : kind < 256) where
  pub value_back : answered number value kind second % 0x1_0000_0000 ≡ min value 0xFFFF_FFFF
  unfolding answered
  value_back = omega arith

  pub number_back : answered number value kind second / 0x1_0000_0000 % 256 ≡ number
  unfolding answered
  number_back = omega arith

  pub kind_back : answered number value kind second / 0x100_0000_0000 % 256 ≡ kind
  unfolding answered
  kind_back = omega arith

  pub second_back : answered number value kind second / 0x1_0000_0000_0000 ≡ min second 0xFFFF
  unfolding answered
  second_back = omega arith
