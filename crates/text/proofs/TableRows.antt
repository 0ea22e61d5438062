-- The rows of Table 3-7, one law for each way through them.
use Prim.Native.Nat.{ℕ, ◌+◌, ◌*◌, ◌%◌, ◌<◌, ◌≤◌}
use mathlib.Core.Path.{◌≡◌, ◌∙◌}
use mathlib.Core.Bool.{true, false}
use mathlib.Core.List.{List}
use native.Mathlib.Omega.{arith}
use borrow.Author.Tests.{lt-ltb, le-ltb}
use lib.ListN.{length, drop, get_or}
use lib.Seq.{get_or-drop}
use Rattle.buffer.proofs.Choices.{then_is, else_is}
use Rattle.buffer.proofs.Lists.{drop_step, drop_end}
use Rattle.text.specs.declared.utf8.Decoded.TheVariants.{Character, IllFormed, End}
use Rattle.text.specs.Decoding.{second, later, decode_two, decode_three, decode_four, table, decode_first}

module _ (a b : ℕ) where
  pub two_is : second a b ≡ true → decode_two a b ≡ Character (a % 0x20 * 0x40 + b % 0x40) 2
  unfolding decode_two
  two_is e = then_is _ _ _ e

  pub two_not : second a b ≡ false → decode_two a b ≡ IllFormed
  unfolding decode_two
  two_not e = else_is _ _ _ e

module _ (a b c : ℕ) where
  pub three_is : second a b ≡ true → later c ≡ true → decode_three a b c ≡ Character (a % 0x10 * 0x1000 + b % 0x40 * 0x40 + c % 0x40) 3
  unfolding decode_three
  three_is e f = then_is _ _ _ e ∙ then_is _ _ _ f

  pub three_not : second a b ≡ false → decode_three a b c ≡ IllFormed
  unfolding decode_three
  three_not e = else_is _ _ _ e

  pub three_cut : second a b ≡ true → later c ≡ false → decode_three a b c ≡ IllFormed
  unfolding decode_three
  three_cut e f = then_is _ _ _ e ∙ else_is _ _ _ f

module _ (a b c d : ℕ) where
  pub four_is : second a b ≡ true → later c ≡ true → later d ≡ true
      → decode_four a b c d ≡ Character (a % 0x08 * 0x40000 + b % 0x40 * 0x1000 + c % 0x40 * 0x40 + d % 0x40) 4
  unfolding decode_four
  four_is e f g = then_is _ _ _ e ∙ then_is _ _ _ f ∙ then_is _ _ _ g

  pub four_not : second a b ≡ false → decode_four a b c d ≡ IllFormed
  unfolding decode_four
  four_not e = else_is _ _ _ e

  pub four_cut : second a b ≡ true → later c ≡ false → decode_four a b c d ≡ IllFormed
  unfolding decode_four
  four_cut e f = then_is _ _ _ e ∙ else_is _ _ _ f

  pub four_cut_last : second a b ≡ true → later c ≡ true → later d ≡ false → decode_four a b c d ≡ IllFormed
  unfolding decode_four
  four_cut_last e f g = then_is _ _ _ e ∙ then_is _ _ _ f ∙ else_is _ _ _ g

  -- which row a first byte has
  pub row_ascii : a < 0x80 → table a b c d ≡ Character a 1
  unfolding table
  row_ascii h = then_is _ _ _ (lt-ltb _ _ h)

  pub row_none : 0x80 ≤ a → a < 0xC2 → table a b c d ≡ IllFormed
  unfolding table
  row_none h k = else_is _ _ _ (le-ltb _ _ h) ∙ then_is _ _ _ (lt-ltb _ _ k)

  pub row_two : 0xC2 ≤ a → a < 0xE0 → table a b c d ≡ decode_two a b
  unfolding table
  row_two h k = else_is _ _ _ (le-ltb a 0x80 (omega arith)) ∙ else_is _ _ _ (le-ltb _ _ h) ∙ then_is _ _ _ (lt-ltb _ _ k)

  pub row_three : 0xE0 ≤ a → a < 0xF0 → table a b c d ≡ decode_three a b c
  unfolding table
  row_three h k =
      else_is _ _ _ (le-ltb a 0x80 (omega arith)) ∙ else_is _ _ _ (le-ltb a 0xC2 (omega arith)) ∙ else_is _ _ _ (le-ltb _ _ h)
      ∙ then_is _ _ _ (lt-ltb _ _ k)

  pub row_four : 0xF0 ≤ a → a < 0xF5 → table a b c d ≡ decode_four a b c d
  unfolding table
  row_four h k =
      else_is _ _ _ (le-ltb a 0x80 (omega arith)) ∙ else_is _ _ _ (le-ltb a 0xC2 (omega arith)) ∙ else_is _ _ _ (le-ltb a 0xE0 (omega arith))
      ∙ else_is _ _ _ (le-ltb _ _ h) ∙ then_is _ _ _ (lt-ltb _ _ k)

  pub row_past : 0xF5 ≤ a → table a b c d ≡ IllFormed
  unfolding table
  row_past h =
      else_is _ _ _ (le-ltb a 0x80 (omega arith)) ∙ else_is _ _ _ (le-ltb a 0xC2 (omega arith)) ∙ else_is _ _ _ (le-ltb a 0xE0 (omega arith))
      ∙ else_is _ _ _ (le-ltb a 0xF0 (omega arith)) ∙ else_is _ _ _ (le-ltb _ _ h)

-- the decoder at a place of a text: the table at the bytes from there on
pub decode_at : (s : List ℕ) (i : ℕ) → i < length s → decode_first (drop i s) ≡ table (get_or s i 0) (get_or s (i + 1) 0) (get_or s (i + 2) 0) (get_or s (i + 3) 0)
unfolding decode_first
decode_at s i h =
    let p : i + 1 + 0 ≡ i + 1 = omega arith in
    let q : i + 1 + 1 ≡ i + 2 = omega arith in
    let r : i + 1 + 2 ≡ i + 3 = omega arith in
    rw (drop_step s i 0, get_or-drop (i + 1) s 0, get_or-drop (i + 1) s 1, get_or-drop (i + 1) s 2, p, q, r)

pub decode_end : (s : List ℕ) (i : ℕ) → length s ≤ i → decode_first (drop i s) ≡ End
unfolding decode_first
decode_end s i h = rw (drop_end s i)

-- an ASCII byte is a character by itself
pub decode_ascii : (s : List ℕ) (i : ℕ) → i < length s → get_or s i 0 < 0x80 → decode_first (drop i s) ≡ Character (get_or s i 0) 1
decode_ascii s i h k = decode_at s i h ∙ row_ascii (get_or s i 0) (get_or s (i + 1) 0) (get_or s (i + 2) 0) (get_or s (i + 3) 0) k
