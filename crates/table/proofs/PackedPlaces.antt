-- Laws of packed places: what is lent back, and that an entry holds the key and the value that it was made of.
use Prim.Native.Nat.{ℕ, zero, suc, ◌+◌, ◌*◌, ◌/◌, ◌%◌, ◌<◌}
use mathlib.Core.Path.{◌≡◌, refl, sym, ap, ◌∙◌}
use mathlib.Core.List.{List}
use native.Mathlib.Omega.{arith}
use Rattle.table.specs.Inner.{part_of, packed, value_length, value_start, key_length, key_start, key_bit, key_slice, bit_of, source_of, key_of, value_of}
use Rattle.table.specs.declared.packing.Source.{Source}
use Rattle.table.specs.declared.packing.Source.TheVariants.{Words, Image}

-- the key by where it lies
pub in_words : (words image : List ℕ) (e : ℕ) → key_bit e ≡ 0 → part_of words (key_start e) (key_length e) ≡ key_of words image e
unfolding key_of
in_words words image e h = ap (λ (n : ℕ). part_of (key_slice words image n) (key_start e) (key_length e)) (sym h)

pub in_image : (words image : List ℕ) (e : ℕ) → (key_bit e ≡ 0 → ⊥) → part_of image (key_start e) (key_length e) ≡ key_of words image e
unfolding key_of
in_image words image e h = by (key_bit e) refl
  where
    by : (n : ℕ) → key_bit e ≡ n → part_of image (key_start e) (key_length e) ≡ part_of (key_slice words image (key_bit e)) (key_start e) (key_length e)
    by zero q = absurd (h q)
    by (suc n) q = ap (λ (j : ℕ). part_of (key_slice words image j) (key_start e) (key_length e)) (sym q)

-- the five numbers of an entry are those that it was made of
module _ (bit key size value len : ℕ) (a : key < 0x10000) (b : size < 0x10000) (d : value < 0x2000) (f : len < 0x2000) where
  high : ℕ
  high = bit * 0x10000 + key

  place : ℕ
  place = high * 0x10000 + size

  low : packed bit key size value len / 0x2000 ≡ place * 0x2000 + value
  unfolding packed high place
  low = omega arith

  middle : packed bit key size value len / 0x2000 / 0x2000 ≡ place
  unfolding place
  middle = ap (λ (n : ℕ). n / 0x2000) low ∙ omega arith

  upper : packed bit key size value len / 0x2000 / 0x2000 / 0x10000 ≡ high
  unfolding high place
  upper = ap (λ (n : ℕ). n / 0x10000) middle ∙ omega arith

  pub packed_length : value_length (packed bit key size value len) ≡ len
  unfolding packed
  packed_length = omega arith

  pub packed_value : value_start (packed bit key size value len) ≡ value
  packed_value = ap (λ (n : ℕ). n % 0x2000) low ∙ omega arith

  pub packed_size : key_length (packed bit key size value len) ≡ size
  unfolding place
  packed_size = ap (λ (n : ℕ). n % 0x10000) middle ∙ omega arith

  pub packed_key : key_start (packed bit key size value len) ≡ key
  unfolding high
  packed_key = ap (λ (n : ℕ). n % 0x10000) upper ∙ omega arith

  pub packed_bit : key_bit (packed bit key size value len) ≡ bit
  unfolding high
  packed_bit = ap (λ (n : ℕ). n / 0x10000) upper ∙ omega arith

-- THE KEY AND THE VALUE of an entry are the parts that it was made of
slice_is : (words image : List ℕ) (source : Source) → key_slice words image (bit_of source) ≡ source_of words image source
slice_is words image Words = refl
slice_is words image Image = refl

module _ (source : Source) (key size value len : ℕ) (a : key < 0x10000) (b : size < 0x10000) (d : value < 0x2000) (f : len < 0x2000) where
  pub entry_key : (words image : List ℕ) → key_of words image (packed (bit_of source) key size value len) ≡ part_of (source_of words image source) key size
  unfolding key_of
  entry_key words image =
      let e : ℕ = packed (bit_of source) key size value len in
      ap (λ (n : ℕ). part_of (key_slice words image n) (key_start e) (key_length e)) (packed_bit (bit_of source) key size value len a b d f)
      ∙ ap (λ (s : List ℕ). part_of s (key_start e) (key_length e)) (slice_is words image source)
      ∙ ap (λ (n : ℕ). part_of (source_of words image source) n (key_length e)) (packed_key (bit_of source) key size value len a b d f)
      ∙ ap (λ (n : ℕ). part_of (source_of words image source) key n) (packed_size (bit_of source) key size value len a b d f)

  pub entry_value : (words : List ℕ) → value_of words (packed (bit_of source) key size value len) ≡ part_of words value len
  unfolding value_of
  entry_value words =
      ap (λ (n : ℕ). part_of words n (value_length (packed (bit_of source) key size value len))) (packed_value (bit_of source) key size value len a b d f)
      ∙ ap (λ (n : ℕ). part_of words value n) (packed_length (bit_of source) key size value len a b d f)
