-- Laws of the `Debug` text: of one byte, by the tests of the code, and of a word, byte after byte.
use Prim.Native.Nat.{ℕ, ◌+◌, ◌*◌, ◌/◌, ◌%◌, ◌<◌, ◌≤◌}
use mathlib.Core.Path.{◌≡◌, refl, sym, ap, ◌∙◌}
use mathlib.Core.List.{List, [], ◌∷◌, ◌++◌}
use native.Mathlib.Omega.{arith}
use borrow.Author.Tests.{lt-ltb, le-ltb, ne_eqb}
use lib.ListN.{length, drop, get_or}
use Rattle.buffer.proofs.Lists.{drop_step, drop_end}
use Rattle.frame.specs.Hex.{digit_of}
use Rattle.buffer.specs.Inks.{Inked, InkedFrom}
use Rattle.buffer.proofs.Inking.{inked_nothing, inked_both, inked_as}
use Rattle.message.specs.Debug.{hex_digits, code_text, debug_byte, debug_bytes}

pub one_digit : (n d : ℕ) → n < 16 → d ≡ digit_of n → d ∷ [] ≡ hex_digits n
unfolding hex_digits
one_digit n d h e = rw (lt-ltb n 16 h, e)

pub two_digits : (n high low : ℕ) → 16 ≤ n → high ≡ digit_of (n / 16) → low ≡ digit_of (n % 16) → (high ∷ []) ++ (low ∷ []) ≡ hex_digits n
unfolding hex_digits
two_digits n high low h e f = rw (le-ltb n 16 h, e, f)

-- a byte that is none of those with a text of their own
module _ (b : ℕ) (quote : b ≡ 0x22 → ⊥) (slash : b ≡ 0x5c → ⊥) (nought : b ≡ 0x00 → ⊥) (tab : b ≡ 0x09 → ⊥) (feed : b ≡ 0x0a → ⊥) (return : b ≡ 0x0d → ⊥) where
  pub debug_control : b < 0x20 → code_text b ≡ debug_byte b
  unfolding debug_byte
  debug_control h =
      rw (ne_eqb b 0x22 quote, ne_eqb b 0x5c slash, ne_eqb b 0x00 nought, ne_eqb b 0x09 tab, ne_eqb b 0x0a feed, ne_eqb b 0x0d return, lt-ltb b 0x20 h)

  pub debug_plain : (b ≡ 0x7f → ⊥) → 0x20 ≤ b → b ∷ [] ≡ debug_byte b
  unfolding debug_byte
  debug_plain delete h =
      rw (ne_eqb b 0x22 quote, ne_eqb b 0x5c slash, ne_eqb b 0x00 nought, ne_eqb b 0x09 tab, ne_eqb b 0x0a feed, ne_eqb b 0x0d return, le-ltb b 0x20 h, ne_eqb b 0x7f delete)

-- a word on its way: whoever writes the bytes that are left has written them all
pub record OnWord (word out₀ : List ℕ) (at : ℕ) (out : List ℕ) (i end : ℕ) : Type 0 where
  pub within : i ≤ length word
  pub size : length out ≡ length out₀
  pub most : end ≤ at + 64 * i
  pub finish : (r : ℕ) (left : List ℕ) → Inked (debug_bytes (drop i word)) out end r left → Inked (debug_bytes word) out₀ at r left

module _ (word out₀ : List ℕ) (at : ℕ) where
  pub sets_out : OnWord word out₀ at out₀ 0 at
  sets_out = record { within = omega arith; size = refl; most = omega arith; finish = λ r left a. a }

  module _ (out : List ℕ) (i end : ℕ) (way : OnWord word out₀ at out i end) where
    pub arrives : length word ≤ i → InkedFrom word (debug_bytes word) out₀ at end out
    unfolding debug_bytes
    arrives h =
        let m = way.most in
        let w = way.within in
        record { inked = way.finish end out (inked_nothing _ out end (rw (drop_end word i h))); most = omega arith }

    pub goes_on_lem : (r : ℕ) (left : List ℕ) → i < length word → Inked (debug_byte (get_or word i 0)) out end r left → r ≤ end + 6 → OnWord word out₀ at left (i + 1) r
    unfolding debug_bytes
    goes_on_lem r left h a k =
        let m = way.most in
        record {
          within = omega arith;
          size = a.size ∙ way.size;
          most = omega arith;
          finish = λ q last c. way.finish q last (inked_as _ _ _ _ _ _ (ap debug_bytes (sym (drop_step word i 0 h))) (inked_both _ _ _ _ _ _ _ _ a c));
        }
