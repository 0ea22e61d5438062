-- The Rust's `Debug` text of a word is ours where each character outside ASCII is printed as it is.
use Rattle.std.proofs.Common.{◌≡◌, ℕ, ◌+◌, ◌/◌, ◌%◌, ◌<◌, ◌≤◌, Bool, true, false, cond, eqb, ltb, List, [], ◌∷◌, ◌++◌, sym, refl, ap, ◌∙◌, append_assoc, append-nil, arith, ltb-false, ltb-true, le-ltb, lt-ltb, ne_eqb, eqb-true}
use borrow.Author.Tests.{eqb-false}
use Rattle.text.specs.Unicode.{encode, encode_all}
use Rattle.image.proofs.Fields.{both_first, both_second}
use Rattle.buffer.specs.Ascii.{ascii}
use Rattle.message.specs.Debug.{hex_digits, code_text, debug_byte, debug_bytes}
use Rattle.message.proofs.Debugging.{debug_control, debug_plain}
use Rattle.rust.specs.Shell.{hex_in, escape_unicode, is_printable, escape_debug, debug_chars}
use Rattle.rust.specs.Same.{all_printed}
use Rattle.rust.proofs.Plain.{encode_plain}

-- an escape of one digit
control_escape : (c : ℕ) → c < 0x20 → escape_unicode c ≡ code_text c
unfolding escape_unicode code_text hex_in hex_digits
control_escape c h = by (ltb c 16) refl
  where
    by : (t : Bool) → ltb c 16 ≡ t → escape_unicode c ≡ code_text c
    by true q = rw q
    by false q = let k = ltb-false c 16 q in let e : c / 16 < 16 = omega arith in rw (q, lt-ltb (c / 16) 16 e)

below_delete : (c : ℕ) → (c ≡ 0x7f → ⊥) → c < 0x80 → c < 0x7f
below_delete c delete h = omega arith

-- bytes from 80 on are copied
from_on : (least n : ℕ) → 0x80 ≤ least → 0x80 ≤ least + n
from_on least n h = omega arith

abbrev High : List ℕ → Type 0
High [] = Unit
High (b ∷ s) = (0x80 ≤ b) × High s

high_byte : (b : ℕ) → 0x80 ≤ b → debug_byte b ≡ b ∷ []
high_byte b h = sym (debug_plain b (λ e. omega arith) (λ e. omega arith) (λ e. omega arith) (λ e. omega arith) (λ e. omega arith) (λ e. omega arith) (λ e. omega arith) (omega arith))

copied : (s : List ℕ) → High s → debug_bytes s ≡ s
unfolding debug_bytes
copied [] h = refl
copied (b ∷ s) h = rw (high_byte b h.0) (ap (λ (l : List ℕ). b ∷ l) (copied s h.1))

encode_high : (c : ℕ) → 0x80 ≤ c → High (encode c)
unfolding encode
encode_high c h = rw (le-ltb c 0x80 h) (by (ltb c 0x800) (ltb c 0x10000))
  where
    by : (t u : Bool)
        → High (cond t ((0xC0 + c / 0x40) ∷ (0x80 + c % 0x40) ∷ [])
        (cond u ((0xE0 + c / 0x1000) ∷ (0x80 + c / 0x40 % 0x40) ∷ (0x80 + c % 0x40) ∷ [])
        ((0xF0 + c / 0x40000) ∷ (0x80 + c / 0x1000 % 0x40) ∷ (0x80 + c / 0x40 % 0x40) ∷ (0x80 + c % 0x40) ∷ [])))
    by true u = (from_on 0xC0 _ (omega arith), (from_on 0x80 _ (omega arith), tt))
    by false true = (from_on 0xE0 _ (omega arith), (from_on 0x80 _ (omega arith), (from_on 0x80 _ (omega arith), tt)))
    by false false = (from_on 0xF0 _ (omega arith), (from_on 0x80 _ (omega arith), (from_on 0x80 _ (omega arith), (from_on 0x80 _ (omega arith), tt))))

debug_both : (a b : List ℕ) → debug_bytes (a ++ b) ≡ debug_bytes a ++ debug_bytes b
unfolding debug_bytes
debug_both [] b = refl
debug_both (x ∷ a) b = ap (λ (l : List ℕ). debug_byte x ++ l) (debug_both a b) ∙ sym (append_assoc (debug_byte x) (debug_bytes a) (debug_bytes b))

module _ (printable : ℕ → Bool) where
  abbrev Same : ℕ → Type 0
  Same c = escape_debug printable c ≡ debug_byte c

  -- one number by itself, and then all others
  apart : (c k : ℕ) → Same k → ((c ≡ k → ⊥) → Same c) → Same c
  apart c k here more = by (eqb c k) refl
    where
      by : (t : Bool) → eqb c k ≡ t → Same c
      by true q = rw (eqb-true c k q) here
      by false q = more (eqb-false c k q)

  -- none of those with a text of their own
  module _ (c : ℕ) (nought : c ≡ 0x00 → ⊥) (tab : c ≡ 0x09 → ⊥) (return : c ≡ 0x0d → ⊥) (feed : c ≡ 0x0a → ⊥) (slash : c ≡ 0x5c → ⊥) (quote : c ≡ 0x22 → ⊥) where
    others : escape_debug printable c ≡ cond (is_printable printable c) (encode c) (escape_unicode c)
    unfolding escape_debug
    others = rw (ne_eqb c 0x00 nought, ne_eqb c 0x09 tab, ne_eqb c 0x0d return, ne_eqb c 0x0a feed, ne_eqb c 0x5c slash, ne_eqb c 0x22 quote)

    other_same : (c ≡ 0x7f → ⊥) → c < 0x80 → Same c
    unfolding is_printable
    other_same delete h = others ∙ by (ltb c 0x20) refl
      where
        by : (t : Bool) → ltb c 0x20 ≡ t → cond (cond (ltb c 0x20) false (cond (ltb c 0x7f) true (cond (eqb c 0x7f) false (printable c)))) (encode c) (escape_unicode c) ≡ debug_byte c
        by true q = let k = ltb-true c 0x20 q in rw q (control_escape c k ∙ debug_control c quote slash nought tab feed return k)
        by false q =
            let k = ltb-false c 0x20 q in
            rw (q, lt-ltb c 0x7f (below_delete c delete h)) (encode_plain c h ∙ debug_plain c quote slash nought tab feed return delete k)

  low_same : (c : ℕ) → c < 0x80 → Same c
  unfolding escape_debug debug_byte ascii is_printable escape_unicode code_text hex_in hex_digits
  low_same c h =
      apart c 0x00 refl (λ a. apart c 0x09 refl (λ b. apart c 0x0d refl (λ d. apart c 0x0a refl (λ e. apart c 0x5c refl (λ f. apart c 0x22 refl (λ g. apart c 0x7f refl (λ i. other_same c a b d e f g i h)))))))

  -- one character, by its bytes
  char_same : (c : ℕ) → cond (ltb c 0x80) true (printable c) ≡ true → escape_debug printable c ≡ debug_bytes (encode c)
  unfolding debug_bytes is_printable
  char_same c e = by (ltb c 0x80) refl e
    where
      by : (t : Bool) → ltb c 0x80 ≡ t → cond t true (printable c) ≡ true → escape_debug printable c ≡ debug_bytes (encode c)
      by true q k =
          let h = ltb-true c 0x80 q in
          low_same c h ∙ sym (ap debug_bytes (encode_plain c h) ∙ append-nil (debug_byte c))
      by false q k =
          let h = ltb-false c 0x80 q in
          others c (λ z. omega arith) (λ z. omega arith) (λ z. omega arith) (λ z. omega arith) (λ z. omega arith) (λ z. omega arith)
          ∙ rw (le-ltb c 0x20 (omega arith), le-ltb c 0x7f (omega arith), ne_eqb c 0x7f (λ z. omega arith), k) (sym (copied (encode c) (encode_high c h)))

  -- a word by its characters
  pub chars_same : (codes : List ℕ) → all_printed printable codes ≡ true → debug_chars printable codes ≡ debug_bytes (encode_all codes)
  unfolding debug_chars encode_all all_printed debug_bytes
  chars_same [] e = refl
  chars_same (c ∷ codes) e =
      let t : Bool = cond (ltb c 0x80) true (printable c) in
      rw (char_same c (both_first t _ e), chars_same codes (both_second t _ e)) (sym (debug_both (encode c) (encode_all codes)))
