-- Texts of a tree are ASCII: each byte is a character, so that the Rust's widths in characters are ours in bytes.
use Rattle.std.proofs.Common.{◌≡◌, ℕ, ◌-◌, ◌<◌, Bool, true, false, cond, eqb, leb, List, [], ◌∷◌, ◌++◌, length, get_or, replicate, sym, refl, ap, ◌∙◌, append-nil, arith, lt-ltb, leb-true}
use mathlib.Core.Option.{none, some}
use Rattle.buffer.proofs.Choices.{then_is}
use Rattle.text.specs.Unicode.{encode}
use Rattle.text.specs.Decoding.{codes_in, decode_first}
use Rattle.text.proofs.TableRows.{row_ascii}
use Rattle.text.proofs.Prefix.{codes_step, codes_none}
use Rattle.image.specs.Frames.{Perhaps, absent, present}
use Rattle.image.specs.Limits.{is_shown, all_shown, is_name, is_short, optionally}
use Rattle.image.proofs.Fields.{both_first, both_second}
use Rattle.buffer.specs.Ascii.{ascii}
use Rattle.rows.specs.Rows.{blanks, padded, short_then, shown_as}
use Rattle.rust.specs.Std.{is_empty, left_in}
use Rattle.rust.specs.Tree.{some_of, text_of}
use Rattle.rust.specs.Help.{short_str, long_str, label_str}

-- bytes below 80
abbrev pub Plain : List ℕ → Type 0
Plain [] = Unit
Plain (b ∷ t) = (b < 0x80) × Plain t

plain_both : (a b : List ℕ) → Plain a → Plain b → Plain (a ++ b)
plain_both [] b x y = y
plain_both (c ∷ a) b x y = (x.0, plain_both a b x.1 y)

pub encode_plain : (c : ℕ) → c < 0x80 → encode c ≡ c ∷ []
unfolding encode
encode_plain c h = then_is _ _ _ (lt-ltb c 0x80 h)

first_plain : (b : ℕ) (t : List ℕ) → b < 0x80 → codes_in (b ∷ t) ≡ b ∷ codes_in t
unfolding decode_first
first_plain b t h = codes_step (b ∷ t) b 1 (row_ascii b (get_or t 0 0) (get_or t 1 0) (get_or t 2 0) h)

pub codes_after : (s t : List ℕ) → Plain s → codes_in (s ++ t) ≡ s ++ codes_in t
codes_after [] t p = refl
codes_after (b ∷ s) t p = first_plain b (s ++ t) p.0 ∙ ap (λ (l : List ℕ). b ∷ l) (codes_after s t p.1)

codes_plain : (t : List ℕ) → Plain t → codes_in t ≡ t
codes_plain t p = ap codes_in (sym (append-nil t)) ∙ codes_after t [] p ∙ ap (λ (l : List ℕ). t ++ l) codes_none ∙ append-nil t

-- what is shown is plain
shown_plain : (low b : ℕ) → is_shown low b ≡ true → b < 0x80
shown_plain low b e = let h = leb-true b 0x7e (both_second (leb low b) _ e) in omega arith

all_plain : (low : ℕ) (t : List ℕ) → all_shown low t ≡ true → Plain t
unfolding all_shown
all_plain low [] e = tt
all_plain low (b ∷ t) e = (shown_plain low b (both_first (is_shown low b) _ e), all_plain low t (both_second (is_shown low b) _ e))

pub name_plain : (t : List ℕ) → is_name t ≡ true → Plain t
unfolding is_name
name_plain t e = all_plain 0x21 t (both_second (leb (length t) 32) _ (both_second (leb 1 (length t)) _ e))

short_plain : (c : ℕ) → is_short c ≡ true → eqb c 0 ≡ false → c < 0x80
unfolding is_short
short_plain c e z = shown_plain 0x21 c (rw z at e)

-- a column
pub column : (n : ℕ) (t : List ℕ) → Plain t → left_in n t ≡ padded n t
unfolding left_in padded blanks
column n t p = ap (λ (l : List ℕ). t ++ replicate (n - length l) 0x20) (codes_plain t p)

-- `-s`, `--long`, both with a comma, or the name
module _ (c : ℕ) (n : List ℕ) (short : is_short c ≡ true) where
  pub label : (l : Perhaps) → label_str (some_of c) (text_of l) n ≡ shown_as c n l
  unfolding label_str shown_as short_then some_of ascii
  label absent = by (eqb c 0) refl
    where
      by : (z : Bool) → eqb c 0 ≡ z
          → cond (is_empty (long_str (short_str (cond z none (some c))) none)) n (long_str (short_str (cond z none (some c))) none) ≡ cond z n (cond z [] (0x2D ∷ c ∷ []))
      by true q = refl
      by false q = ap (λ (l : List ℕ). 0x2D ∷ l) (encode_plain c (short_plain c short q))
  label (present l) = by (eqb c 0) refl
    where
      by : (z : Bool) → eqb c 0 ≡ z
          → cond (is_empty (long_str (short_str (cond z none (some c))) (some l))) n (long_str (short_str (cond z none (some c))) (some l)) ≡ cond z [] (0x2D ∷ c ∷ ascii ", ") ++ ascii "--" ++ l
      by true q = refl
      by false q = ap (λ (s : List ℕ). 0x2D ∷ (s ++ ascii ", " ++ (ascii "--" ++ l))) (encode_plain c (short_plain c short q))

  pub label_plain : is_name n ≡ true → (l : Perhaps) → optionally is_name l ≡ true → Plain (shown_as c n l)
  unfolding shown_as short_then ascii
  label_plain name absent long = by (eqb c 0) refl
    where
      by : (z : Bool) → eqb c 0 ≡ z → Plain (cond z n (cond z [] (0x2D ∷ c ∷ [])))
      by true q = name_plain n name
      by false q = (omega arith, (short_plain c short q, tt))
  label_plain name (present l) long = by (eqb c 0) refl
    where
      by : (z : Bool) → eqb c 0 ≡ z → Plain (cond z [] (0x2D ∷ c ∷ ascii ", ") ++ ascii "--" ++ l)
      by true q = (omega arith, (omega arith, name_plain l long))
      by false q = (omega arith, (short_plain c short q, (omega arith, (omega arith, (omega arith, (omega arith, name_plain l long))))))
