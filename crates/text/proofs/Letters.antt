-- Letters: which bytes a letter begins with, and that it is no white space.
use Rattle.std.specs.Prelude.{Some, None, Option}
use Prim.Native.Nat.{ℕ, ◌+◌, ◌*◌, ◌%◌, ◌<◌, ◌≤◌}
use mathlib.Core.Path.{◌≡◌, refl, sym, ap, ◌∙◌}
use mathlib.Core.Bool.{Bool, true, false, cond}
use mathlib.Core.List.{List, [], ◌∷◌}
use types.Run.{hit}
use mathlib.Core.Logic.{⊎_elim}
use native.Mathlib.Omega.{arith}
use borrow.Author.Tests.{tests, lt-ltb, le-ltb, ltb-false, eqb-true, eqb-false, leb-false}
use lib.Dec.{ltb, leb, eqb}
use lib.ListN.{length, drop, get_or}
use Rattle.buffer.proofs.Choices.{then_is, else_is, true_is_not_false}
use Rattle.text.specs.declared.utf8.Decoded.{Decoded}
use Rattle.text.specs.declared.utf8.Decoded.TheVariants.{Character, IllFormed, End}
use Rattle.text.specs.Space.{is_white_space}
use Rattle.text.specs.Inner.{length_of, letter_head}
use Rattle.text.specs.Decoding.{within, second, later, decode_two, decode_three, decode_four, table, decode_first, letter, letter_of, letter_first, codes_in, well_formed_length}
use Rattle.text.proofs.TableRows.{two_is, two_not, three_is, three_not, three_cut, four_is, four_not, four_cut, four_cut_last, row_ascii, row_none, row_two, row_three, row_four, row_past, decode_at, decode_end}
use Rattle.text.proofs.Encoding.{below_or_not, second_in, second_least, after_E0, after_F0, within_has}
use Rattle.text.proofs.Spaces.{wide_gap, none_in_a_gap}
use Rattle.text.proofs.Pieces.{character_some, character_fits}
use Rattle.text.proofs.Prefix.{codes_stop, prefix_turn, prefix_none}

-- which codes are letters
letter_below : (n : ℕ) → n < 0xC0 → letter n ≡ false
unfolding letter
letter_below n h = then_is _ _ _ (lt-ltb n 0xC0 h)

letter_near : (n : ℕ) → 0xC0 ≤ n → n < 0x1000 → letter n ≡ true
unfolding letter
letter_near n h k = else_is _ _ _ (le-ltb n 0xC0 h) ∙ then_is _ _ _ (lt-ltb n 0x1000 k)

letter_between : (n : ℕ) → 0x1000 ≤ n → n < 0x4000 → letter n ≡ false
unfolding letter
letter_between n h k = else_is _ _ _ (le-ltb n 0xC0 (omega arith)) ∙ else_is _ _ _ (le-ltb n 0x1000 h) ∙ then_is _ _ _ (lt-ltb n 0x4000 k)

letter_far : (n : ℕ) → 0x4000 ≤ n → n < 0x10000 → letter n ≡ true
unfolding letter
letter_far n h k =
    else_is _ _ _ (le-ltb n 0xC0 (omega arith)) ∙ else_is _ _ _ (le-ltb n 0x1000 (omega arith)) ∙ else_is _ _ _ (le-ltb n 0x4000 h) ∙ lt-ltb n 0x10000 k

letter_past : (n : ℕ) → 0x10000 ≤ n → letter n ≡ false
unfolding letter
letter_past n h =
    else_is _ _ _ (le-ltb n 0xC0 (omega arith)) ∙ else_is _ _ _ (le-ltb n 0x1000 (omega arith)) ∙ else_is _ _ _ (le-ltb n 0x4000 (omega arith)) ∙ le-ltb n 0x10000 h

-- a character by its code, and what is none
is_letter : (d : Decoded) (code n : ℕ) → d ≡ Character code n → letter code ≡ true → letter_of d ≡ Some n
is_letter d code n e h = ap letter_of e ∙ then_is _ _ _ h

no_letter : (d : Decoded) (code n : ℕ) → d ≡ Character code n → letter code ≡ false → letter_of d ≡ None
no_letter d code n e h = ap letter_of e ∙ else_is _ _ _ h

none_there : (d : Decoded) → d ≡ IllFormed → letter_of d ≡ None
none_there d e = ap letter_of e

-- the length of the characters of two and of three bytes
pub two_length : (a b : ℕ) (t : Bool) → second a b ≡ t → length_of (decode_two a b) ≡ cond t (Some 2) None
two_length a b true e = ap length_of (two_is a b e)
two_length a b false e = ap length_of (two_not a b e)

pub three_length : (a b c : ℕ) → second a b ≡ true → later c ≡ true → length_of (decode_three a b c) ≡ Some 3
three_length a b c e f = ap length_of (three_is a b c e f)

pub three_short : (a b c : ℕ) → second a b ≡ false → length_of (decode_three a b c) ≡ None
three_short a b c e = ap length_of (three_not a b c e)

pub three_broken : (a b c : ℕ) → second a b ≡ true → later c ≡ false → length_of (decode_three a b c) ≡ None
three_broken a b c e f = ap length_of (three_cut a b c e f)

-- a character of three bytes, all of whose codes are letters or none is
three_same : (a b c : ℕ) → (second a b ≡ true → letter (a % 0x10 * 0x1000 + b % 0x40 * 0x40 + c % 0x40) ≡ true) → letter_of (decode_three a b c) ≡ length_of (decode_three a b c)
three_same a b c h = by (second a b) (later c) refl refl
  where
    by : (t u : Bool) → second a b ≡ t → later c ≡ u → letter_of (decode_three a b c) ≡ length_of (decode_three a b c)
    by true true e f = is_letter _ _ _ (three_is a b c e f) (h e) ∙ sym (three_length a b c e f)
    by true false e f = none_there _ (three_cut a b c e f) ∙ sym (three_broken a b c e f)
    by false u e f = none_there _ (three_not a b c e) ∙ sym (three_short a b c e)

three_other : (a b c : ℕ) → letter (a % 0x10 * 0x1000 + b % 0x40 * 0x40 + c % 0x40) ≡ false → letter_of (decode_three a b c) ≡ None
three_other a b c h = by (second a b) (later c) refl refl
  where
    by : (t u : Bool) → second a b ≡ t → later c ≡ u → letter_of (decode_three a b c) ≡ None
    by true true e f = no_letter _ _ _ (three_is a b c e f) h
    by true false e f = none_there _ (three_cut a b c e f)
    by false u e f = none_there _ (three_not a b c e)

-- where the codes of three bytes lie
module _ (a b c : ℕ) where
  codes_near : a ≡ 0xE0 → 0xA0 ≤ b → b ≤ 0xBF → letter (a % 0x10 * 0x1000 + b % 0x40 * 0x40 + c % 0x40) ≡ true
  codes_near e h k = letter_near _ (omega arith) (omega arith)

  codes_far : 0xE4 ≤ a → a ≤ 0xEF → letter (a % 0x10 * 0x1000 + b % 0x40 * 0x40 + c % 0x40) ≡ true
  codes_far h k = letter_far _ (omega arith) (omega arith)

  codes_between : 0xE1 ≤ a → a < 0xE4 → letter (a % 0x10 * 0x1000 + b % 0x40 * 0x40 + c % 0x40) ≡ false
  codes_between h k = letter_between _ (omega arith) (omega arith)

-- the first bytes that letters of three have, and have not
pub data Head (a : ℕ) : Type 0 where
  at_E0 : a ≡ 0xE0 → Head a
  from_E4 : 0xE4 ≤ a → a ≤ 0xEF → Head a

head_has : (a : ℕ) → letter_head a ≡ true → Head a
unfolding letter_head
head_has a h = by (eqb a 0xE0) refl h
  where
    by : (t : Bool) → eqb a 0xE0 ≡ t → cond t true (within 0xE4 0xEF a) ≡ true → Head a
    by true e q = at_E0 (eqb-true a 0xE0 e)
    by false e q = let w = within_has 0xE4 0xEF a q in from_E4 w.least w.most

pub data NoHead (a : ℕ) : Type 0 where
  between : 0xE1 ≤ a → a < 0xE4 → NoHead a
  after : 0xF0 ≤ a → NoHead a

head_not : (a : ℕ) → 0xE0 ≤ a → letter_head a ≡ false → NoHead a
unfolding letter_head within
head_not a l h = by (eqb a 0xE0) (leb 0xE4 a) (leb a 0xEF) refl refl refl h
  where
    by : (t u v : Bool) → eqb a 0xE0 ≡ t → leb 0xE4 a ≡ u → leb a 0xEF ≡ v → cond t true (cond u v false) ≡ false → NoHead a
    by true u v e f g q = absurd (true_is_not_false q)
    by false true true e f g q = absurd (true_is_not_false q)
    by false true false e f g q = after (let k = leb-false a 0xEF g in omega arith)
    by false false v e f g q = let n = eqb-false a 0xE0 e in between (let m : (a ≡ 0xE0) → ⊥ = n in omega arith) (leb-false 0xE4 a f)

-- the table by the first byte
module _ (a b c d : ℕ) where
  pub letter_low : a < 0xC3 → letter_of (table a b c d) ≡ None
  letter_low h =
      ⊎_elim
      (λ (k : a < 0x80). no_letter _ a 1 (row_ascii a b c d k) (letter_below a (omega arith)))
      (λ (k : 0x80 ≤ a).
      ⊎_elim (λ (l : a < 0xC2). none_there _ (row_none a b c d k l)) (λ (l : 0xC2 ≤ a). by l (second a b) refl) (below_or_not a 0xC2))
      (below_or_not a 0x80)
    where
      by : 0xC2 ≤ a → (t : Bool) → second a b ≡ t → letter_of (table a b c d) ≡ None
      by l true e = no_letter _ _ 2 (row_two a b c d l (omega arith) ∙ two_is a b e) (letter_below _ (omega arith))
      by l false e = none_there _ (row_two a b c d l (omega arith) ∙ two_not a b e)

  pub letter_two : 0xC3 ≤ a → a < 0xE0 → letter_of (table a b c d) ≡ length_of (decode_two a b)
  letter_two h k = by (second a b) refl ∙ sym (two_length a b (second a b) refl)
    where
      by : (t : Bool) → second a b ≡ t → letter_of (table a b c d) ≡ cond t (Some 2) None
      by true e = is_letter _ _ 2 (row_two a b c d (omega arith) k ∙ two_is a b e) (letter_near _ (omega arith) (omega arith))
      by false e = none_there _ (row_two a b c d (omega arith) k ∙ two_not a b e)

  pub letter_three : letter_head a ≡ true → letter_of (table a b c d) ≡ length_of (decode_three a b c)
  letter_three h = by (head_has a h)
    where
      by : Head a → letter_of (table a b c d) ≡ length_of (decode_three a b c)
      by (at_E0 e) =
          ap letter_of (row_three a b c d (omega arith) (omega arith))
          ∙ three_same a b c (λ s. codes_near a b c e (second_least a b 0xA0 s (after_E0 a e)) (second_in a b s).most)
      by (from_E4 l m) = ap letter_of (row_three a b c d (omega arith) (omega arith)) ∙ three_same a b c (λ s. codes_far a b c l m)

  four_none : 0xF0 ≤ a → a < 0xF5 → letter_of (decode_four a b c d) ≡ None
  four_none h k = by (second a b) (later c) (later d) refl refl refl
    where
      wide : second a b ≡ true → 0x10000 ≤ a % 0x08 * 0x40000 + b % 0x40 * 0x1000 + c % 0x40 * 0x40 + d % 0x40
      wide e =
          ⊎_elim
          (λ (l : a < 0xF1). let z : a ≡ 0xF0 = omega arith in let s = second_least a b 0x90 e (after_F0 a z) in let m = (second_in a b e).most in omega arith)
          (λ (l : 0xF1 ≤ a). omega arith)
          (below_or_not a 0xF1)

      by : (t u v : Bool) → second a b ≡ t → later c ≡ u → later d ≡ v → letter_of (decode_four a b c d) ≡ None
      by true true true e f g = no_letter _ _ 4 (four_is a b c d e f g) (letter_past _ (wide e))
      by true true false e f g = none_there _ (four_cut_last a b c d e f g)
      by true false v e f g = none_there _ (four_cut a b c d e f)
      by false u v e f g = none_there _ (four_not a b c d e)

  pub letter_none : 0xE0 ≤ a → letter_head a ≡ false → letter_of (table a b c d) ≡ None
  letter_none l h = by (head_not a l h)
    where
      by : NoHead a → letter_of (table a b c d) ≡ None
      by (between m n) = ap letter_of (row_three a b c d l (omega arith)) ∙ three_other a b c (codes_between a b c m n)
      by (after m) =
          ⊎_elim
          (λ (n : a < 0xF5). ap letter_of (row_four a b c d m n) ∙ four_none m n)
          (λ (n : 0xF5 ≤ a). none_there _ (row_past a b c d n))
          (below_or_not a 0xF5)

-- the letter at a place of a text
pub letter_is : (s : List ℕ) (i : ℕ) → i < length s → letter_first (drop i s) ≡ letter_of (table (get_or s i 0) (get_or s (i + 1) 0) (get_or s (i + 2) 0) (get_or s (i + 3) 0))
unfolding letter_first
letter_is s i h = ap letter_of (decode_at s i h)

pub letter_end : (s : List ℕ) (i : ℕ) → length s ≤ i → letter_first (drop i s) ≡ None
unfolding letter_first
letter_end s i h = ap letter_of (decode_end s i h)

-- what a letter is: a character past BF that is no white space
pub record Letter (s : List ℕ) (n : ℕ) : Type 0 where
  pub code : ℕ
  pub decodes : decode_first s ≡ Character code n
  pub past : 0xC0 ≤ code
  pub solid : is_white_space code ≡ false

letter_from : (code : ℕ) → letter code ≡ true → 0xC0 ≤ code
unfolding letter
letter_from code h = by (ltb code 0xC0) refl h
  where
    by : (t : Bool) → ltb code 0xC0 ≡ t → cond t false (cond (ltb code 0x1000) true (cond (ltb code 0x4000) false (ltb code 0x10000))) ≡ true → 0xC0 ≤ code
    by true e q = absurd (true_is_not_false (sym q))
    by false e q = ltb-false code 0xC0 e

letter_gap : (code : ℕ) → letter code ≡ true → wide_gap code ≡ true
unfolding letter wide_gap
letter_gap code h = grind (arith, tests)

pub none_is_not_some : (n : ℕ) → None ≡ Some n → ⊥
none_is_not_some n e = let z : ◌≡◌ {A = ℕ} 0 1 = cc in omega arith

pub letter_told : (s : List ℕ) (n : ℕ) → letter_first s ≡ Some n → Letter s n
unfolding letter_first
letter_told s n e = by (decode_first s) refl e
  where
    told : (code m : ℕ) (t : Bool) → decode_first s ≡ Character code m → letter code ≡ t → cond t (Some m) None ≡ Some n → Letter s n
    told code m true p q r =
        let l = letter_from code q in
        let same : m ≡ n = cc in
        record {
          code = code;
          decodes = p ∙ ap (λ (k : ℕ). Character code k) same;
          past = l;
          solid = none_in_a_gap code (letter_gap code q);
        }
    told code m false p q r = absurd (none_is_not_some n r)

    by : (d : Decoded) → decode_first s ≡ d → letter_of d ≡ Some n → Letter s n
    by (Character code m) p q = told code m (letter code) p refl q
    by IllFormed p q = absurd (none_is_not_some n q)
    by End p q = absurd (none_is_not_some n q)

-- what the code finds by the first byte at a place
module _ (s : List ℕ) (i : ℕ) (h : i < length s) where
  pub at_low : get_or s i 0 < 0xC3 → letter_first (drop i s) ≡ None
  at_low k = letter_is s i h ∙ letter_low _ _ _ _ k

  pub at_two : (b : ℕ) (r : Option ℕ) → 0xC3 ≤ get_or s i 0 → get_or s i 0 < 0xE0 → b ≡ get_or s (i + 1) 0 → r ≡ length_of (decode_two (get_or s i 0) b) → r ≡ letter_first (drop i s)
  at_two b r k l e q =
      q ∙ ap (λ (x : ℕ). length_of (decode_two (get_or s i 0) x)) e ∙ sym (letter_is s i h ∙ letter_two (get_or s i 0) (get_or s (i + 1) 0) _ _ k l)

  pub at_three : (b c : ℕ) (r : Option ℕ) → letter_head (get_or s i 0) ≡ true → b ≡ get_or s (i + 1) 0 → c ≡ get_or s (i + 2) 0 → r ≡ length_of (decode_three (get_or s i 0) b c)
      → r ≡ letter_first (drop i s)
  at_three b c r k e f q =
      q ∙ ap (λ (x : ℕ). length_of (decode_three (get_or s i 0) x c)) e ∙ ap (λ (x : ℕ). length_of (decode_three (get_or s i 0) (get_or s (i + 1) 0) x)) f
      ∙ sym (letter_is s i h ∙ letter_three (get_or s i 0) (get_or s (i + 1) 0) (get_or s (i + 2) 0) _ k)

  pub at_none : 0xE0 ≤ get_or s i 0 → letter_head (get_or s i 0) ≡ false → letter_first (drop i s) ≡ None
  at_none k e = letter_is s i h ∙ letter_none _ _ _ _ k e

-- the length of the character that a text begins with, found with its code or without
pub length_letter : (s : List ℕ) (i n : ℕ) → Some n ≡ letter_first (drop i s) → Some n ≡ length_of (decode_first (drop i s))
length_letter s i n e = sym (ap length_of (letter_told (drop i s) n (sym e)).decodes)

record Counted (s : List ℕ) (n : ℕ) : Type 0 where
  code : ℕ
  decodes : decode_first s ≡ Character code n

counted : (s : List ℕ) (n : ℕ) → Some n ≡ length_of (decode_first s) → Counted s n
counted s n e = by (decode_first s) refl (sym e)
  where
    by : (d : Decoded) → decode_first s ≡ d → length_of d ≡ Some n → Counted s n
    by (Character code m) p q = let same : m ≡ n = cc in record { code = code; decodes = p ∙ ap (λ (k : ℕ). Character code k) same }
    by IllFormed p q = absurd (none_is_not_some n q)
    by End p q = absurd (none_is_not_some n q)

-- the well-formed prefix goes on by that length, and ends where there is none
module _ (s : List ℕ) (at : ℕ) where
  module _ (n : ℕ) (e : Some n ≡ length_of (decode_first (drop at s))) where
    pub length_fits : at + n ≤ length s
    length_fits = let c = counted (drop at s) n e in character_fits s at c.code n c.decodes

    pub length_some : 0 < n
    length_some = let c = counted (drop at s) n e in character_some (drop at s) c.code n c.decodes

    pub prefix_more : (total : ℕ) → at + well_formed_length (drop at s) ≡ total → at + n + well_formed_length (drop (at + n) s) ≡ total
    prefix_more total h = let c = counted (drop at s) n e in prefix_turn s at c.code n total c.decodes h

  pub prefix_stop : (total : ℕ) → None ≡ length_of (decode_first (drop at s)) → at + well_formed_length (drop at s) ≡ total → at ≡ total
  prefix_stop total e h = let k = prefix_none (drop at s) (by (decode_first (drop at s)) refl e) in omega arith
    where
      by : (d : Decoded) → decode_first (drop at s) ≡ d → None ≡ length_of d → codes_in (drop at s) ≡ []
      by (Character code m) p q = absurd (none_is_not_some m q)
      by IllFormed p q = codes_stop (drop at s) IllFormed p (hit (1 ∷ 2 ∷ []) 1 tt)
      by End p q = codes_stop (drop at s) End p (hit (1 ∷ 2 ∷ []) 2 tt)
