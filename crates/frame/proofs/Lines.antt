-- Laws of house lines: what is written is read, what is read was so written, and there is one answer.
use Rattle.std.specs.Prelude.{Ok, Err, Result}
use Prim.Native.Nat.{ℕ, suc, ◌+◌, ◌-◌, ◌*◌, ◌/◌, ◌%◌, ◌≤◌, ◌<◌}
use mathlib.Core.Path.{◌≡◌, refl, sym, ap, ◌∙◌}
use mathlib.Core.Bool.{Bool, true, false, cond, ◌&&◌}
use mathlib.Core.List.{List, [], ◌∷◌, ◌++◌}
use native.Mathlib.Omega.{arith}
use lib.Dec.{ltb, eqb}
use lib.ListN.{length, take, drop, get_or, length-append}
use lib.Seq.{take-suc, take-length, take_at, get_or_at}
use borrow.Author.Tests.{le-ltb, lt-ltb, ne_eqb, eqb-true, eqb-false, ltb-false}
use Rattle.buffer.specs.Write.{over, Written, Pushed, over_if_fits}
use Rattle.buffer.proofs.Choices.{then_is, else_is}
use Rattle.std.specs.Cmp.Lexicographic.{pointwise}
use Rattle.buffer.proofs.Lists.{drop_step, drop_end}
use Rattle.buffer.specs.Numbers.{Bytes}
use Rattle.frame.specs.Hex.{hex_of, unhex, first_bad}
use Rattle.frame.specs.House.{LF, house_line, ends_in_lF, digits_of, read_digits, read_house, left_by, house_leaves, HouseRead, write_house, HouseWritten}
use Rattle.frame.specs.declared.house.HouseRefusal.{HouseRefusal}
use Rattle.frame.specs.declared.house.HouseRefusal.TheVariants.{Unended, Empty, TooLong, Odd, NoDigit, Short}
use Rattle.buffer.specs.declared.show.TooShort.{TooShort}
use Rattle.buffer.proofs.Writing.{pushed_both, pushed_front, front_pushed}
use Rattle.frame.proofs.Digits.{length_hex_of, length_unhex, hex_digits_lem, hex_read, hex_back}

pub length_house_line : (bytes : List ℕ) → length (house_line bytes) ≡ 2 * length bytes + 1
unfolding house_line
length_house_line bytes = length-append (hex_of bytes) (LF ∷ []) ∙ ap (λ (n : ℕ). n + 1) (length_hex_of bytes)

-- a line that ends with LF: what stands before it, and that it ends
module _ (x : List ℕ) where
  last : length (x ++ (LF ∷ [])) - 1 ≡ length x
  last = let e = length-append x (LF ∷ []) in omega arith

  pub line_ended : ends_in_lF (x ++ (LF ∷ [])) ≡ true
  unfolding ends_in_lF
  line_ended = rw (last, get_or_at x LF [] 0 (length x) refl) refl

  pub line_digits : digits_of (x ++ (LF ∷ [])) ≡ x
  unfolding digits_of
  line_digits = rw last (take_at x (LF ∷ []) (length x) refl)

pub house_digits : (bytes : List ℕ) → digits_of (house_line bytes) ≡ hex_of bytes
unfolding house_line
house_digits bytes = line_digits (hex_of bytes)

pub ended_some : (line : List ℕ) → ends_in_lF line ≡ true → 0 < length line
unfolding ends_in_lF
ended_some [] e = absurd (let z : ◌≡◌ {A = ℕ} 0 1 = cc in omega arith)
ended_some (b ∷ s) e = omega arith

pub ended_back : (line : List ℕ) → ends_in_lF line ≡ true → line ≡ digits_of line ++ (LF ∷ [])
unfolding ends_in_lF digits_of
ended_back line e =
    let k : ℕ = length line - 1 in
    let h = ended_some line e in
    let all : suc k ≡ length line = omega arith in
    let one : get_or line k 0 ≡ LF = eqb-true _ _ e in
    sym (take-length line) ∙ ap (λ (n : ℕ). take n line) (sym all) ∙ take-suc line k 0 (omega arith) ∙ ap (λ (b : ℕ). take k line ++ (b ∷ [])) one

-- the last byte by itself
pub suffix_is : (line : List ℕ) → pointwise eqb (drop (length line - 1) line) (LF ∷ []) ≡ ends_in_lF line
unfolding ends_in_lF
suffix_is [] = refl
suffix_is (b ∷ s) =
    rw (drop_step (b ∷ s) (length (b ∷ s) - 1) 0 (omega arith), drop_end (b ∷ s) (length (b ∷ s) - 1 + 1) (omega arith))
    (alone (eqb (get_or (b ∷ s) (length (b ∷ s) - 1) 0) LF))
  where
    alone : (t : Bool) → (t && true) ≡ t
    alone true = refl
    alone false = refl

-- what digits are, in the order of the tests
module _ (d : List ℕ) (room : ℕ) where
  module _ (some : 0 < length d) (few : length d ≤ 1024) (even : length d % 2 ≡ 0) where
    paired : read_digits d room ≡ cond (ltb (first_bad d) (length d)) (Err (NoDigit (first_bad d))) (cond (ltb room (length d / 2)) (Err (Short (length d / 2))) (Ok (length d / 2)))
    unfolding read_digits
    paired =
        else_is _ _ _ (ne_eqb (length d) 0 (λ e. omega arith))
        ∙ else_is _ _ _ (le-ltb 1024 (length d) few)
        ∙ else_is _ _ _ (ne_eqb (length d % 2) 1 (λ e. omega arith))

    pub digits_frame : length d ≤ first_bad d → length d / 2 ≤ room → read_digits d room ≡ Ok (length d / 2)
    digits_frame all h =
        paired ∙ else_is _ _ _ (le-ltb (first_bad d) (length d) all) ∙ else_is _ _ _ (le-ltb room (length d / 2) h)

-- what is known of digits that make a frame of n bytes
pub record Framing (digits : List ℕ) (room n : ℕ) : Type 0 where
  pub some : 0 < length digits
  pub few : length digits ≤ 1024
  pub even : length digits % 2 ≡ 0
  pub all : length digits ≤ first_bad digits
  pub fits : length digits / 2 ≤ room
  pub count : n ≡ length digits / 2

module _ (d : List ℕ) (room n : ℕ) where
  pub digits_told : read_digits d room ≡ Ok n → Framing d room n
  unfolding read_digits
  digits_told e =
      by (eqb (length d) 0) (ltb 1024 (length d)) (eqb (length d % 2) 1) (ltb (first_bad d) (length d)) (ltb room (length d / 2))
      refl refl refl refl refl e
    where
      never : ◌≡◌ {A = ℕ} 0 1 → Framing d room n
      never z = absurd (omega arith)

      by : (p q r s t : Bool) → eqb (length d) 0 ≡ p → ltb 1024 (length d) ≡ q → eqb (length d % 2) 1 ≡ r → ltb (first_bad d) (length d) ≡ s → ltb room (length d / 2) ≡ t
          → cond p (Err Empty) (cond q (Err TooLong) (cond r (Err Odd) (cond s (Err (NoDigit (first_bad d))) (cond t (Err (Short (length d / 2))) (Ok (length d / 2)))))) ≡ Ok n → Framing d room n
      by true q r s t e1 e2 e3 e4 e5 e = never (cc)
      by false true r s t e1 e2 e3 e4 e5 e = never (cc)
      by false false true s t e1 e2 e3 e4 e5 e = never (cc)
      by false false false true t e1 e2 e3 e4 e5 e = never (cc)
      by false false false false true e1 e2 e3 e4 e5 e = never (cc)
      by false false false false false e1 e2 e3 e4 e5 e =
          let h1 = eqb-false (length d) 0 e1 in
          let h3 = eqb-false (length d % 2) 1 e3 in
          record {
            some = omega arith;
            few = ltb-false 1024 (length d) e2;
            even = omega arith;
            all = ltb-false (first_bad d) (length d) e4;
            fits = ltb-false room (length d / 2) e5;
            count = cc;
          }

module _ (line : List ℕ) (room n : ℕ) where
  pub house_told : read_house line room ≡ Ok n → (ends_in_lF line ≡ true) × Framing (digits_of line) room n
  unfolding read_house
  house_told e = by (ends_in_lF line) refl e
    where
      by : (t : Bool) → ends_in_lF line ≡ t → cond t (read_digits (digits_of line) room) (Err Unended) ≡ Ok n → (ends_in_lF line ≡ true) × Framing (digits_of line) room n
      by true q r = (q, digits_told (digits_of line) room n r)
      by false q r = absurd (let z : ◌≡◌ {A = ℕ} 0 1 = cc in omega arith)

  -- what is read as a frame is the line of it, in as many bytes as are answered
  pub line_back : read_house line room ≡ Ok n → line ≡ house_line (unhex (digits_of line))
  unfolding house_line
  line_back e =
      let told = house_told e in
      ended_back line told.0
      ∙ ap (λ (l : List ℕ). l ++ (LF ∷ [])) (sym (hex_back (digits_of line) told.1.even told.1.all))

  pub line_count : read_house line room ≡ Ok n → n ≡ length (unhex (digits_of line))
  line_count e = (house_told e).1.count ∙ sym (length_unhex (digits_of line))

-- what is written is read
module _ (bytes : List ℕ) (b : Bytes bytes) (some : 1 ≤ length bytes) (few : length bytes ≤ 512) where
  pub line_read : (room : ℕ) → length bytes ≤ room → read_house (house_line bytes) room ≡ Ok (length bytes)
  unfolding house_line read_house
  line_read room fits =
      let d : List ℕ = hex_of bytes in
      let l = length_hex_of bytes in
      let all = hex_digits_lem bytes b in
      let half : length d / 2 ≡ length bytes = omega arith in
      rw (line_ended d, line_digits d)
      (digits_frame d room (omega arith) (omega arith) (omega arith) (omega arith) (omega arith) ∙ ap Ok half)

  pub line_leaves : (out : List ℕ) → length bytes ≤ length out → house_leaves (house_line bytes) out ≡ over bytes out
  unfolding house_leaves
  line_leaves out fits = rw (line_read (length out) fits) (ap (λ (x : List ℕ). over x out) (ap unhex (house_digits bytes) ∙ hex_read bytes b))

-- a refusal leaves the buffer as it was
pub refusal_keeps : (e : HouseRefusal) (bytes out : List ℕ) → left_by (Err e) bytes out ≡ out
refusal_keeps Unended bytes out = refl
refusal_keeps Empty bytes out = refl
refusal_keeps TooLong bytes out = refl
refusal_keeps Odd bytes out = refl
refusal_keeps (NoDigit place) bytes out = refl
refusal_keeps (Short needed) bytes out = refl

-- the line of bytes is their digits and then LF
pub line_pushed : (bytes out mid left : List ℕ) (at r : ℕ) → length (house_line bytes) ≤ length out → Written (hex_of bytes) out at mid → Pushed (LF ∷ []) mid at r left → left ≡ over (house_line bytes) out
unfolding house_line
line_pushed bytes out mid left at r h w p =
    let k : 0 + length (hex_of bytes) ≤ length out = let l = length-append (hex_of bytes) (LF ∷ []) in omega arith in
    (pushed_front _ _ _ _ (pushed_both (hex_of bytes) (LF ∷ []) out mid left 0 at r k (front_pushed _ _ _ _ w) p)).bytes

-- what writing answers and leaves, where there is room and where there is none
module _ (bytes out : List ℕ) where
  pub write_short : (r : ℕ) (left : List ℕ) → length out < r → r ≡ length (house_line bytes) → left ≡ out → HouseWritten bytes out (Err (record { needed = r })) left
  unfolding write_house over_if_fits
  write_short r left h e k =
      let none : length out < length (house_line bytes) = omega arith in
      record {
        answer = ap (λ (n : ℕ). Err (record { needed = n })) e ∙ sym (then_is _ _ _ (lt-ltb _ _ none));
        bytes = k ∙ sym (then_is _ _ _ (lt-ltb _ _ none));
      }

  pub write_whole : (r : ℕ) (left : List ℕ) → r ≤ length out → r ≡ length (house_line bytes) → left ≡ over (house_line bytes) out → HouseWritten bytes out (Ok r) left
  unfolding write_house over_if_fits
  write_whole r left h e k =
      let room : length (house_line bytes) ≤ length out = omega arith in
      record {
        answer = ap Ok e ∙ sym (else_is _ _ _ (le-ltb _ _ room));
        bytes = k ∙ sym (else_is _ _ _ (le-ltb _ _ room));
      }

-- there is one answer
pub read_once : (line out : List ℕ) (r s : Result ℕ HouseRefusal) (x y : List ℕ) → HouseRead line out r x → HouseRead line out s y → (r ≡ s) × (x ≡ y)
read_once line out r s x y p q = (p.answer ∙ sym q.answer, p.bytes ∙ sym q.bytes)

pub write_once : (bytes out : List ℕ) (r s : Result ℕ TooShort) (x y : List ℕ) → HouseWritten bytes out r x → HouseWritten bytes out s y → (r ≡ s) × (x ≡ y)
write_once bytes out r s x y p q = (p.answer ∙ sym q.answer, p.bytes ∙ sym q.bytes)
