-- Laws of texts after their length, over the width of the length: what is written is read, and what is read was so written.
use Prim.Native.Nat.{ℕ, ◌+◌, ◌/◌, ◌-◌, ◌%◌, ◌^◌, ◌≤◌, ◌<◌}
use mathlib.Core.Path.{◌≡◌, refl, sym, ap, ◌∙◌}
use mathlib.Core.Bool.{Bool, true, false, cond}
use mathlib.Core.List.{List, [], ◌∷◌, ◌++◌, append_assoc}
use native.Mathlib.Omega.{arith}
use lib.Dec.{leb}
use lib.ListN.{length, take, drop, length-append, length-drop, take-append-drop}
use lib.Seq.{take_at, drop_at, take-add, length-take-le}
use borrow.Author.Tests.{le-leb, lt-leb, leb-true}
use Rattle.buffer.proofs.Choices.{then_is, else_is}
use Rattle.buffer.specs.Numbers.{Bytes, number_bytes, number_of}
use Rattle.buffer.proofs.Numbers.{length_number, number_value, number_one, number_two, value_number, bytes_take}
use Rattle.frame.specs.Text.{text_of, read_text}
use Rattle.std.proofs.Common.{Some, None}

pub length_text_of : (w : ℕ) (t : List ℕ) → length (text_of w t) ≡ w + length t
unfolding text_of
length_text_of w t = length-append (number_bytes w (length t)) t ∙ ap (λ (k : ℕ). k + length t) (length_number w (length t))

-- how reading decides, by the number in front
module _ (w : ℕ) (s : List ℕ) where
  pub read_by : (v : ℕ) → number_of (take w s) ≡ v → read_text w s ≡ cond (leb (w + v) (length s)) (Some v) None
  unfolding read_text
  read_by v e = rw e

  pub read_short : length s < w → read_text w s ≡ None
  unfolding read_text
  read_short h = let k : length s < w + number_of (take w s) = omega arith in else_is _ _ _ (lt-leb _ _ k)

  pub read_told : (n : ℕ) → read_text w s ≡ Some n → (number_of (take w s) ≡ n) × (w + n ≤ length s)
  unfolding read_text
  read_told n e = by (leb (w + number_of (take w s)) (length s)) refl e
    where
      by : (t : Bool) → leb (w + number_of (take w s)) (length s) ≡ t → cond t (Some (number_of (take w s))) None ≡ Some n → (number_of (take w s) ≡ n) × (w + n ≤ length s)
      by true q r = let k : number_of (take w s) ≡ n = cc in (k, rw k at (leb-true (w + number_of (take w s)) (length s) q))
      by false q r = absurd (let z : ◌≡◌ {A = ℕ} 0 1 = cc in omega arith)

-- the same at a place of a list, as the code counts what is left
module _ (w : ℕ) (s : List ℕ) (at left : ℕ) (l : left ≡ length s - at) where
  pub read_end : left < w → read_text w (drop at s) ≡ None
  read_end h = read_short w (drop at s) (rw (length-drop at s) (omega arith))

  pub read_at : (v : ℕ) → number_of (take w (drop at s)) ≡ v → read_text w (drop at s) ≡ cond (leb (w + v) left) (Some v) None
  read_at v e = rw (l, ← length-drop at s) (read_by w (drop at s) v e)

-- what is written is read, whatever stands after it
module _ (w : ℕ) (t rest : List ℕ) where
  apart : text_of w t ++ rest ≡ number_bytes w (length t) ++ (t ++ rest)
  unfolding text_of
  apart = append_assoc (number_bytes w (length t)) t rest

  pub text_read : length t < 256 ^ w → read_text w (text_of w t ++ rest) ≡ Some (length t)
  text_read h =
      let e : number_of (take w (text_of w t ++ rest)) ≡ length t =
      rw (apart, take_at (number_bytes w (length t)) (t ++ rest) w (length_number w (length t))) (number_value w (length t) h)
      in
      let l : length (text_of w t ++ rest) ≡ w + length t + length rest = length-append (text_of w t) rest ∙ ap (λ (k : ℕ). k + length rest) (length_text_of w t) in
      let k : w + length t ≤ length (text_of w t ++ rest) = omega arith in
      read_by w (text_of w t ++ rest) (length t) e ∙ then_is _ _ _ (le-leb _ _ k)

  pub text_found : take (length t) (drop w (text_of w t ++ rest)) ≡ t
  text_found =
      rw (apart, drop_at (number_bytes w (length t)) (t ++ rest) w (length_number w (length t))) (take_at t rest (length t) refl)

-- what is read as a text is the writing of it, and what stands after
pub text_back : (w : ℕ) (s : List ℕ) (n : ℕ) → Bytes s → read_text w s ≡ Some n → s ≡ text_of w (take n (drop w s)) ++ drop (w + n) s
unfolding text_of
text_back w s n h e =
    let told = read_told w s n e in
    let lw : length (take w s) ≡ w = length-take-le w s (let k = told.1 in omega arith) in
    let ln : length (take n (drop w s)) ≡ n = length-take-le n (drop w s) (rw (length-drop w s) (let k = told.1 in omega arith)) in
    let front : number_bytes w n ≡ take w s = rw (lw, told.0) at (value_number (take w s) (bytes_take w s h)) in
    let both : take w s ++ take n (drop w s) ≡ number_bytes w (length (take n (drop w s))) ++ take n (drop w s) = rw (ln, front) refl in
    sym (take-append-drop (w + n) s) ∙ ap (λ (l : List ℕ). l ++ drop (w + n) s) (take-add w n s ∙ both)

-- a text is the bytes of its length and then its own
pub text_one : (t : List ℕ) → text_of 1 t ≡ (length t ∷ []) ++ t
unfolding text_of
text_one t = ap (λ (l : List ℕ). l ++ t) (number_one (length t))

pub text_two : (t : List ℕ) → text_of 2 t ≡ ((length t / 256 ∷ []) ++ (length t % 256 ∷ [])) ++ t
unfolding text_of
text_two t = ap (λ (l : List ℕ). l ++ t) (number_two (length t))
